-- What holds of the whole header: what is written is read back, what is read is written as it stood, which records have bits, and that reading looks at no bit
-- behind the header but for one that is set.
use Prim.Native.Nat.{ℕ, ◌+◌}
use mathlib.Core.Path.{◌≡◌, refl, ap, sym, subst, ◌∙◌}
use mathlib.Core.List.{[], ◌∷◌, ◌++◌}
use mathlib.Core.Bool.{true, false}
use native.Mathlib.Omega.{arith}
use native.Mathlib.Nat.{zero-add}
use lib.Dec.{T}
use lib.ListN.{length, take, drop, take-append-drop}
use lib.Seq.{drop-append-add, drop-drop}
use Rattle.bits.specs.Refusals.{got}
use Rattle.bits.specs.Bits.{Bits}
use Rattle.bits.proofs.Results.{cases, under, chosen}
use Rattle.fmt.proofs.Lawful.{T_true}
use Rattle.fmt.proofs.Any.{exact-at, unreadable}
use Rattle.fmt.proofs.Any as any
use Rattle.table.specs.declared.table.Table.{Table}
use Rattle.syntax.specs.declared.context.UnitKind.{UnitKind}
use Rattle.syntax.specs.declared.record.SliceHeader.{SliceHeader}
use Rattle.syntax.specs.SliceHeader.{header, any_set, read_header}
use Rattle.syntax.proofs.Whole.{header-lawful}

-- a header stands at the front of the bits s, and ends at e
pub record Stands (t : Table) (n : UnitKind) (s : Bits) (h : SliceHeader) (e : ℕ) : Type 0 where
  pub is-good : T ((header t n).good h)
  pub size : e ≡ length ((header t n).bits h)
  pub bits_are : take e s ≡ (header t n).bits h
  pub more : any_set (drop (e + 1) s) ≡ true

module _ (t : Table) (n : UnitKind) where
  -- the bits of a good record read to it, where a bit is set behind the one that follows them
  pub reads-back : (h : SliceHeader) (q : Bits) → T ((header t n).good h) → any_set (drop 1 q) ≡ true
      → read_header t n ((header t n).bits h ++ q) ≡ got h (length ((header t n).bits h))
  unfolding read_header
  reads-back h q g m =
      let b = (header t n).bits h in
      rw (rw (zero-add (length b)) at ((header-lawful t n).back [] q h g), drop-append-add b q 1, m)

  -- what is read stands there: so the header is written to the very bits that were read
  pub rewrites : (s : Bits) (h : SliceHeader) (e : ℕ) → read_header t n s ≡ got h e → Stands t n s h e
  unfolding read_header
  rewrites s h e r =
      under ((header t n).read s 0) _ r
      (λ a d ha k.
      let w = chosen (any_set (drop (d + 1) s)) a h d e _ k in
      let f : (header t n).read s 0 ≡ got h e = cc (ha, w.1, w.2) in
      let x = exact-at (header t n) (header-lawful t n) s 0 h e (omega arith) f in
      let z : e ≡ length ((header t n).bits h) = x.place ∙ zero-add (length ((header t n).bits h)) in
      record {
        is-good = x.is-good;
        size = z;
        bits_are = ap (λ (k : ℕ). take k s) z ∙ any.rewrites (header t n) (header-lawful t n) s 0 h e (omega arith) f;
        more = rw w.2 at (T_true (any_set (drop (d + 1) s)) w.0);
      })

  -- and what stands there is read
  pub reads : (s : Bits) (h : SliceHeader) (e : ℕ) → Stands t n s h e → read_header t n s ≡ got h e
  reads s h e x =
      let v : s ≡ (header t n).bits h ++ drop e s = sym (take-append-drop e s) ∙ ap (λ (l : Bits). l ++ drop e s) x.bits_are in
      ap (read_header t n) v ∙ reads-back h (drop e s) x.is-good (ap any_set (drop-drop 1 e s) ∙ x.more) ∙ ap (got h) (sym x.size)

  -- no bits read to a record that is not good
  pub unread : (h : SliceHeader) → (header t n).good h ≡ false → (s : Bits) (e : ℕ) → (header t n).read s 0 ≡ got h e → ⊥
  unread h g s e = unreadable (header t n) (header-lawful t n) h g s 0 e (omega arith)

  -- and a record to which no bits read is not good
  pub not_good : (h : SliceHeader) → ((s : Bits) (e : ℕ) → read_header t n s ≡ got h e → ⊥) → (header t n).good h ≡ false
  not_good h f =
      cases ((header t n).good h) (λ g. absurd (f _ _ (reads-back h (true ∷ true ∷ []) (subst T (sym g) tt) refl))) (λ g. g)

  -- a change behind the header, with a bit still set behind the one that follows it, leaves the record as it was
  pub local : (s u : Bits) (h : SliceHeader) (e : ℕ) → read_header t n s ≡ got h e → take e u ≡ take e s → any_set (drop (e + 1) u) ≡ true
      → read_header t n u ≡ got h e
  local s u h e r w m =
      let x = rewrites s h e r in
      reads u h e (record { is-good = x.is-good; size = x.size; bits_are = w ∙ x.bits_are; more = m })
