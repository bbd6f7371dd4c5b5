-- A good record has passed the writer's checks: its sets are in the table, and it is no scalable slice's.
use Prim.Native.Nat.{ℕ}
use mathlib.Core.Path.{◌≡◌, refl, ap}
use mathlib.Core.Bool.{Bool, false}
use lib.Dec.{T, leb}
use lib.IntN.{ℤ}
use Rattle.fmt.specs.Fmt.{Fmt, test}
use Rattle.fmt.proofs.Lawful.{both-1, T_true, not-T-false}
use Rattle.table.specs.declared.sets.Picture.{Picture}
use Rattle.table.specs.declared.sets.Sequence.{Sequence}
use Rattle.writer.specs.declared.sets.NamedSets.{NamedSets}
use Rattle.table.specs.declared.table.Table.{Table}
use Rattle.table.specs.Tables.{found_picture, picture_at, sequence_at}
use Rattle.syntax.specs.declared.context.UnitKind.{UnitKind}
use Rattle.syntax.specs.declared.record.SliceHeader.{SliceHeader}
use Rattle.syntax.specs.Context.{is_there, is_there_too, picture_for, sequence_id_for, context_for}
use Rattle.syntax.specs.SliceHeader.{picture_set_id, lead, not_scalable, modifications, parts, header}
use Rattle.syntax.proofs.Goods.{seq-first, seq-rest, shaped_from, test-ok}
use Rattle.writer.specs.Write.{sets_for}
use Rattle.std.specs.Prelude.{Ok, Option, Some, None}

-- the sets that an id names are in the table
pub record Found (t : Table) (id : ℕ) : Type 0 where
  pub sets : NamedSets
  pub are : sets_for t id ≡ Ok sets

in-test : {A : Type 0} (ok : A → Bool) (n : ℕ) (value : A → ℤ) (F : Fmt A) (a : A) → T ((test ok n value F).good a) → T (F.good a)
unfolding test
in-test ok n value F a = both-1 (ok a) (F.good a)

module _ (t : Table) (id : ℕ) where
  with-sequence : (p : Picture) (w : ℕ) (f : Option Sequence) → T (leb id 255) → picture_at t id ≡ found_picture p w → sequence_at t p.seq_parameter_set_id ≡ f
      → T (is_there_too f) → Found t id
  unfolding sets_for
  with-sequence p w (Some s) l k g i = record { sets = record { picture = p; cycle_width = w; sequence = s }; are = rw (T_true (leb id 255) l, k, g) }
  with-sequence p w None l k g i = absurd i

  pub picture-is : {p : Picture} {w : ℕ} → picture_at t id ≡ found_picture p w → picture_for t id ≡ p
  unfolding picture_for
  picture-is k = rw k

  pub sequence-id : {p : Picture} {w : ℕ} → picture_at t id ≡ found_picture p w → sequence_id_for t id ≡ p.seq_parameter_set_id
  unfolding sequence_id_for
  sequence-id k = ap (λ (x : Picture). x.seq_parameter_set_id) (picture-is k)

  with-picture : (f : Option (Picture × ℕ)) → T (leb id 255) → picture_at t id ≡ f → T (is_there f) → T (is_there_too (sequence_at t (sequence_id_for t id))) → Found t id
  with-picture (found_picture p w) l k i j = with-sequence p w (sequence_at t p.seq_parameter_set_id) l k refl (rw (sequence-id k) at j)
  with-picture None l k i j = absurd i

  pub id-found : T ((picture_set_id t).good id) → Found t id
  unfolding picture_set_id
  id-found g =
      let a = in-test _ _ _ _ id g in
      let b = in-test _ _ _ _ id a in
      with-picture (picture_at t id) (test-ok _ _ _ _ id b) refl (test-ok _ _ _ _ id a) (test-ok _ _ _ _ id g)

module _ (t : Table) (n : UnitKind) (h : SliceHeader) (g : T ((header t n).good h)) where
  pub sets-found : Found t h.pic_parameter_set_id
  unfolding header lead
  sets-found = id-found t _ (seq-rest _ _ _ (seq-rest _ _ _ (seq-first _ _ _ (shaped_from _ _ _ _ h g))))

  pub not-scalable : n.svc ≡ false
  unfolding header parts modifications not_scalable context_for
  not-scalable =
      let m = seq-first _ _ _ (seq-rest _ _ _ (seq-rest _ _ _ (seq-rest _ _ _ (seq-rest _ _ _ (shaped_from _ _ _ _ h g))))) in
      not-T-false n.svc (test-ok _ _ _ _ tt (seq-first _ _ _ (shaped_from _ _ _ _ _ m)))
