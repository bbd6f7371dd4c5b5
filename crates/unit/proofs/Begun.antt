-- What a unit's head says of its body is what its first bytes say.
use Prim.Native.Nat.{ℕ, ◌%◌}
use mathlib.Core.Path.{◌≡◌, refl, sym, ap, ◌∙◌}
use mathlib.Core.List.{List}
use mathlib.Core.Bool.{true, true≢false}
use native.Mathlib.Omega.{arith}
use borrow.Author.Tests.{eqb-true}
use lib.Dec.{leb}
use lib.ListN.{length, get_or}
use Rattle.bits.specs.Refusals.{limit}
use Rattle.bits.specs.declared.refusals.Refusal.{Refusal}
use Rattle.bits.proofs.Results.{cases}
use Rattle.nal.specs.declared.header.NalHeader.{NalHeader}
use Rattle.nal.specs.declared.extension.NalHeaderExtension.{NalHeaderExtension}
use Rattle.nal.specs.Header.{nal_ref_idc, nal_unit_type, header_of}
use Rattle.nal.specs.UnitType.{type_of, id_of}
use Rattle.nal.specs.Extension.{extension_from, extension_of}
use Rattle.nal.proofs.FirstByte.{ref-idc, unit-type}
use Rattle.nal.proofs.Types.{id-of-type}
use Rattle.table.proofs.Tests.{both}
use Rattle.header.specs.Kinds.{kind_of}
use Rattle.unit.specs.declared.head.UnitHead.{UnitHead}
use Rattle.unit.specs.declared.begin.Begun.{Begun}
use Rattle.unit.specs.Begin.{absent_extension, type_in, has_extension, prefix_kind, extended, by_type, typed, with_header, begun, first_of, begun_by}
use Rattle.unit.specs.Head.{head_with, head_typed, head_first, head_of, equal, same_head}
use Rattle.std.specs.Prelude.{Result, Ok, Err}

-- ---- a first byte, and the one made of its head

module _ (h : NalHeader) (a b c : ℕ) where
  abbrev first : NalHeader
  first = first_of (head_with h a b c)

  type-number : type_in h ≡ h.0 % 32
  type-number = ap id_of (unit-type h) ∙ id-of-type (h.0 % 32) (omega arith)

  same-idc : nal_ref_idc first ≡ nal_ref_idc h
  same-idc = ref-idc first ∙ omega (arith, ref-idc h, type-number) ∙ sym (ref-idc h)

  same-type : nal_unit_type first ≡ nal_unit_type h
  same-type = unit-type first ∙ ap type_of (omega (arith, type-number)) ∙ sym (unit-type h)

  same_kind : (e : NalHeaderExtension) → kind_of first e ≡ kind_of h e
  unfolding kind_of
  same_kind e = rw (same-idc, same-type)

  same-prefix : (e : NalHeaderExtension) → prefix_kind first e ≡ prefix_kind h e
  unfolding prefix_kind
  same-prefix (NalHeaderExtension.Mvc m) = refl
  same-prefix (NalHeaderExtension.Svc v) = rw same-idc

  same-begun : begun_by (head_with h a b c) ≡ by_type h (extended h (extension_from a b c))
  unfolding begun_by extended
  same-begun = rw (same_kind absent_extension, same_kind (extension_from a b c), same-prefix (extension_from a b c), same-type)

-- ---- a head that is given

module _ (unit : List ℕ) {g : UnitHead} where
  never : {r : Refusal} {b : Begun} → ◌≡◌ {A = Result UnitHead Refusal} (Err r) (Ok g) → b ≡ begun_by g
  never q = let z : ◌≡◌ {A = ℕ} 0 1 = cc in absurd (omega arith)

  given : {d : UnitHead} {b : Begun} → ◌≡◌ {A = Result UnitHead Refusal} (Ok d) (Ok g) → b ≡ begun_by d → b ≡ begun_by g
  given {d = d} q e = let p : d ≡ g = cc in e ∙ ap begun_by p

  typed-given : (h : NalHeader) → head_typed unit h ≡ Ok g → typed unit h ≡ begun_by g
  unfolding head_typed typed extension_of
  typed-given h q =
      cases (has_extension (type_in h))
      (λ i.
      cases (leb 4 (length unit))
      (λ j. given (rw (i, j) at q) (rw j (sym (same-begun h (get_or unit 1 0) (get_or unit 2 0) (get_or unit 3 0)))))
      (λ j. never (rw (i, j) at q)))
      (λ i. given (rw i at q) (rw (same-begun h 0 0 0, i)))

  first-given : (x : Result NalHeader Refusal) → head_first unit x ≡ Ok g → with_header unit x ≡ begun_by g
  first-given (Ok h) q = typed-given h q
  first-given (Err r) q = never q

  pub begun-given : head_of unit ≡ Ok g → begun unit ≡ begun_by g
  unfolding head_of begun
  begun-given q =
      cases (leb (length unit) limit)
      (λ i. rw i (first-given (header_of unit) (rw i at q)))
      (λ i. never (rw i at q))

-- ---- a head that has been compared

equal_is : (a b : UnitHead) → equal a b ≡ true → b ≡ a
equal_is a b e =
    let p = both _ _ e in
    let k = both _ _ p.0 in
    let x = both _ _ p.1 in
    let y = both _ _ x.1 in
    let t = eqb-true a.nal_unit_type b.nal_unit_type k.0 in
    let i = eqb-true a.nal_ref_idc b.nal_ref_idc k.1 in
    let f = eqb-true a.b1 b.b1 x.0 in
    let s = eqb-true a.b2 b.b2 y.0 in
    let l = eqb-true a.b3 b.b3 y.1 in
    λ n. record { nal_unit_type = sym t n; nal_ref_idc = sym i n; b1 = sym f n; b2 = sym s n; b3 = sym l n }

pub begun-own : (unit : List ℕ) (h : UnitHead) → same_head h (head_of unit) ≡ true → begun unit ≡ begun_by h
begun-own unit h e = go (head_of unit) refl e
  where
    go : (x : Result UnitHead Refusal) → head_of unit ≡ x → same_head h x ≡ true → begun unit ≡ begun_by h
    go (Ok g) q e = begun-given unit q ∙ ap begun_by (equal_is h g e)
    go (Err r) q e = absurd (true≢false (sym e))
