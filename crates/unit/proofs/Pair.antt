-- A unit's head and its body, read in turn, are the unit read at once.
use Prim.Native.Nat.{ℕ}
use mathlib.Core.Path.{◌≡◌, refl, sym, subst⁻¹}
use mathlib.Core.List.{List}
use mathlib.Core.Bool.{true, false}
use native.Mathlib.Omega.{arith}
use borrow.Author.Tests.{eq-eqb}
use lib.Dec.{leb, eqb, eqb→eq}
use lib.IntN.{pos}
use lib.ListN.{length}
use Rattle.bits.specs.Refusals.{refusal, limit}
use Rattle.bits.specs.declared.refusals.Refusal.{Refusal}
use Rattle.bits.proofs.Results.{cases}
use Rattle.nal.specs.declared.header.NalHeader.{NalHeader}
use Rattle.nal.specs.Header.{header_of}
use Rattle.nal.specs.Extension.{extension_of}
use Rattle.table.specs.declared.table.Table.{Table}
use Rattle.unit.specs.declared.answer.UnitAnswer.{UnitAnswer}
use Rattle.unit.specs.declared.head.UnitHead.{UnitHead}
use Rattle.unit.specs.declared.begin.Begun.{Begun}
use Rattle.unit.specs.Begin.{type_in, is_plain, has_extension, with_extension, typed, with_header, begun}
use Rattle.unit.specs.Unit.{untouched, unit_read}
use Rattle.unit.specs.Head.{not_its_head, head_extended, head_typed, head_first, head_of, equal, same_head, body_read, in_turn}
use Rattle.std.specs.Prelude.{Result, Ok, Err}
use Rattle.nal.specs.declared.extension.NalHeaderExtension.{NalHeaderExtension}

-- types 1 and 5 have no extension
none-plain : (t : ℕ) → is_plain t ≡ true → has_extension t ≡ false
none-plain t p =
    cases (eqb t 1)
    (λ i. subst⁻¹ (λ (n : ℕ). has_extension n ≡ false) (eqb→eq t 1 (rw i tt)) refl)
    (λ i. let j : eqb t 5 ≡ true = rw i at p in subst⁻¹ (λ (n : ℕ). has_extension n ≡ false) (eqb→eq t 5 (rw j tt)) refl)

-- a head is its own
equal-same : (h : UnitHead) → equal h h ≡ true
equal-same h =
    let same : (n : ℕ) → eqb n n ≡ true = λ n. eq-eqb n n refl in
    rw (same h.nal_unit_type, same h.nal_ref_idc, same h.b1, same h.b2, same h.b3)

-- ---- a refused head is the unit's refusal

module _ (unit : List ℕ) {r : Refusal} where
  never : {h : UnitHead} {b : Begun} → ◌≡◌ {A = Result UnitHead Refusal} (Ok h) (Err r) → b ≡ Begun.Refused r
  never q = let z : ◌≡◌ {A = ℕ} 0 1 = cc in absurd (omega arith)

  passed : {d : Refusal} → ◌≡◌ {A = Result UnitHead Refusal} (Err d) (Err r) → Begun.Refused d ≡ Begun.Refused r
  passed q = cc

  extended-refused : (h : NalHeader) (x : Result NalHeaderExtension Refusal) → head_extended unit h x ≡ Err r → with_extension h x ≡ Begun.Refused r
  extended-refused h (Ok e) q = never q
  extended-refused h (Err d) q = passed q

  typed-refused : (h : NalHeader) → head_typed unit h ≡ Err r → typed unit h ≡ Begun.Refused r
  unfolding head_typed typed
  typed-refused h q =
      cases (is_plain (type_in h))
      (λ i. never (rw (none-plain (type_in h) i) at q))
      (λ i.
      rw i
      (cases (has_extension (type_in h))
      (λ j. rw j (extended-refused h (extension_of unit) (rw j at q)))
      (λ j. never (rw j at q))))

  first-refused : (x : Result NalHeader Refusal) → head_first unit x ≡ Err r → with_header unit x ≡ Begun.Refused r
  first-refused (Ok h) q = typed-refused h q
  first-refused (Err d) q = passed q

  pub begun-refused : head_of unit ≡ Err r → begun unit ≡ Begun.Refused r
  unfolding head_of begun
  begun-refused q =
      cases (leb (length unit) limit)
      (λ i. rw i (first-refused (header_of unit) (rw i at q)))
      (λ i. rw i (passed (rw i at q)))

-- ---- the pair

pub own-head : (unit : List ℕ) {h : UnitHead} → head_of unit ≡ Ok h → same_head h (head_of unit) ≡ true
own-head unit {h} q = rw q (equal-same h)

module _ (t : Table) (unit scratch : List ℕ) where
  pub head-refused : {r : Refusal} → head_of unit ≡ Err r → unit_read t unit scratch ≡ untouched (UnitAnswer.Refused r) scratch
  unfolding unit_read
  head-refused q = rw (begun-refused unit q)

  -- by whether the head is the unit's own
  pub body_own : (h : UnitHead) → same_head h (head_of unit) ≡ true → body_read t h unit scratch ≡ unit_read t unit scratch
  unfolding body_read
  body_own h e = rw e

  pub body-other : (h : UnitHead) → same_head h (head_of unit) ≡ false → body_read t h unit scratch ≡ untouched (UnitAnswer.Refused (refusal not_its_head (pos 0))) scratch
  unfolding body_read
  body-other h e = rw e

  pub head-given : {h : UnitHead} → head_of unit ≡ Ok h → body_read t h unit scratch ≡ unit_read t unit scratch
  head-given {h} q = body_own h (own-head unit q)

  pub pair : unit_read t unit scratch ≡ in_turn t unit scratch (head_of unit)
  pair = go (head_of unit) refl
    where
      go : (x : Result UnitHead Refusal) → head_of unit ≡ x → unit_read t unit scratch ≡ in_turn t unit scratch x
      go (Ok h) q = sym (head-given q)
      go (Err r) q = head-refused q
