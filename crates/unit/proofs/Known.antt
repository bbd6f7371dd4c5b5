-- A unit of which the caller knows rightly how far no 00 00 03 begins is read as any.
use mathlib.Core.Path.{◌≡◌, refl, ap}
use mathlib.Core.Bool.{true, false}
use mathlib.Core.List.{List}
use Prim.Native.Nat.{ℕ}
use native.Mathlib.Omega.{arith}
use lib.IntN.{pos}
use Rattle.bits.specs.Bits.{Bits}
use Rattle.bits.specs.Refusals.{refusal}
use Rattle.bits.specs.declared.refusals.Refusal.{Refusal}
use Rattle.escape.proofs.Runs.{NoEsc, known-body}
use Rattle.table.specs.declared.table.Table.{Table}
use Rattle.unit.specs.declared.answer.UnitRead.{UnitRead}
use Rattle.unit.specs.declared.begin.Begun.{Begun}
use Rattle.unit.specs.Begin.{begun}
use Rattle.unit.specs.Unit.{in_body, untouched, after_begin, unit_read}
use Rattle.unit.specs.declared.answer.UnitAnswer.{UnitAnswer}
use Rattle.unit.specs.declared.head.UnitHead.{UnitHead}
use Rattle.unit.specs.Head.{not_its_head, head_of, same_head, by_head, body_read}
use Rattle.unit.specs.Known.{in_known, after_known, unit_known, body_known}
use Rattle.unit.proofs.Pair.{own-head, begun-refused}
use Rattle.std.specs.Prelude.{Ok, Err}

module _ (known : ℕ) (unit scratch : List ℕ) (n : NoEsc unit 0 known) where
  in-same : (reads : Bits → UnitRead) (from : ℕ) → in_known known reads unit from scratch ≡ in_body reads unit from scratch
  unfolding in_known in_body
  in-same reads from = rw (known-body unit from known (λ j a b p. n j (omega arith) b p))

  pub known_same : (t : Table) → unit_known known t unit scratch ≡ unit_read t unit scratch
  unfolding unit_known unit_read
  known_same t = go (begun unit)
    where
      go : (b : Begun) → after_known known t unit scratch b ≡ after_begin t unit scratch b
      go (Begun.Slice kind from) = in-same _ from
      go (Begun.«Prefix» kind) = in-same _ 4
      go Begun.SequenceSet = in-same _ 1
      go Begun.PictureSet = in-same _ 1
      go (Begun.Other id) = refl
      go (Begun.Refused r) = refl

-- nothing is known before the first byte
pub none-known : (unit scratch : List ℕ) (t : Table) → unit_known 0 t unit scratch ≡ unit_read t unit scratch
none-known unit scratch t = known_same 0 unit scratch (λ j a b p. absurd (omega arith)) t

-- ---- by the unit's head

module _ (known : ℕ) (t : Table) (unit scratch : List ℕ) where
  pub known-own : (h : UnitHead) → same_head h (head_of unit) ≡ true → body_known known t h unit scratch ≡ unit_known known t unit scratch
  unfolding body_known
  known-own h e = rw e

  pub known-other : (h : UnitHead) → same_head h (head_of unit) ≡ false → body_known known t h unit scratch ≡ untouched (UnitAnswer.Refused (refusal not_its_head (pos 0))) scratch
  unfolding body_known
  known-other h e = rw e

  pub known-given : {h : UnitHead} → head_of unit ≡ Ok h → body_known known t h unit scratch ≡ unit_known known t unit scratch
  known-given {h} q = known-own h (own-head unit q)

  pub known-refused : {r : Refusal} → head_of unit ≡ Err r → unit_known known t unit scratch ≡ untouched (UnitAnswer.Refused r) scratch
  unfolding unit_known
  known-refused q = rw (begun-refused unit q)

pub none-known-body : (t : Table) (h : UnitHead) (unit scratch : List ℕ) → body_known 0 t h unit scratch ≡ body_read t h unit scratch
unfolding body_known body_read
none-known-body t h unit scratch = ap (by_head h unit scratch) (none-known unit scratch t)
