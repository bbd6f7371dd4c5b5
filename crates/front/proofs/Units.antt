-- A unit by its front, as a whole: its head and then the rest; and scratch, which does nothing to it.
use Prim.Native.Nat.{ℕ, ◌≤◌}
use mathlib.Core.Path.{◌≡◌, refl}
use mathlib.Core.List.{List}
use native.Mathlib.Omega.{arith}
use lib.ListN.{length, replicate, length-replicate}
use Rattle.bits.specs.declared.refusals.Refusal.{Refusal}
use Rattle.table.specs.declared.table.Table.{Table}
use Rattle.unit.specs.declared.answer.UnitAnswer.{UnitAnswer}
use Rattle.unit.specs.declared.head.UnitHead.{UnitHead}
use Rattle.unit.specs.Head.{head_of}
use Rattle.unit.specs.Unit.{untouched, unit_read}
use Rattle.unit.proofs.Pair.{own-head, head-refused}
use Rattle.unit.proofs.Rooms.{unit-roomy}
use Rattle.front.specs.Front.{unit_front, body_front}
use Rattle.front.proofs.Cases.{front-own}
use Rattle.std.specs.Prelude.{Ok, Err}

module _ (t : Table) (unit scratch : List ℕ) where
  -- ---- the head, and then the rest

  pub front-given : {h : UnitHead} → head_of unit ≡ Ok h → body_front t h unit scratch ≡ unit_front t unit scratch
  front-given {h} q = front-own t unit scratch h (own-head unit q)

  pub front-refused : {r : Refusal} → head_of unit ≡ Err r → unit_front t unit scratch ≡ untouched (UnitAnswer.Refused r) scratch
  unfolding unit_front
  front-refused {r} q = rw (head-refused t unit (replicate (length unit) 0) q)

  -- ---- scratch

  pub front-left : (unit_front t unit scratch).left ≡ scratch
  unfolding unit_front
  front-left = refl

  -- as the unit reads in any scratch in which it fits
  pub front-whole : (roomy : List ℕ) → length unit ≤ length roomy → (unit_front t unit scratch).read ≡ (unit_read t unit roomy).read
  unfolding unit_front
  front-whole roomy l = unit-roomy t unit (replicate (length unit) 0) roomy (omega (arith, length-replicate {A = ℕ} (length unit) 0)) l

-- whatever scratch is handed on
pub front-alike : (t : Table) (unit a b : List ℕ) → (unit_front t unit a).read ≡ (unit_front t unit b).read
unfolding unit_front
front-alike t unit a b = refl
