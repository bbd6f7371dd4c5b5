-- What scratch does to a unit's answer: nothing but its length matters, and not even that where the unit fits.
use mathlib.Core.Path.{◌≡◌, refl}
use mathlib.Core.List.{List}
use mathlib.Core.Bool.{Bool, true, false}
use Prim.Native.Nat.{ℕ, ◌≤◌}
use borrow.Author.Tests.{le-leb}
use lib.Dec.{leb}
use lib.ListN.{length}
use Rattle.bits.specs.Refusals.{pick}
use Rattle.bits.specs.Bits.{Bits}
use Rattle.table.specs.declared.table.Table.{Table}
use Rattle.unit.specs.declared.answer.UnitRead.{UnitRead}
use Rattle.unit.specs.declared.begin.Begun.{Begun}
use Rattle.unit.specs.Begin.{begun}
use Rattle.unit.specs.Unit.{UnitOut, in_body, after_begin, unit_read}

abbrev out : UnitRead → List ℕ → UnitOut
out x l = record { read = x; left = l }

-- by one test, the same answer, whatever is left in scratch
by-test : (t : Bool) (x y : UnitRead) (l m l' m' : List ℕ) → (pick t (out x l) (out y m)).read ≡ (pick t (out x l') (out y m')).read
by-test true x y l m l' m' = refl
by-test false x y l m l' m' = refl

module _ (unit a b : List ℕ) (same : leb (length unit) (length a) ≡ leb (length unit) (length b)) where
  body-answer : (reads : Bits → UnitRead) (from : ℕ) → (in_body reads unit from a).read ≡ (in_body reads unit from b).read
  unfolding in_body
  body-answer reads from = rw same (by-test (leb (length unit) (length b)) _ _ _ _ _ _)

  same_answer : (t : Table) → (unit_read t unit a).read ≡ (unit_read t unit b).read
  unfolding unit_read
  same_answer t = go (begun unit)
    where
      go : (x : Begun) → (after_begin t unit a x).read ≡ (after_begin t unit b x).read
      go (Begun.Slice kind from) = body-answer _ from
      go (Begun.«Prefix» kind) = body-answer _ 4
      go Begun.SequenceSet = body-answer _ 1
      go Begun.PictureSet = body-answer _ 1
      go (Begun.Other id) = refl
      go (Begun.Refused r) = refl

-- two scratches of one length
pub unit-alike : (t : Table) (unit a b : List ℕ) → length a ≡ length b → (unit_read t unit a).read ≡ (unit_read t unit b).read
unit-alike t unit a b e = same_answer unit a b (rw e) t

-- two in which the unit fits
pub unit-roomy : (t : Table) (unit a b : List ℕ) → length unit ≤ length a → length unit ≤ length b → (unit_read t unit a).read ≡ (unit_read t unit b).read
unit-roomy t unit a b h g = same_answer unit a b (rw (le-leb (length unit) (length a) h, le-leb (length unit) (length b) g)) t
