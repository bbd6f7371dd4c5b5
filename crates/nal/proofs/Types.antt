-- The types of a unit and their ids belong to each other: one test, computed over the whole table.
use mathlib.Core.Path.{◌≡◌, refl, sym, ap, ◌∙◌}
use mathlib.Core.Bool.{Bool, true, false}
use mathlib.Core.List.{List, [], ◌∷◌, map}
use Prim.Native.Nat.{ℕ, zero, suc, ◌+◌, ◌<◌}
use native.Mathlib.Omega.{arith}
use native.Mathlib.Nat.{le_of_suc-le-suc}
use borrow.Author.Tests.{lt-ltb, le-ltb, ltb-true, ltb-false}
use lib.Dec.{ltb}
use lib.ListN.{get_or, get_or-map}
use Rattle.nal.specs.declared.unit_type.UnitType.{UnitType}
use Rattle.nal.specs.declared.unit_type.UnitTypeError.{UnitTypeError}
use Rattle.std.specs.Prelude.{Result, Ok, Err}
use Rattle.nal.specs.UnitType.{types, type_of, for_id, id_of}

-- the n numbers from i on
abbrev pub count_up : ℕ → ℕ → List ℕ
count_up i zero = []
count_up i (suc n) = i ∷ count_up (suc i) n

count_at : (i n k : ℕ) → k < n → get_or (count_up i n) k 0 ≡ i + k
count_at i zero k h = absurd (omega arith)
count_at i (suc n) zero h = omega arith
count_at i (suc n) (suc k) h = count_at (suc i) n k (le_of_suc-le-suc h) ∙ omega arith

-- the table's ids are 0, 1, .., 31
pub ids : map id_of types ≡ count_up 0 32
ids = refl

-- the id of an id's type is the id
pub id-of-type : (k : ℕ) → k < 32 → id_of (type_of k) ≡ k
unfolding type_of
id-of-type k h = sym (get_or-map id_of types k (UnitType.Unspecified 0)) ∙ ap (λ (l : List ℕ). get_or l k 0) ids ∙ count_at 0 32 k h ∙ omega arith

pub for-id-in : (k : ℕ) → k < 32 → for_id k ≡ Ok (type_of k)
unfolding for_id
for-id-in k h = rw (lt-ltb k 32 h)

pub for-id-out : (k : ℕ) → 31 < k → for_id k ≡ Err (UnitTypeError.ValueOutOfRange k)
unfolding for_id
for-id-out k h = rw (le-ltb k 32 h)

-- the type that an id answers has that id
pub id-back : (k : ℕ) (t : UnitType) → for_id k ≡ Ok t → id_of t ≡ k
id-back k t e = go (ltb k 32) refl
  where
    go : (b : Bool) → ltb k 32 ≡ b → id_of t ≡ k
    go true q =
        let h : k < 32 = ltb-true k 32 q in
        let i : ◌≡◌ {A = Result UnitType UnitTypeError} (Ok (type_of k)) (Ok t) = sym (for-id-in k h) ∙ e in
        let s : type_of k ≡ t = cc in
        ap id_of (sym s) ∙ id-of-type k h
    go false q =
        let i : ◌≡◌ {A = Result UnitType UnitTypeError} (Err (UnitTypeError.ValueOutOfRange k)) (Ok t) = sym (for-id-out k (ltb-false k 32 q)) ∙ e in
        let z : ◌≡◌ {A = ℕ} 0 1 = cc in
        absurd (omega arith)

-- and its id answers that type
pub type-back : (k : ℕ) (t : UnitType) → for_id k ≡ Ok t → for_id (id_of t) ≡ Ok t
type-back k t e = ap for_id (id-back k t e) ∙ e
