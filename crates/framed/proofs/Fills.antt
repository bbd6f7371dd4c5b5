-- Output that is filled from the front, part by part: what both converters keep.
use mathlib.Core.Path.{◌≡◌, refl, sym, ap, ◌∙◌}
use mathlib.Core.List.{List, [], ◌∷◌, ◌++◌, append_assoc, append-nil}
use Prim.Native.Nat.{ℕ, suc, ◌+◌, ◌≤◌}
use native.Mathlib.Omega.{arith}
use lib.ListN.{length, set, take, drop, length-append, length-drop, take-append-drop}
use lib.Seq.{length-take-le, take_at, drop_at, drop-drop, take-length, sets-eq, paste}
use Rattle.escape.specs.Body.{start_with}

-- ---- four bytes and a unit behind them

module _ (out unit : List ℕ) (at a b c d : ℕ) (room : at + (4 + length unit) ≤ length out) where
  four-set : set (set (set (set out at a) (at + 1) b) (at + 2) c) (at + 3) d ≡ take at out ++ (a ∷ b ∷ c ∷ d ∷ []) ++ drop (at + 4) out
  four-set =
      let e1 : at + 1 ≡ suc at = omega arith in
      let e2 : at + 2 ≡ suc (suc at) = omega arith in
      let e3 : at + 3 ≡ suc (suc (suc at)) = omega arith in
      rw (e1, e2, e3) (sets-eq (a ∷ b ∷ c ∷ d ∷ []) out at (omega arith))

  pub unit-laid : paste (set (set (set (set out at a) (at + 1) b) (at + 2) c) (at + 3) d) (at + 4) unit (length unit) ≡ take at out ++ (a ∷ b ∷ c ∷ d ∷ unit) ++ drop (at + (4 + length unit)) out
  unit-laid =
      let front = take at out ++ (a ∷ b ∷ c ∷ d ∷ []) in
      let t : length (take at out) ≡ at = length-take-le at out (omega arith) in
      let l : length (take at out ++ (a ∷ b ∷ c ∷ d ∷ [])) ≡ at + 4 = length-append (take at out) (a ∷ b ∷ c ∷ d ∷ []) ∙ rw t in
      let n : at + 4 + length unit ≡ at + (4 + length unit) = omega arith in
      let d1 : drop (at + (4 + length unit)) (front ++ drop (at + 4) out) ≡ drop (at + (4 + length unit)) out =
      rw (← n, ← (drop-drop (length unit) (at + 4) (front ++ drop (at + 4) out)), drop_at front (drop (at + 4) out) (at + 4) l, drop-drop (length unit) (at + 4) out) in
      rw (four-set, take_at front (drop (at + 4) out) (at + 4) l, take-length unit, n, d1) (ap (λ (x : List ℕ). x ++ drop (at + (4 + length unit)) out) (append_assoc (take at out) (a ∷ b ∷ c ∷ d ∷ []) unit))

-- ---- from the front

-- of `all` the first o bytes stand in front of the output, and `rest` is still to be put; behind them the output is as it was
pub record Filled (all out₀ out : List ℕ) (o : ℕ) (rest : List ℕ) : Type 0 where
  pub same : length out ≡ length out₀
  pub room : o ≤ length out
  pub done : take o out ++ rest ≡ all
  pub tail : drop o out ≡ drop o out₀

pub filled_none : (all out : List ℕ) → Filled all out out 0 all
filled_none all out = record { same = refl; room = omega arith; done = refl; tail = refl }

module _ {all out₀ out : List ℕ} {o : ℕ} where
  pub filled-size : {rest : List ℕ} → Filled all out₀ out o rest → o + length rest ≡ length all
  filled-size {rest} f =
      let r : o ≤ length out = f.room in
      let a : length (take o out ++ rest) ≡ length all = ap length f.done in
      let b : length (take o out ++ rest) ≡ length (take o out) + length rest = length-append (take o out) rest in
      omega (arith, length-take-le o out r)

  -- a part more
  pub filled_on : (x : List ℕ) {rest : List ℕ} (o' : ℕ) → Filled all out₀ out o (x ++ rest) → o' ≡ o + length x → o' ≤ length out₀
      → Filled all out₀ (take o out ++ x ++ drop o' out) o' rest
  filled_on x {rest} o' f e h =
      let r : o ≤ length out = f.room in
      let s : length out ≡ length out₀ = f.same in
      let t : length (take o out) ≡ o = length-take-le o out r in
      let l : length (take o out ++ x) ≡ o' = length-append (take o out) x ∙ rw (t, e) in
      let d : length (take o out ++ x ++ drop o' out) ≡ length out = length-append (take o out ++ x) (drop o' out) ∙ rw (l, length-drop o' out) (omega arith) in
      let q : drop o' out ≡ drop o' out₀ = rw (e, ← (drop-drop (length x) o out), ← (drop-drop (length x) o out₀)) (ap (drop (length x)) f.tail) in
      record {
        same = d ∙ s;
        room = rw d (omega arith);
        done = rw (take_at (take o out ++ x) (drop o' out) o' l) (append_assoc (take o out) x rest ∙ f.done);
        tail = rw (drop_at (take o out ++ x) (drop o' out) o' l) q;
      }

  pub filled-all : Filled all out₀ out o [] → (o ≡ length all) × (out ≡ start_with all out₀)
  filled-all f =
      let n : o + 0 ≡ length all = filled-size f in
      let e : o ≡ length all = omega arith in
      let t : take o out ≡ all = sym (append-nil (take o out)) ∙ f.done in
      (e, sym (take-append-drop o out) ∙ rw (t, f.tail, e))
