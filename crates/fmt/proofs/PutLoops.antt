-- A loop that writes a list: what holds when the first i elements have been written, and what each turn shows. An invariant says that whatever writes the
-- rest writes the whole.
use Prim.Native.Nat.{ℕ, suc, ◌+◌, ◌-◌, ◌≤◌, ◌<◌}
use mathlib.Core.Path.{◌≡◌}
use mathlib.Core.List.{List, ◌∷◌}
use mathlib.Core.Bool.{true, false}
use native.Mathlib.Omega.{arith}
use native.Mathlib.Nat.{sub-zero}
use lib.Dec.{eqb}
use lib.ListN.{length, drop, drop_of_length-le}
use Rattle.bits.specs.declared.refusals.Refusal.{Refusal}
use Rattle.bits.specs.declared.read.Cursor.{Cursor}
use Rattle.fmt.specs.Fmt.{Fmt, seq, times, until}
use Rattle.fmt.specs.Put.{Put}
use Rattle.fmt.proofs.Puts.{Done, Stopped, not_good, seq-put, seq-stop, times-end, times-put, until_end, until-put, until-closes}
use Rattle.std.specs.Prelude.{Result, Ok, Err}

module _ {A : Type 0} (C : Fmt ℕ) (close : ℕ) (G : ℕ → Fmt A) (cap : ℕ) (l : List (ℕ × A)) (d : List ℕ) (at : ℕ) where
  -- the first i codes with their operands have been written, dᵢ is the buffer, and the next place is e
  pub record Ahead (i : ℕ) (dᵢ : List ℕ) (e : ℕ) : Type 0 where
    pub rest : (d' : List ℕ) (r : Result Cursor Refusal) → Put (until C close G (cap - i)) (drop i l) dᵢ e d' r → Put (until C close G cap) l d at d' r

  pub ahead_none : Ahead 0 d at
  ahead_none = record { rest = λ d' r p. rw (← sub-zero cap) p }

  module _ {i : ℕ} {dᵢ : List ℕ} {e : ℕ} (a : Ahead i dᵢ e) where
    pub ahead-closed : length l ≤ i → (d' : List ℕ) (r : Result Cursor Refusal) → Put C close dᵢ e d' r → Put (until C close G cap) l d at d' r
    ahead-closed h d' r p = a.rest d' r (rw (drop_of_length-le l h) (until_end C close G (cap - i) p))

    -- the next element is x, and cannot stand there: its code is the closing one
    module _ (x : ℕ × A) (is : drop i l ≡ x ∷ drop (i + 1) l) (q : Refusal) (d' : List ℕ) where
      pub ahead-closes : eqb x.0 close ≡ true → Put (until C close G cap) l d at d' (Err q)
      ahead-closes h = a.rest d' _ (rw is (not_good (until C close G (cap - i)) (x ∷ drop (i + 1) l) (until-closes C close G (cap - i) x (drop (i + 1) l) h)))

    -- the next element is x, which is no closing code
    module _ (x : ℕ × A) (is : drop i l ≡ x ∷ drop (i + 1) l) (no-close : eqb x.0 close ≡ false) (more : i < cap) where
      entry : (d' : List ℕ) (r : Result Cursor Refusal) → Put (seq C (λ c. seq (G c) (λ v. until C close G (cap - (i + 1))))) (x.0, (x.1, drop (i + 1) l)) dᵢ e d' r
          → Put (until C close G cap) l d at d' r
      entry d' r p =
          let k : suc (cap - (i + 1)) ≡ cap - i = omega arith in
          a.rest d' r (rw (is, ← k) (until-put C close G (cap - (i + 1)) x (drop (i + 1) l) no-close p))

      pub ahead-stop : (q : Refusal) → Stopped C x.0 dᵢ e → (d' : List ℕ) → Put (until C close G cap) l d at d' (Err q)
      ahead-stop q h d' = entry d' (Err q) (seq-stop C (λ c. seq (G c) (λ v. until C close G (cap - (i + 1)))) x.0 (x.1, drop (i + 1) l) h)

      module _ {d₁ : List ℕ} {c₁ : Cursor} (w : Done C x.0 dᵢ e d₁ c₁) where
        after-code : (d' : List ℕ) (r : Result Cursor Refusal) → Put (seq (G x.0) (λ v. until C close G (cap - (i + 1)))) (x.1, drop (i + 1) l) d₁ c₁.at d' r
            → Put (until C close G cap) l d at d' r
        after-code d' r p = entry d' r (seq-put C (λ c. seq (G c) (λ v. until C close G (cap - (i + 1)))) x.0 (x.1, drop (i + 1) l) w p)

        pub ahead-stop-operand : (q : Refusal) → Stopped (G x.0) x.1 d₁ c₁.at → (d' : List ℕ) → Put (until C close G cap) l d at d' (Err q)
        ahead-stop-operand q h d' = after-code d' (Err q) (seq-stop (G x.0) (λ v. until C close G (cap - (i + 1))) x.1 (drop (i + 1) l) h)

        pub ahead-next : {d₂ : List ℕ} {c₂ : Cursor} → Done (G x.0) x.1 d₁ c₁.at d₂ c₂ → Ahead (i + 1) d₂ c₂.at
        ahead-next v =
            record { rest = λ d' r p. after-code d' r (seq-put (G x.0) (λ v. until C close G (cap - (i + 1))) x.1 (drop (i + 1) l) v p) }

module _ {A : Type 0} (F : Fmt A) (n : ℕ) (l : List A) (d : List ℕ) (at : ℕ) where
  -- the first i of n elements have been written
  pub record CountedAhead (i : ℕ) (dᵢ : List ℕ) (e : ℕ) : Type 0 where
    pub rest : (d' : List ℕ) (r : Result Cursor Refusal) → Put (times (n - i) F) (drop i l) dᵢ e d' r → Put (times n F) l d at d' r

  pub counted_none : CountedAhead 0 d at
  counted_none = record { rest = λ d' r p. rw (← sub-zero n) p }

  module _ {i : ℕ} {dᵢ : List ℕ} {e : ℕ} (a : CountedAhead i dᵢ e) where
    pub counted-all : length l ≤ i → n ≤ i → Put (times n F) l d at dᵢ (Ok (record { at = e }))
    counted-all h m =
        let k : 0 ≡ n - i = omega arith in
        a.rest dᵢ (Ok (record { at = e })) (rw (drop_of_length-le l h, ← k) (times-end F dᵢ e))

    module _ (x : A) (is : drop i l ≡ x ∷ drop (i + 1) l) (more : i < n) where
      element : (d' : List ℕ) (r : Result Cursor Refusal) → Put (seq F (λ v. times (n - (i + 1)) F)) (x, drop (i + 1) l) dᵢ e d' r → Put (times n F) l d at d' r
      element d' r p =
          let k : suc (n - (i + 1)) ≡ n - i = omega arith in
          a.rest d' r (rw (is, ← k) (times-put F (n - (i + 1)) x (drop (i + 1) l) p))

      pub counted_stop : (q : Refusal) → Stopped F x dᵢ e → (d' : List ℕ) → Put (times n F) l d at d' (Err q)
      counted_stop q h d' = element d' (Err q) (seq-stop F (λ v. times (n - (i + 1)) F) x (drop (i + 1) l) h)

      pub counted_next : {d₁ : List ℕ} {c : Cursor} → Done F x dᵢ e d₁ c → CountedAhead (i + 1) d₁ c.at
      counted_next w =
          record { rest = λ d' r p. element d' r (seq-put F (λ v. times (n - (i + 1)) F) x (drop (i + 1) l) w p) }
