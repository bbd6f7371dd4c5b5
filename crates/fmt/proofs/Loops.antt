-- A loop that reads a list: what holds when some elements have been passed, and what each turn shows. The arrays that it reads into are not spoken of here.
use Prim.Native.Nat.{ℕ, ◌+◌, ◌-◌, ◌≤◌, ◌<◌}
use mathlib.Core.Path.{◌≡◌, refl, ap, sym, ◌∙◌}
use mathlib.Core.List.{List, [], ◌∷◌, ◌++◌, append-nil, append_assoc}
use native.Mathlib.Omega.{arith}
use native.Mathlib.Nat.{sub-zero}
use lib.IntN.{pos}
use lib.ListN.{length, length-append}
use Rattle.bits.specs.declared.refusals.Refusal.{Refusal}
use Rattle.bits.specs.Refusals.{Res, got, no, bind, refusal_at, list_full}
use Rattle.bits.specs.Bits.{Bits}
use Rattle.bits.proofs.Results.{bind-got}
use Rattle.fmt.specs.Fmt.{Fmt, times, until}
use Rattle.fmt.proofs.Turns.{until-no, until-close, until-full, until-more, times_none, times_more}

-- after l and one element more, whatever follows
snoc : {E : Type 0} (l : List E) (x : E) (r : Res (List E))
    → bind (bind r (λ m e. got (x ∷ m) e)) (λ m e. got (l ++ m) e) ≡ bind r (λ m e. got ((l ++ (x ∷ [])) ++ m) e)
snoc l x (got m e) = ap (λ (w : List _). got w e) (sym (append_assoc l (x ∷ []) m))
snoc l x (no r) = refl

-- a loop that reads until C close G cap from a place on
module _ {A : Type 0} (C : Fmt ℕ) (close : ℕ) (G : ℕ → Fmt A) (cap : ℕ) (s : Bits) (from : ℕ) where
  abbrev pub whole : Res (List (ℕ × A))
  whole = (until C close G cap).read s from

  -- the codes of l have been passed, and the next one is at `at`
  pub record Passed (l : List (ℕ × A)) (at : ℕ) : Type 0 where
    pub few : length l ≤ cap
    pub rest : whole ≡ bind ((until C close G (cap - length l)).read s at) (λ m e. got (l ++ m) e)

  pub none_passed : Passed [] from
  none_passed = record { few = omega arith; rest = rw (sub-zero cap) (sym (bind-got whole)) }

  module _ {l : List (ℕ × A)} {at : ℕ} (p : Passed l at) where
    pub code-refused : (r : Refusal) → C.read s at ≡ no r → whole ≡ no r
    code-refused r h = p.rest ∙ rw (until-no C close G s at (cap - length l) r h)

    pub list-closed : (k e : ℕ) → C.read s at ≡ got k e → k ≡ close → whole ≡ got l e
    list-closed k e h z = p.rest ∙ rw (until-close C close G s at (cap - length l) k e h z) (ap (λ (m : List (ℕ × A)). got m e) (append-nil l))

    pub list_full_lem : (k e : ℕ) → C.read s at ≡ got k e → (k ≡ close → ⊥) → cap ≤ length l → whole ≡ no (refusal_at list_full (pos 0) at)
    list_full_lem k e h z m = p.rest ∙ rw (until-full C close G s at (cap - length l) k e (omega arith) h z)

    module _ (k e : ℕ) (h : C.read s at ≡ got k e) (z : k ≡ close → ⊥) (room : length l < cap) where
      pub operand-refused : (r : Refusal) → (G k).read s e ≡ no r → whole ≡ no r
      operand-refused r u = p.rest ∙ rw (until-more C close G s at (cap - length l) (cap - (length l + 1)) k e (omega arith) h z, u)

      pub one-passed : (a : A) (f : ℕ) → (G k).read s e ≡ got a f → Passed (l ++ ((k, a) ∷ [])) f
      one-passed a f u =
          let n : length (l ++ ((k, a) ∷ [])) ≡ length l + 1 = length-append l ((k, a) ∷ []) in
          record {
            few = omega (arith, n);
            rest = p.rest
                ∙ rw (until-more C close G s at (cap - length l) (cap - (length l + 1)) k e (omega arith) h z, u, n)
                (snoc l (k, a) ((until C close G (cap - (length l + 1))).read s f));
          }

-- a loop that reads times n F from a place on
module _ {A : Type 0} (F : Fmt A) (n : ℕ) (s : Bits) (from : ℕ) where
  abbrev pub every : Res (List A)
  every = (times n F).read s from

  -- the elements of l have been passed, and the next one is at `at`
  pub record Counted (l : List A) (at : ℕ) : Type 0 where
    pub few : length l ≤ n
    pub rest : every ≡ bind ((times (n - length l) F).read s at) (λ m e. got (l ++ m) e)

  pub none-counted : Counted [] from
  none-counted = record { few = omega arith; rest = rw (sub-zero n) (sym (bind-got every)) }

  module _ {l : List A} {at : ℕ} (p : Counted l at) where
    pub all-counted : n ≤ length l → every ≡ got l at
    all-counted h = p.rest ∙ rw (times_none F s at (n - length l) (omega arith)) (ap (λ (m : List A). got m at) (append-nil l))

    module _ (more : length l < n) where
      pub element-refused : (r : Refusal) → F.read s at ≡ no r → every ≡ no r
      element-refused r h = p.rest ∙ rw (times_more F s at (n - length l) (n - (length l + 1)) (omega arith), h)

      pub one-counted : (a : A) (e : ℕ) → F.read s at ≡ got a e → Counted (l ++ (a ∷ [])) e
      one-counted a e h =
          let k : length (l ++ (a ∷ [])) ≡ length l + 1 = length-append l (a ∷ []) in
          record {
            few = omega (arith, k);
            rest = p.rest ∙ rw (times_more F s at (n - length l) (n - (length l + 1)) (omega arith), h, k) (snoc l a ((times (n - (length l + 1)) F).read s e));
          }
