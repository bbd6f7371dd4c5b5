-- Lists of lawful formats are lawful: times, until.
use Prim.Native.Nat.{ℕ, zero, suc, ◌+◌, ◌≤◌}
use mathlib.Core.Path.{◌≡◌, refl, ap, sym, ◌∙◌, subst}
use mathlib.Core.List.{List, [], ◌∷◌, ◌++◌, append_assoc}
use mathlib.Core.Bool.{false, not, ◌&&◌}
use native.Mathlib.Omega.{arith}
use native.Mathlib.Nat.{add_assoc, add-zero}
use lib.Dec.{T, eqb, eqb→eq}
use lib.ListN.{length, length-append}
use Rattle.bits.specs.Refusals.{Res, got, bind}
use Rattle.bits.specs.Bits.{Bits}
use Rattle.bits.proofs.Results.{cases, under, chosen}
use Rattle.fmt.specs.Fmt.{Fmt, seq, times, until}
use Rattle.fmt.proofs.Lawful.{Exact, Lawful, both-0, both-1, both-T, not-T-false, eqb-self, on, then, joined}
use Rattle.fmt.proofs.Combinators.{seq-lawful}

module _ {A : Type 0} (F : Fmt A) (LF : Lawful F) where
  pub times-lawful : (n : ℕ) → Lawful (times n F)
  unfolding times
  times-lawful zero =
      record {
        back = λ p q l g. zero-back p l g;
        exact = λ p t l e h.
            let s : [] ≡ l = (cc h) in
            let d : length p ≡ e = (cc h) in
            subst (λ (y : List A). Exact (times zero F) p t y e) s
            (record { rest = t; split = refl; place = sym d ∙ sym (add-zero (length p)); is-good = tt });
      }
    where
      zero-back : (p : Bits) (l : List A) → T ((times zero F).good l) → ◌≡◌ {A = Res (List A)} (got [] (length p)) (got l (length p + 0))
      zero-back p [] g = rw (add-zero (length p))
      zero-back p (x ∷ l) g = absurd g
  times-lawful (suc n) =
      let L = times-lawful n in
      record {
        back = more-back L;
        exact = λ p t l e h.
            under (F.read (p ++ t) (length p)) _ h
            (λ a d ha h₁.
            under ((times n F).read (p ++ t) d) _ h₁
            (λ m f hm h₂.
            let x = LF.exact p t a d ha in
            let s : a ∷ m ≡ l = (cc h₂) in
            let r : f ≡ e = (cc h₂) in
            let y = then F (times n F) L p t a m d e x (hm ∙ ap (got m) r) in
            let j = joined F (times n F) p t a m d e x y in
            subst (λ (z : List A). Exact (times (suc n) F) p t z e) s
            (record { rest = y.rest; split = j.0; place = j.1; is-good = both-T (F.good a) ((times n F).good m) x.is-good y.is-good })));
      }
    where
      more-back : Lawful (times n F) → (p q : Bits) (l : List A) → T ((times (suc n) F).good l)
          → (times (suc n) F).read (p ++ ((times (suc n) F).bits l ++ q)) (length p) ≡ got l (length p + length ((times (suc n) F).bits l))
      more-back L p q [] g = absurd g
      more-back L p q (a ∷ l) g =
          rw (append_assoc (F.bits a) ((times n F).bits l) q)
          (rw (LF.back p ((times n F).bits l ++ q) a (both-0 (F.good a) ((times n F).good l) g))
          (rw (on (times n F) p (F.bits a) ((times n F).bits l ++ q))
          (rw (L.back (p ++ F.bits a) q l (both-1 (F.good a) ((times n F).good l) g)) (ap (got (a ∷ l)) (simp (length-append, add_assoc))))))

module _ {A : Type 0} (C : Fmt ℕ) (close : ℕ) (G : ℕ → Fmt A) (LC : Lawful C) (LG : (c : ℕ) → Lawful (G c)) where
  -- the closing code alone
  closed : (n : ℕ) (p t : Bits) (c e : ℕ) → c ≡ close → C.read (p ++ t) (length p) ≡ got c e → Exact (until C close G n) p t [] e
  unfolding until
  closed zero p t c e s h =
      let x = LC.exact p t close e (h ∙ ap (λ (k : ℕ). got k e) s) in
      record { rest = x.rest; split = x.split; place = x.place; is-good = x.is-good }
  closed (suc n) p t c e s h =
      let x = LC.exact p t close e (h ∙ ap (λ (k : ℕ). got k e) s) in
      record { rest = x.rest; split = x.split; place = x.place; is-good = x.is-good }

  -- one code with its operands, and the list that follows
  abbrev one : ℕ → Fmt (ℕ × (A × List (ℕ × A)))
  one n = seq C (λ c. seq (G c) (λ a. until C close G n))

  one-lawful : (n : ℕ) → Lawful (until C close G n) → Lawful (one n)
  one-lawful n L = seq-lawful C (λ c. seq (G c) (λ a. until C close G n)) LC (λ c. seq-lawful (G c) (λ a. until C close G n) (LG c) (λ a. L))

  more : (n : ℕ) (p t : Bits) (c : ℕ) (a : A) (l : List (ℕ × A)) (e : ℕ) → eqb c close ≡ false → Exact (one n) p t (c, (a, l)) e → Exact (until C close G (suc n)) p t ((c, a) ∷ l) e
  unfolding until seq
  more n p t c a l e s x =
      record {
        rest = x.rest;
        split = x.split;
        place = x.place;
        is-good = both-T (not (eqb c close) && C.good c) ((G c).good a && (until C close G n).good l)
            (both-T (not (eqb c close)) (C.good c) (rw s tt) (both-0 (C.good c) ((G c).good a && (until C close G n).good l) x.is-good))
            (both-1 (C.good c) ((G c).good a && (until C close G n).good l) x.is-good);
      }

  zero-back : (p q : Bits) (l : List (ℕ × A)) → T ((until C close G zero).good l)
      → (until C close G zero).read (p ++ ((until C close G zero).bits l ++ q)) (length p) ≡ got l (length p + length ((until C close G zero).bits l))
  unfolding until
  zero-back p q [] g = rw (LC.back p q close g) (rw (eqb-self close))
  zero-back p q (x ∷ l) g = absurd g

  got-one : (n : ℕ) (s : Bits) (at c : ℕ) (a : A) (l : List (ℕ × A)) (e : ℕ) → eqb c close ≡ false
      → (one n).read s at ≡ got (c, (a, l)) e → (until C close G (suc n)).read s at ≡ got ((c, a) ∷ l) e
  unfolding until seq
  got-one n s at c a l e nc h =
      under (C.read s at) _ h
      (λ c' d hc h₁.
      under ((seq (G c') (λ a. until C close G n)).read s d) _ h₁
      (λ b f hb h₂.
      under ((G c').read s d) _ hb
      (λ a' f₁ ha h₃.
      under ((until C close G n).read s f₁) _ h₃
      (λ l' f₂ hl h₄.
      let ep : ◌≡◌ {A = ℕ × (A × List (ℕ × A))} (c', (a', l')) (c, (a, l)) = (cc (h₂, h₄)) in
      let ec : c' ≡ c = ap (λ (x : ℕ × (A × List (ℕ × A))). x.0) ep in
      let ea : a' ≡ a = ap (λ (x : ℕ × (A × List (ℕ × A))). x.1.0) ep in
      let el : l' ≡ l = ap (λ (x : ℕ × (A × List (ℕ × A))). x.1.1) ep in
      let ef : f₂ ≡ e = (cc (h₂, h₄)) in
      rw hc (rw (ec) (rw nc (rw (← ec) (rw ha (rw hl (cc))))))))))

  more-back : (n : ℕ) → Lawful (one n) → (p q : Bits) (l : List (ℕ × A)) → T ((until C close G (suc n)).good l)
      → (until C close G (suc n)).read (p ++ ((until C close G (suc n)).bits l ++ q)) (length p) ≡ got l (length p + length ((until C close G (suc n)).bits l))
  unfolding until seq
  more-back n L p q [] g = rw (LC.back p q close g) (rw (eqb-self close))
  more-back n L p q (x ∷ l) g =
      let k = (G x.0).good x.1 && (until C close G n).good l in
      let g0 = both-0 (not (eqb x.0 close) && C.good x.0) k g in
      let gc = both-1 (not (eqb x.0 close)) (C.good x.0) g0 in
      let gk = both-1 (not (eqb x.0 close) && C.good x.0) k g in
      let nc = not-T-false (eqb x.0 close) (both-0 (not (eqb x.0 close)) (C.good x.0) g0) in
      got-one n _ _ x.0 x.1 l _ nc (L.back p q (x.0, (x.1, l)) (both-T (C.good x.0) k gc gk))

  one-got : (n : ℕ) → Lawful (until C close G n) → (p t : Bits) (m : List (ℕ × A)) (e : ℕ) → (until C close G (suc n)).read (p ++ t) (length p) ≡ got m e → Exact (until C close G (suc n)) p t m e
  unfolding until seq
  one-got n L p t m e h =
      under (C.read (p ++ t) (length p)) _ h
      (λ c d hc h₁.
      cases (eqb c close)
      (λ y.
      let z : got [] d ≡ got m e = rw y at h₁ in
      let s : [] ≡ m = (cc z) in
      let r : d ≡ e = (cc z) in
      subst (λ (w : List (ℕ × A)). Exact (until C close G (suc n)) p t w e) s
      (closed (suc n) p t c e (eqb→eq c close (rw y tt)) (hc ∙ ap (got c) r)))
      (λ y.
      let z : bind ((G c).read (p ++ t) d) (λ a e'. bind ((until C close G n).read (p ++ t) e') (λ l e''. got ((c, a) ∷ l) e'')) ≡ got m e = rw y at h₁ in
      under ((G c).read (p ++ t) d) _ z
      (λ a f₁ ha h₂.
      under ((until C close G n).read (p ++ t) f₁) _ h₂
      (λ l f₂ hl h₃.
      let s : (c, a) ∷ l ≡ m = (cc h₃) in
      let r : f₂ ≡ e = (cc h₃) in
      subst (λ (w : List (ℕ × A)). Exact (until C close G (suc n)) p t w e) s
      (more n p t c a l e y ((one-lawful n L).exact p t (c, (a, l)) e (rw (hc, ha, hl, r))))))))

  zero-got : (p t : Bits) (m : List (ℕ × A)) (e : ℕ) → (until C close G zero).read (p ++ t) (length p) ≡ got m e → Exact (until C close G zero) p t m e
  unfolding until
  zero-got p t m e h =
      under (C.read (p ++ t) (length p)) _ h
      (λ c d hc h₁.
      let w = chosen (eqb c close) [] m d e _ h₁ in
      subst (λ (y : List (ℕ × A)). Exact (until C close G zero) p t y e) w.1
      (closed zero p t c e (eqb→eq c close w.0) (hc ∙ ap (got c) w.2)))

  pub until-lawful : (n : ℕ) → Lawful (until C close G n)
  until-lawful zero = record { back = zero-back; exact = zero-got }
  until-lawful (suc n) = record { back = more-back n (one-lawful n (until-lawful n)); exact = one-got n (until-lawful n) }

-- how long a good list is
pub until-length : {A : Type 0} (C : Fmt ℕ) (close : ℕ) (G : ℕ → Fmt A) (n : ℕ) (l : List (ℕ × A)) → T ((until C close G n).good l) → length l ≤ n
unfolding until
until-length C close G zero [] t = omega arith
until-length C close G zero (x ∷ l) t = absurd t
until-length C close G (suc n) [] t = omega arith
until-length C close G (suc n) (x ∷ l) t =
    let k = (G x.0).good x.1 && (until C close G n).good l in
    let g = both-1 (not (eqb x.0 close) && C.good x.0) k t in
    omega (arith, until-length C close G n l (both-1 ((G x.0).good x.1) ((until C close G n).good l) g))

pub times-length : {A : Type 0} (F : Fmt A) (n : ℕ) (l : List A) → T ((times n F).good l) → length l ≡ n
unfolding times
times-length F zero [] t = refl
times-length F zero (x ∷ l) t = absurd t
times-length F (suc n) [] t = absurd t
times-length F (suc n) (x ∷ l) t = ap suc (times-length F n l (both-1 (F.good x) ((times n F).good l) t))
