-- The combinators make lawful formats of lawful formats: nothing, seq, shaped, test, when.
use Prim.Native.Nat.{ℕ, ◌+◌}
use mathlib.Core.Path.{◌≡◌, refl, ap, sym, ◌∙◌, subst, subst⁻¹}
use mathlib.Core.List.{◌++◌, append_assoc}
use mathlib.Core.Bool.{Bool, true, false, not}
use native.Mathlib.Nat.{add_assoc, add-zero}
use lib.Dec.{T}
use lib.IntN.{ℤ}
use lib.ListN.{length, length-append}
use Rattle.bits.specs.Refusals.{Res, got}
use Rattle.bits.specs.Bits.{Bits}
use Rattle.bits.proofs.Results.{under, chosen}
use Rattle.fmt.specs.Fmt.{Fmt, nothing, seq, shaped, test, Marked, when}
use Rattle.fmt.proofs.Lawful.{Exact, Lawful, both-0, both-1, both-T, T_true, not-T-false, on, then, joined}

pub nothing_lawful : Lawful nothing
unfolding nothing
nothing_lawful =
    record {
      back = λ p q a g. rw (add-zero (length p));
      exact = λ p t a e h. record { rest = t; split = refl; place = sym (cc h) ∙ sym (add-zero (length p)); is-good = tt };
    }

-- what follows need be lawful only after a good value
module _ {A B : Type 0} (F : Fmt A) (G : A → Fmt B) (LF : Lawful F) (LG : (a : A) → T (F.good a) → Lawful (G a)) where
  seq-back : (p q : Bits) (a : A) (b : B) → T (F.good a) → T ((G a).good b)
      → (seq F G).read (p ++ ((F.bits a ++ (G a).bits b) ++ q)) (length p) ≡ got (a, b) (length p + length (F.bits a ++ (G a).bits b))
  unfolding seq
  seq-back p q a b ga gb =
      rw (append_assoc (F.bits a) ((G a).bits b) q)
      (rw (LF.back p ((G a).bits b ++ q) a ga)
      (rw (on (G a) p (F.bits a) ((G a).bits b ++ q))
      (rw ((LG a ga).back (p ++ F.bits a) q b gb) (ap (got (a, b)) (simp (length-append, add_assoc))))))

  seq-exact : (p t : Bits) (a : A) (b : B) (d e : ℕ) → (x : Exact F p t a d) → Exact (G a) (p ++ F.bits a) x.rest b e → Exact (seq F G) p t (a, b) e
  unfolding seq
  seq-exact p t a b d e x y =
      let j = joined F (G a) p t a b d e x y in
      record { rest = y.rest; split = j.0; place = j.1; is-good = both-T (F.good a) ((G a).good b) x.is-good y.is-good }

  pub seq-lawful-good : Lawful (seq F G)
  unfolding seq
  seq-lawful-good =
      record {
        back = λ p q c g. seq-back p q c.0 c.1 (both-0 (F.good c.0) ((G c.0).good c.1) g) (both-1 (F.good c.0) ((G c.0).good c.1) g);
        exact = λ p t c e h.
            under (F.read (p ++ t) (length p)) _ h
            (λ a d ha h₁.
            under ((G a).read (p ++ t) d) _ h₁
            (λ b f hb h₂.
            let x = LF.exact p t a d ha in
            let s : (a, b) ≡ c = (cc h₂) in
            let r : f ≡ e = (cc h₂) in
            subst (λ (z : A × B). Exact (seq F G) p t z e) s
            (seq-exact p t a b d e x (then F (G a) (LG a x.is-good) p t a b d e x (hb ∙ ap (got b) r)))));
      }

pub seq-lawful : {A B : Type 0} (F : Fmt A) (G : A → Fmt B) → Lawful F → ((a : A) → Lawful (G a)) → Lawful (seq F G)
seq-lawful F G LF LG = seq-lawful-good F G LF (λ a g. LG a)

module _ {A B : Type 0} (to : A → B) (from : B → A) (ok : B → Bool) (F : Fmt A)
    (there : (b : B) → T (ok b) → to (from b) ≡ b) (again : (a : A) → T (F.good a) → (from (to a) ≡ a) × T (ok (to a))) (LF : Lawful F) where
  shaped-exact : (p t : Bits) (a : A) (e : ℕ) → T (ok (to a)) → from (to a) ≡ a → Exact F p t a e → Exact (shaped to from ok F) p t (to a) e
  unfolding shaped
  shaped-exact p t a e o r x =
      record {
        rest = x.rest;
        split = x.split ∙ ap (λ (z : A). F.bits z ++ x.rest) (sym r);
        place = x.place ∙ ap (λ (z : A). length p + length (F.bits z)) (sym r);
        is-good = both-T (ok (to a)) (F.good (from (to a))) o (subst⁻¹ (λ (z : A). T (F.good z)) r x.is-good);
      }

  pub shaped-lawful : Lawful (shaped to from ok F)
  unfolding shaped
  shaped-lawful =
      record {
        back = λ p q b g.
            rw (LF.back p q (from b) (both-1 (ok b) (F.good (from b)) g)) (rw (there b (both-0 (ok b) (F.good (from b)) g)));
        exact = λ p t b e h.
            under (F.read (p ++ t) (length p)) _ h
            (λ a d ha h₁.
            let s : to a ≡ b = (cc h₁) in
            let r : d ≡ e = (cc h₁) in
            let x = LF.exact p t a e (ha ∙ ap (got a) r) in
            subst (λ (z : B). Exact (shaped to from ok F) p t z e) s
            (shaped-exact p t a e (again a x.is-good).1 (again a x.is-good).0 x));
      }

module _ {A : Type 0} (ok : A → Bool) (n : ℕ) (value : A → ℤ) (F : Fmt A) (LF : Lawful F) where
  pub test-lawful : Lawful (test ok n value F)
  unfolding test
  test-lawful =
      record {
        back = λ p q a g. rw (LF.back p q a (both-1 (ok a) (F.good a) g)) (rw (T_true (ok a) (both-0 (ok a) (F.good a) g)));
        exact = λ p t b e h.
            under (F.read (p ++ t) (length p)) _ h
            (λ a d ha h₁.
            let w = chosen (ok a) a b d e _ h₁ in
            let x = LF.exact p t a e (ha ∙ ap (got a) w.2) in
            subst (λ (z : A). Exact (test ok n value F) p t z e) w.1
            (record { rest = x.rest; split = x.split; place = x.place; is-good = both-T (ok a) (F.good a) w.0 x.is-good }));
      }

module _ {A : Type 0} (z : A) (isz : A → Bool) (F : Fmt A) (zero_is : T (isz z)) (is_zero : (a : A) → T (isz a) → a ≡ z) (LF : Lawful F) where
  pub when-lawful : (b : Bool) → Lawful (when b z isz F)
  unfolding when
  when-lawful true =
      record {
        back = λ p q m g.
            let t : m.there ≡ true = T_true m.there (both-0 m.there (F.good m.value) g) in
            rw (LF.back p q m.value (both-1 m.there (F.good m.value) g))
            (ap (λ (t : Bool). got (record { there = t; value = m.value }) (length p + length (F.bits m.value))) (sym t));
        exact = λ p t m e h.
            under (F.read (p ++ t) (length p)) _ h
            (λ a d ha h₁.
            let s : record { there = true; value = a } ≡ m = (cc h₁) in
            let r : d ≡ e = (cc h₁) in
            let x = LF.exact p t a e (ha ∙ ap (got a) r) in
            subst (λ (y : Marked A). Exact (when true z isz F) p t y e) s
            (record { rest = x.rest; split = x.split; place = x.place; is-good = x.is-good }));
      }
  when-lawful false =
      record {
        back = λ p q m g.
            let t : m.there ≡ false = not-T-false m.there (both-0 (not m.there) (isz m.value) g) in
            let v : m.value ≡ z = is_zero m.value (both-1 (not m.there) (isz m.value) g) in
            rw (add-zero (length p)) (ap {B = Res (Marked A)} (λ (y : Marked A). got y (length p)) (λ i. record { there = sym t i; value = sym v i }));
        exact = λ p t m e h.
            let s : record { there = false; value = z } ≡ m = (cc h) in
            let d : length p ≡ e = (cc h) in
            subst (λ (y : Marked A). Exact (when false z isz F) p t y e) s
            (record { rest = t; split = refl; place = sym d ∙ sym (add-zero (length p)); is-good = zero_is });
      }

-- a good value's mark says whether it is there
pub when-there : {A : Type 0} (b : Bool) (z : A) (isz : A → Bool) (F : Fmt A) (m : Marked A) → T ((when b z isz F).good m) → m.there ≡ b
unfolding when
when-there true z isz F m g = T_true m.there (both-0 m.there (F.good m.value) g)
when-there false z isz F m g = not-T-false m.there (both-0 (not m.there) (isz m.value) g)
