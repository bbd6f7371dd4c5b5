-- What makes a format lawful: the bits of a good value are read back, and what is read is a good value whose bits are those that were read. With the tools
-- that the combinators' laws share.
use Prim.Native.Nat.{ℕ, ◌+◌}
use mathlib.Core.Path.{◌≡◌, refl, ap, sym, ◌∙◌}
use mathlib.Core.List.{◌++◌, append_assoc}
use mathlib.Core.Bool.{Bool, true, false, not, ◌&&◌}
use native.Mathlib.Nat.{add_assoc}
use lib.Dec.{T, eqb, eqb_refl}
use lib.ListN.{length, length-append}
use Rattle.bits.specs.Refusals.{got}
use Rattle.bits.specs.Bits.{Bits}
use Rattle.fmt.specs.Fmt.{Fmt}

-- what was read at the seam of p and t: the bits of a, and the rest
pub record Exact {A : Type 0} (F : Fmt A) (p t : Bits) (a : A) (e : ℕ) : Type 0 where
  pub rest : Bits
  pub split : t ≡ F.bits a ++ rest
  pub place : e ≡ length p + length (F.bits a)
  pub is-good : T (F.good a)

pub record Lawful {A : Type 0} (F : Fmt A) : Type 0 where
  -- a good value's bits are read back, whatever follows
  pub back : (p q : Bits) (a : A) → T (F.good a) → F.read (p ++ (F.bits a ++ q)) (length p) ≡ got a (length p + length (F.bits a))
  -- what is read is good, and its bits are those that were read
  pub exact : (p t : Bits) (a : A) (e : ℕ) → F.read (p ++ t) (length p) ≡ got a e → Exact F p t a e

-- ---- tests

pub both-0 : (a b : Bool) → T (a && b) → T a
both-0 true b t = tt
both-0 false b t = t

pub both-1 : (a b : Bool) → T (a && b) → T b
both-1 true b t = t
both-1 false b t = absurd t

pub both-T : (a b : Bool) → T a → T b → T (a && b)
both-T true b s t = t
both-T false b s t = s

pub T_true : (b : Bool) → T b → b ≡ true
T_true true t = refl
T_true false t = absurd t

pub not-T-false : (b : Bool) → T (not b) → b ≡ false
not-T-false true t = absurd t
not-T-false false t = refl

pub eqb-self : (n : ℕ) → eqb n n ≡ true
eqb-self n = T_true (eqb n n) (eqb_refl n)

-- ---- reading on

-- reading after x
pub on : {A : Type 0} (F : Fmt A) (p x q : Bits) → F.read (p ++ (x ++ q)) (length p + length x) ≡ F.read ((p ++ x) ++ q) (length (p ++ x))
on F p x q = simp (append_assoc, length-append)

-- a format that reads on after F's value
pub then : {A B : Type 0} (F : Fmt A) (G : Fmt B) → Lawful G → (p t : Bits) (a : A) (b : B) (d e : ℕ) → (x : Exact F p t a d) → G.read (p ++ t) d ≡ got b e
    → Exact G (p ++ F.bits a) x.rest b e
then F G LG p t a b d e x h = LG.exact (p ++ F.bits a) x.rest b e (rw (← on G p (F.bits a) x.rest, ← x.split, ← x.place) h)

-- the bits of both, one after the other
pub joined : {A B : Type 0} (F : Fmt A) (G : Fmt B) (p t : Bits) (a : A) (b : B) (d e : ℕ) → (x : Exact F p t a d) (y : Exact G (p ++ F.bits a) x.rest b e)
    → (t ≡ (F.bits a ++ G.bits b) ++ y.rest) × (e ≡ length p + length (F.bits a ++ G.bits b))
joined F G p t a b d e x y = (
  x.split ∙ ap (λ (l : Bits). F.bits a ++ l) y.split ∙ sym (append_assoc (F.bits a) (G.bits b) y.rest),
  y.place ∙ simp (length-append, add_assoc),
)
