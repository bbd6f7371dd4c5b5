-- A format: what reading finds at a place of the bits, the bits of a value, and which values have bits; and the combinators that make formats of formats.
use Rattle.std.specs.Prelude.{ℕ, zero, suc, List, [], ◌∷◌, ◌++◌, Bool, true, false, not, ◌&&◌, eqb, ℤ, pos}
use Rattle.bits.specs.Refusals.{Res, got, no, bind, pick, refusal_at, list_full}
use Rattle.bits.specs.Bits.{Bits}

pub record Fmt (A : Type 0) : Type 0 where
  pub read : Bits → ℕ → Res A
  pub bits : A → Bits
  pub good : A → Bool

-- no bits
unfoldable pub nothing : Fmt (Unit {0})
nothing = record { read = λ s at. got tt at; bits = λ u. []; good = λ u. true }

-- first F, then what follows its value
unfoldable pub seq : {A B : Type 0} → Fmt A → (A → Fmt B) → Fmt (A × B)
seq F G =
    record {
      read = λ s at. bind (F.read s at) (λ a e. bind ((G a).read s e) (λ b e'. got (a, b) e'));
      bits = λ p. F.bits p.0 ++ (G p.0).bits p.1;
      good = λ p. F.good p.0 && (G p.0).good p.1;
    }

-- the same bits for a value of another shape; ok says which values of that shape there are
unfoldable pub shaped : {A B : Type 0} → (A → B) → (B → A) → (B → Bool) → Fmt A → Fmt B
shaped to from ok F =
    record {
      read = λ s at. bind (F.read s at) (λ a e. got (to a) e);
      bits = λ b. F.bits (from b);
      good = λ b. ok b && F.good (from b);
    }

-- a field whose value is tested: else refusal n, with its value, at the field's first bit
unfoldable pub test : {A : Type 0} → (A → Bool) → ℕ → (A → ℤ) → Fmt A → Fmt A
test ok n value F =
    record {
      read = λ s at. bind (F.read s at) (λ a e. pick (ok a) (got a e) (no (refusal_at n (value a) at)));
      bits = F.bits;
      good = λ a. ok a && F.good a;
    }

-- a value with a mark whether it is there
pub record Marked (A : Type 0) : Type 0 where
  pub there : Bool
  pub value : A

-- a field that is there only if b; else it has no bits, and the value is the zero z, which isz tells
unfoldable pub when : {A : Type 0} → Bool → A → (A → Bool) → Fmt A → Fmt (Marked A)
when b z isz F =
    record {
      read = λ s at. pick b (bind (F.read s at) (λ a e. got (record { there = true; value = a }) e)) (got (record { there = false; value = z }) at);
      bits = λ m. pick b (F.bits m.value) [];
      good = λ m. pick b (m.there && F.good m.value) (not m.there && isz m.value);
    }

-- n values of F one after the other
unfoldable pub times : {A : Type 0} → ℕ → Fmt A → Fmt (List A)
times zero F =
    record {
      read = λ s at. got [] at;
      bits = λ l. [];
      good = elim [ [] ↦ true | (x ∷ l) ↦ false ];
    }
times (suc n) F =
    record {
      read = λ s at. bind (F.read s at) (λ a e. bind ((times n F).read s e) (λ l e'. got (a ∷ l) e'));
      bits = elim [ [] ↦ [] | (x ∷ l) ↦ F.bits x ++ (times n F).bits l ];
      good = elim [ [] ↦ false | (x ∷ l) ↦ F.good x && (times n F).good l ];
    }

-- codes C, each with its operands G, up to the closing code; at most n before it, else the list is full: refused at the code that is one too many, before its
-- operands
unfoldable pub until : {A : Type 0} → Fmt ℕ → ℕ → (ℕ → Fmt A) → ℕ → Fmt (List (ℕ × A))
until C close G zero =
    record {
      read = λ s at. bind (C.read s at) (λ c e. pick (eqb c close) (got [] e) (no (refusal_at list_full (pos 0) at)));
      bits = λ l. C.bits close;
      good = elim [ [] ↦ C.good close | (x ∷ l) ↦ false ];
    }
until C close G (suc n) =
    record {
      read = λ s at.
          bind (C.read s at)
          (λ c e.
          pick (eqb c close) (got [] e) (bind ((G c).read s e) (λ a e'. bind ((until C close G n).read s e') (λ l e''. got ((c, a) ∷ l) e''))));
      bits = elim [ [] ↦ C.bits close | (x ∷ l) ↦ C.bits x.0 ++ ((G x.0).bits x.1 ++ (until C close G n).bits l) ];
      good = elim [
        | [] ↦ C.good close
        | (x ∷ l) ↦ (not (eqb x.0 close) && C.good x.0) && ((G x.0).good x.1 && (until C close G n).good l)
      ];
    }
