-- The answers of reading the front of a prefix unit's body, which are those of reading on: one that was read, and a refusal that more bits do not change.
use Prim.Native.Nat.{ℕ}
use mathlib.Core.Path.{◌≡◌, refl, sym, ap, ◌∙◌}
use mathlib.Core.List.{List, ◌++◌}
use mathlib.Core.Bool.{false}
use native.Mathlib.Omega.{arith}
use Rattle.bits.specs.declared.refusals.Refusal.{Refusal}
use Rattle.bits.specs.declared.read.Cursor.{Cursor}
use Rattle.bits.specs.Refusals.{Res, got, no}
use Rattle.bits.specs.Bits.{Bits}
use Rattle.syntax.specs.declared.context.PrefixKind.{PrefixKind}
use Rattle.syntax.specs.declared.record.Prefix.{Prefix}
use Rattle.syntax.specs.Prefix.{prefix}
use Rattle.lists.specs.declared.list_words.PrefixShort.{PrefixShort}
use Rattle.lists.specs.ListsLent.{prefix_step, prefix_left}
use Rattle.cut.specs.Seam.{may_change}
use Rattle.cut.proofs.Fronts.{not_five, prefix-got, prefix-no}
use Rattle.std.specs.Prelude.{Ok, Err}
use Rattle.bits.specs.Answers.{Read}

-- ---- the body of a prefix unit

module _ (k : PrefixKind) (s r : Bits) {a : Read PrefixShort} {w : List ℕ} (p : a ≡ prefix_step ((prefix k).read s 0)) (q : w ≡ prefix_left ((prefix k).read s 0)) where
  abbrev SamePrefix : Type 0
  SamePrefix = (a ≡ prefix_step ((prefix k).read (s ++ r) 0)) × (w ≡ prefix_left ((prefix k).read (s ++ r) 0))

  same-prefix : (prefix k).read (s ++ r) 0 ≡ (prefix k).read s 0 → SamePrefix
  same-prefix e = rw e (p, q)

  pub prefix-kept : (v : PrefixShort) (c : Cursor) → a ≡ Ok (v, c) → SamePrefix
  unfolding prefix_step
  prefix-kept v c e = go ((prefix k).read s 0) refl
    where
      go : (m : Res Prefix) → (prefix k).read s 0 ≡ m → SamePrefix
      go (got h d) f = same-prefix (prefix-got k s r h d f ∙ sym f)
      go (no x) f = let y : Ok (v, c) ≡ Err x = sym e ∙ p ∙ ap prefix_step f in absurd (let z : ◌≡◌ {A = ℕ} 0 1 = cc in omega arith)

  pub prefix-refusal-kept : (x : Refusal) → a ≡ Err x → may_change x ≡ false → SamePrefix
  unfolding prefix_step
  prefix-refusal-kept x e g = go ((prefix k).read s 0) refl
    where
      go : (m : Res Prefix) → (prefix k).read s 0 ≡ m → SamePrefix
      go (got h d) f = let y : Err x ≡ prefix_step (got h d) = sym e ∙ p ∙ ap prefix_step f in absurd (let z : ◌≡◌ {A = ℕ} 0 1 = cc in omega arith)
      go (no y) f =
          let v : Err x ≡ Err y = sym e ∙ p ∙ ap prefix_step f in
          let u : x ≡ y = cc in
          same-prefix (prefix-no k s r y f (not_five y (rw u at g)) ∙ sym f)
