-- A list in lent words: what is left in them.
use Prim.Native.Nat.{ℕ, ◌≤◌}
use mathlib.Core.Path.{◌≡◌, refl, ap, sym, ◌∙◌}
use mathlib.Core.List.{List, [], ◌++◌, flat_map}
use mathlib.Core.Bool.{Bool, true, false}
use native.Mathlib.Omega.{arith}
use lib.ListN.{length, replicate}
use lib.Seq.{sets}
use Rattle.bits.specs.declared.read.Cursor.{Cursor}
use Rattle.bits.specs.declared.refusals.Refusal.{Refusal}
use Rattle.bits.specs.Bits.{Bits}
use Rattle.bits.specs.Refusals.{Res, got, no}
use Rattle.bits.proofs.Results.{cases, under}
use Rattle.fmt.specs.Fmt.{shaped, until}
use Rattle.syntax.specs.declared.record.Operations.{Operations}
use Rattle.syntax.specs.Lists.{Operation, Kind, entries, code, operands, operations, operations_if, no_operations, to_operations, of_operations}
use Rattle.syntax.proofs.Operations.{of-to-operations, code-lawful, operands-lawful}
use Rattle.lists.specs.Begun.{until_begun}
use Rattle.lists.specs.Leaves.{leaves, Covered}
use Rattle.lists.specs.ListsLent.{operation_words, list_words, list_step, list_left, list_begun}
use Rattle.lists.proofs.Reading.{list-there, list-absent}
use Rattle.lists.proofs.Begun.{until-all, until-few}
use Rattle.lists.proofs.Fronts.{length-flat, sets_over}
use Rattle.std.specs.Prelude.{Ok, Err}
use Rattle.bits.specs.Answers.{Read}
use Rattle.bits.proofs.Unique.{one-answer}

-- no list has no words
pub no-list : list_words no_operations ≡ []
unfolding list_words of_operations flat_map
no-list = refl

module _ (b : Bool) (k : Kind) (s : Bits) (at : ℕ) where
  abbrev entries_begun : List Operation
  entries_begun = until_begun (code k) k.closing (operands k) entries s at

  all_there : b ≡ true → (o : Operations) (e : ℕ) → (operations_if b k).read s at ≡ got o e → flat_map operation_words entries_begun ≡ list_words o
  unfolding operations shaped list_words
  all_there t o e h =
      under ((until (code k) k.closing (operands k) entries).read s at) _ (list-there b k s at t ∙ h) (λ l d hl j.
      let w : to_operations l ≡ o = cc in
      ap (flat_map operation_words) (until-all (code k) k.closing (operands k) s entries at l d hl ∙ sym (rw (← w) (of-to-operations l))))

  all-absent : b ≡ false → (o : Operations) (e : ℕ) → (operations_if b k).read s at ≡ got o e → [] ≡ list_words o
  all-absent f o e h = let w : got no_operations at ≡ got o e = list-absent b k s at f ∙ h in let v : no_operations ≡ o = cc in rw (← v) (sym no-list)

  -- the words of a list that is read are those of the entries that are read before it ends
  pub begun_all : (o : Operations) (e : ℕ) → (operations_if b k).read s at ≡ got o e → list_begun b k s at ≡ list_words o
  unfolding list_begun flat_map
  begun_all o e h = cases b (λ t. rw t (all_there t o e h)) (λ f. rw f (all-absent f o e h))

  few-there : (t : Bits) → at ≤ length s → b ≡ true → (o : Operations) (e : ℕ) → (operations_if b k).read (s ++ t) at ≡ got o e
      → length (flat_map operation_words entries_begun) ≤ length (list_words o)
  unfolding operations shaped list_words
  few-there t m u o e h =
      under ((until (code k) k.closing (operands k) entries).read (s ++ t) at) _ (list-there b k (s ++ t) at u ∙ h) (λ l d hl j.
      let w : to_operations l ≡ o = cc in
      rw (← w, of-to-operations l)
      (omega (
        arith,
        length-flat operation_words 3 (λ _. refl) entries_begun,
        length-flat operation_words 3 (λ _. refl) l,
        until-few (code k) k.closing (operands k) s (code-lawful k) (operands-lawful k) t entries at m l d hl,
      )))

  -- and where bits are added behind, no more of them are read before
  begun-few : (t : Bits) → at ≤ length s → (o : Operations) (e : ℕ) → (operations_if b k).read (s ++ t) at ≡ got o e → length (list_begun b k s at) ≤ length (list_words o)
  unfolding list_begun flat_map
  begun-few t m o e h = cases b (λ u. rw u (few-there t m u o e h)) (λ f. rw f (omega arith))

  -- so a longer input's list stands over what was left in the words
  pub list-covered : (before words : List ℕ) → words ≡ sets before 0 (list_begun b k s at) → Covered list_words (operations_if b k) s at before words
  unfolding Covered
  list-covered before words w m t o e h = rw w (sets_over before 0 (list_begun b k s at) (list_words o) (begun-few t m o e h))

  -- reading it, where it is there and where it is not
  pub onto-there : (before : List ℕ) {r : Read ℕ} {words : List ℕ} → b ≡ true → (r ≡ list_step ((operations k).read s at)) × (words ≡ sets before 0 (list_begun true k s at))
      → (r ≡ list_step ((operations_if b k).read s at)) × (words ≡ sets before 0 (list_begun b k s at))
  onto-there before t h = rw (← list-there b k s at t, t) h

  pub onto-absent : (before : List ℕ) → b ≡ false → (Ok (0, record { at = at }) ≡ list_step ((operations_if b k).read s at)) × (before ≡ sets before 0 (list_begun b k s at))
  unfolding list_step list_begun flat_map
  onto-absent before f = rw (← list-absent b k s at f, f) (refl, refl)

  -- what is left in the words: a list that was read
  pub left-read : (before : List ℕ) {a : Read ℕ} {n : ℕ} {c : Cursor} {words : List ℕ} → a ≡ list_step ((operations_if b k).read s at) → a ≡ Ok (n, c)
      → words ≡ sets before 0 (list_begun b k s at) → words ≡ list_left ((operations_if b k).read s at) before
  unfolding list_step leaves
  left-read before {a} {n} {c} {words} h g f = go ((operations_if b k).read s at) refl
    where
      go : (m : Res Operations) → (operations_if b k).read s at ≡ m → words ≡ list_left ((operations_if b k).read s at) before
      go (got o e) q = rw q (f ∙ ap (sets before 0) (begun_all o e q))
      go (no r) q = let z : Ok (n, c) ≡ Err r = sym g ∙ h ∙ ap list_step q in cc

-- and zeros beside a refusal
pub left-refused : (m : Res Operations) (before : List ℕ) {a : Read ℕ} {r : Refusal} {words : List ℕ} → a ≡ list_step m → a ≡ Err r → words ≡ replicate 198 0
    → words ≡ list_left m before
unfolding list_step leaves
left-refused (got o e) before h g w = cc
left-refused (no r) before h g w = w

-- a stage that reads a list into words, taken apart: the list, or the refusal
pub record Listed (m : Res Operations) (n : ℕ) (c : Cursor) (before words : List ℕ) : Type 0 where
  pub list : Operations
  pub read : m ≡ got list c.at
  pub counted : n ≡ list.count
  pub held : words ≡ sets before 0 (list_words list)

pub list_read : (m : Res Operations) {a : Read ℕ} {n : ℕ} {c : Cursor} {before words : List ℕ} → a ≡ list_step m → words ≡ list_left m before → a ≡ Ok (n, c)
    → Listed m n c before words
unfolding list_step leaves
list_read (got o e) {c = c} h w g =
    let q = one-answer (sym g ∙ h) in
    record { list = o; read = rw q.1 refl; counted = q.0; held = w }
list_read (no r) h w g = let z : ◌≡◌ {A = ℕ} 0 1 = cc in absurd (omega arith)

pub list-refused : (m : Res Operations) {a : Read ℕ} {r : Refusal} → a ≡ list_step m → a ≡ Err r → m ≡ no r
unfolding list_step
list-refused (got o e) h g = let z : ◌≡◌ {A = ℕ} 0 1 = cc in absurd (omega arith)
list-refused (no r) h g = cc

-- the same of a stage that does not clear the words
pub list-onto : (b : Bool) (k : Kind) (s : Bits) (at : ℕ) {a : Read ℕ} {n : ℕ} {c : Cursor} (before : List ℕ) {words : List ℕ} → a ≡ list_step ((operations_if b k).read s at)
    → words ≡ sets before 0 (list_begun b k s at) → a ≡ Ok (n, c) → Listed ((operations_if b k).read s at) n c before words
list-onto b k s at before h w g = list_read ((operations_if b k).read s at) h (left-read b k s at before h g w) g

pub list-cleared : (m : Res Operations) (before : List ℕ) {a : Read ℕ} {r : Refusal} {words : List ℕ} → a ≡ list_step m → words ≡ list_left m before → a ≡ Err r
    → words ≡ replicate 198 0
unfolding list_step leaves
list-cleared (got o e) before h w g = let z : ◌≡◌ {A = ℕ} 0 1 = cc in absurd (omega arith)
list-cleared (no r) before h w g = w
