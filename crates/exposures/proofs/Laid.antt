-- The state in words: words hold the state that was laid down, and what is taken by words is what is taken by states.
use mathlib.Core.Bool.{Bool, true, false, not}
use mathlib.Core.List.{List, [], ◌∷◌, ◌++◌}
use mathlib.Core.Path.{◌≡◌, refl, ap, ◌∙◌}
use lib.Dec.{eqb}
use Rattle.bits.specs.Codes.{bit_of}
use Rattle.exposures.specs.declared.slice.Slice.{Slice}
use Rattle.exposures.specs.declared.slice.Kind.{Kind}
use Rattle.exposures.specs.declared.slice.Item.{Item}
use Rattle.exposures.specs.declared.counts.Counts.{Counts}
use Rattle.exposures.specs.declared.exposure.Exposure.{Exposure}
use Rattle.exposures.specs.Pictures.{counts_of, exposures}
use Rattle.exposures.specs.Take.{State, start, counted, slice_taken, unit_taken, take_of, said, run, state_after}
use Rattle.exposures.specs.Words.{Words, exposure_in, last_in, counts_in, state_in, words_of, run_words, words_after}
use Rattle.exposures.proofs.Runs.{taken-exposures}
use Rattle.exposures.proofs.Counted.{taken-counts}

-- ---- a unit, by what it is and the counts with it

module _ (w : Words) {x : Item} {b c : Counts} where
  pub as-slice : {s : Slice} → x ≡ Item.Slice s → b ≡ counts_in w.sizes → c ≡ counted b x → take_of (state_in w) x ≡ slice_taken (state_in w) s c
  unfolding state_in
  as-slice e f g = rw (g, f, e)

  pub as-unit : {k : Kind} → x ≡ Item.Unit k → b ≡ counts_in w.sizes → c ≡ counted b x → take_of (state_in w) x ≡ unit_taken (state_in w) k c
  unfolding state_in
  as-unit e f g = rw (g, f, e)

-- ---- words and states

flag-back : (b : Bool) → not (eqb (bit_of b) 0) ≡ b
flag-back true = refl
flag-back false = refl

-- laid down and looked at again
pub words-state : (st : State) → state_in (words_of st) ≡ st
unfolding state_in exposure_in last_in counts_in words_of
words-state st = rw (flag-back st.begun, flag-back st.exposure.gap, flag-back st.last.idr_pic_flag, flag-back st.last.field_pic_flag, flag-back st.last.bottom_field_flag)

-- ---- units one after another

run-words : (w : Words) (l : List Item) → run_words w l ≡ run (state_in w) l
run-words w [] = refl
run-words w (x ∷ r) =
    let st = (take_of (state_in w) x).state in
    ap (λ (m : List Exposure). said (take_of (state_in w) x).closed ++ m) (run-words (words_of st) r ∙ ap (λ (z : State). run z r) (words-state st))

after-words : (w : Words) (l : List Item) → state_in (words_after w l) ≡ state_after (state_in w) l
after-words w [] = refl
after-words w (x ∷ r) =
    let st = (take_of (state_in w) x).state in
    after-words (words_of st) r ∙ ap (λ (z : State). state_after z r) (words-state st)

-- for every list: taken by words from the start's on, and then the end, its units close the exposures of its pictures, in order
pub words-exposures : (l : List Item) → run_words (words_of start) l ≡ exposures l
words-exposures l = run-words (words_of start) l ∙ ap (λ (z : State). run z l) (words-state start) ∙ taken-exposures l

-- and the counts in the words after it are those of its parts
pub words-counts : (l : List Item) → counts_in (words_after (words_of start) l).sizes ≡ counts_of l
unfolding state_in
words-counts l = ap (λ (z : State). z.counts) (after-words (words_of start) l ∙ ap (λ (z : State). state_after z l) (words-state start)) ∙ taken-counts l
