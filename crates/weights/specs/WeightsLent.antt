-- The table read into lent words: eight an entry, in the syntax's order, with flags as 0 and 1.
use Rattle.std.specs.Prelude.{ℕ, ◌*◌, Bool, ℤ, pos, take, replicate}
use mathlib.Core.List.{List, [], ◌∷◌, flat_map}
use Rattle.std.proofs.lemmas.List.Edits.{sets}
use Rattle.bits.specs.Refusals.{Res, got, no, pick}
use Rattle.bits.specs.Bits.{Bits}
use Rattle.fmt.specs.Leaves.{ue}
use Rattle.syntax.specs.declared.context.Context.{Context}
use Rattle.syntax.specs.declared.record.Weight.{Weight}
use Rattle.syntax.specs.declared.record.WeightList.{WeightList}
use Rattle.syntax.specs.declared.record.PredWeightTable.{PredWeightTable}
use Rattle.syntax.specs.Context.{is_b, has_chroma, is_weighted}
use Rattle.syntax.specs.Marks.{number_if}
use Rattle.syntax.specs.SliceHeader.{weight, weight_list}
use Rattle.weights.specs.Counts.{at_most32}
use Rattle.lists.specs.Begun.{after, times_begun}
use Rattle.weights.specs.declared.weight_words.WeightsShort.{WeightsShort}
use Rattle.std.specs.Prelude.{Ok, Err}
use Rattle.bits.specs.Answers.{Read}

abbrev pub flag_word : Bool → ℤ
flag_word b = pick b (pos 1) (pos 0)

abbrev pub entry_words : Weight → List ℤ
entry_words w =
    flag_word w.luma_weight_flag ∷ w.luma_weight ∷ w.luma_offset
    ∷ flag_word w.chroma_weight_flag ∷ w.cb_weight ∷ w.cb_offset ∷ w.cr_weight ∷ w.cr_offset ∷ []

-- the words of the entries in use
unfoldable pub weight_words : WeightList → List ℤ
weight_words l = flat_map entry_words (take l.count l.entries)

-- the words of a list's entries that are read before it ends or is refused
abbrev pub entries_begun : Bool → ℕ → Bits → ℕ → List ℤ
entries_begun chroma n s at = flat_map entry_words (times_begun n (weight chroma) s at)

-- and of each list in the table
unfoldable pub l0_begun : Context → ℕ → ℕ → Bits → ℕ → List ℤ
l0_begun x k n0 s at =
    pick (is_weighted x k)
    (after (ue.read s at) (λ luma c.
    after ((number_if (has_chroma x) ue).read s c) (λ chroma d.
    entries_begun (has_chroma x) n0 s d)))
    []

unfoldable pub l1_begun : Context → ℕ → ℕ → ℕ → Bits → ℕ → List ℤ
l1_begun x k n0 n1 s at =
    pick (is_weighted x k)
    (after (ue.read s at) (λ luma c.
    after ((number_if (has_chroma x) ue).read s c) (λ chroma d.
    after ((weight_list (has_chroma x) n0).read s d) (λ l0 e.
    entries_begun (has_chroma x) (pick (is_b k) n1 0) s e))))
    []

-- the entries that a count says are in use are zeroed, and no more
unfoldable pub emptied_weights : ℕ → List ℤ → List ℤ
emptied_weights count words = sets words 0 (replicate (8 * at_most32 count) (pos 0))

abbrev pub weights_short : PredWeightTable → WeightsShort
weights_short t =
    record {
      there = t.there;
      luma_log2_weight_denom = t.luma_log2_weight_denom;
      chroma_log2_weight_denom = t.chroma_log2_weight_denom;
      l0 = t.l0.count;
      l1 = t.l1.count;
    }

abbrev pub weights_step : Res PredWeightTable → Read WeightsShort
weights_step (got t e) = Ok ((weights_short t), record { at = e })
weights_step (no r) = Err r

-- ---- private contracts

abbrev pub list_step : Res WeightList → Read ℕ
list_step (got l e) = Ok (l.count, record { at = e })
list_step (no r) = Err r
