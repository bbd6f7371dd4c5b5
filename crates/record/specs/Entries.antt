-- Lists out of their words. Words behind the entries in use are not looked at: the record's unused entries are zero.
use Rattle.std.specs.Prelude.{ℕ, zero, suc, Bool, not, List, [], ◌∷◌, ℤ, pos, get_or, drop}
use Rattle.fmt.specs.Arrays.{pad}
use Rattle.syntax.specs.Marks.{is_zero_z}
use Rattle.syntax.specs.Lists.{Operation, to_operations}
use Rattle.syntax.specs.SliceHeader.{no_weight}
use Rattle.syntax.specs.declared.record.Operations.{Operations}
use Rattle.syntax.specs.declared.record.Weight.{Weight}
use Rattle.syntax.specs.declared.record.WeightList.{WeightList}
use Rattle.weights.specs.Counts.{at_most32}
use Rattle.lists.specs.ListsLent.{at_most66}

-- the first n entries, three words each
unfoldable pub operations_in : ℕ → List ℕ → List Operation
operations_in zero words = []
operations_in (suc n) words = (get_or words 0 0, (get_or words 1 0, get_or words 2 0)) ∷ operations_in n (drop 3 words)

unfoldable pub operations_from : ℕ → List ℕ → Operations
operations_from count words = to_operations (operations_in (at_most66 count) words)

-- ---- weights

abbrev pub is_set_z : ℤ → Bool
is_set_z z = not (is_zero_z z)

-- an entry: eight words in the syntax's order
unfoldable pub weight_from : List ℤ → Weight
weight_from words =
    record {
      luma_weight_flag = is_set_z (get_or words 0 (pos 0));
      luma_weight = get_or words 1 (pos 0);
      luma_offset = get_or words 2 (pos 0);
      chroma_weight_flag = is_set_z (get_or words 3 (pos 0));
      cb_weight = get_or words 4 (pos 0);
      cb_offset = get_or words 5 (pos 0);
      cr_weight = get_or words 6 (pos 0);
      cr_offset = get_or words 7 (pos 0);
    }

-- the first n entries
unfoldable pub weights_in : ℕ → List ℤ → List Weight
weights_in zero words = []
weights_in (suc n) words = weight_from words ∷ weights_in n (drop 8 words)

unfoldable pub weights_from : ℕ → List ℤ → WeightList
weights_from count words = record { count = at_most32 count; entries = pad no_weight 32 (weights_in (at_most32 count) words) }
