use mathlib.Core.Path.{refl}
use mathlib.Core.List.{flat_map}
use Rattle.fmt.specs.Fmt.{shaped, times}
use Rattle.syntax.specs.SliceHeader.{weight_list}
use Rattle.lists.specs.Begun.{times_begun}
use Rattle.weights.proofs.weight_words.list_if.Goals as goal

pub returns-then-not-there : goal.returns-then-not-there
unfolding weight_list shaped times times_begun flat_map
returns-then-not-there c = rw c.if-not-there.true (record { value = refl; words_after = refl })

pub returns : goal.returns
returns c = rw c.if-not-there.false (record { value = c.list_into.ensures.value; words_after = c.list_into.ensures.words_after })
