use Rattle.header.specs.Short.{emptied}
use Rattle.header.proofs.slice.Words.empty_lists.Goals as goal

pub returns-clause-words : goal.returns-clause-words
unfolding emptied
returns-clause-words c = rw (c.empty_list.ensures, c.empty_list-2.ensures, c.empty_list-3.ensures, c.empty_weights.ensures, c.empty_weights-2.ensures)
