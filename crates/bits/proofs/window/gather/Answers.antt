use borrow.Author.Rules.{rules}
use Rattle.bits.proofs.window.gather.Goals as goal

pub returns-then-k-s : goal.returns-then-k-s
returns-then-k-s c = search rules

pub returns-else-k-s : goal.returns-else-k-s
returns-else-k-s c = search rules
