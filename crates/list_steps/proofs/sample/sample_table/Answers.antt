use Rattle.syntax.specs.Sample.{sample_table}
use Rattle.list_steps.proofs.sample.sample_table.Goals as goal

pub returns : goal.returns
unfolding sample_table
returns c = rw (c.with_picture-b.ensures, c.picture.ensures, c.with_sequence-a.ensures, c.sequence.ensures, c.empty.ensures)
