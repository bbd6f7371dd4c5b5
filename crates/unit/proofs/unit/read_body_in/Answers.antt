use Rattle.header.specs.Lead.{table_in}
use Rattle.unit.proofs.Whole.{body-whole}
use Rattle.unit.proofs.unit.read_body_in.Goals as goal

pub shape_of-scratch : goal.shape_of-scratch
shape_of-scratch c = c.read_body_into-a.auto.scratch

pub returns : goal.returns
returns c =
    let g = c.read_body_into-a.ensures.read in
    let a = c.args in (
      rw (c.long_answer.ensures, c.header_of.ensures, c.held.ensures, c.prefix_of.ensures, c.prefix_in.ensures)
          (body-whole (table_in a.sets) a.head a.unit.now a.scratch.now g.answered g.words),
      g.left,
    )
