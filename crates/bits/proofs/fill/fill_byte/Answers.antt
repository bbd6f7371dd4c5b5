use Prim.Native.Nat.{◌<◌}
use Rattle.bits.proofs.Fills.{top-fits, made-lt, put-made}
use borrow.Author.Rules.{rules}
use Rattle.bits.proofs.fill.fill_byte.Goals as goal

pub overflow_add-d : goal.overflow_add-d
overflow_add-d c =
    let a = c.args in
    let h = c.requires in
    -- the byte that stood there
    let stood : c.wide.result < 256 = rw c.wide.ensures (search rules) in
    record { fits = top-fits a.d.now a.at a.n a.v _ h.0 h.1 h.2 h.3 c.wide.ensures stood }

pub overflow_cast-d-3 : goal.overflow_cast-d-3
overflow_cast-d-3 c =
    let a = c.args in
    let h = c.requires in
    -- the byte that stood there
    let stood : c.wide.result < 256 = rw c.wide.ensures (search rules) in
    record { fits = made-lt a.d.now a.at a.n a.v _ h.0 h.1 h.2 h.3 c.wide.ensures stood }

pub returns : goal.returns
returns c =
    let a = c.args in
    let h = c.requires in
    -- the byte that stood there
    let stood : c.wide.result < 256 = rw c.wide.ensures (search rules) in
    put-made a.d.now a.at a.n a.v _ h.0 h.1 h.2 h.3 c.wide.ensures stood
