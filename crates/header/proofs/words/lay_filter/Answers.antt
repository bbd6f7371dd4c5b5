use mathlib.Core.Path.{refl}
use mir.Facts.{to_z-of_z}
use mir.Syntax.{w32}
use mir.Val.{SFits}
use borrow.Author.Rules.{sfits_of}
use Rattle.header.proofs.words.lay_filter.Goals as goal

-- that each field fits stands deep in what is told of the struct, too deep for a search
pub returns : goal.returns
returns c =
    let a = c.args in
    let f = c.struct_told-1.given in
    let f1 : SFits w32 a.f.slice_alpha_c0_offset_div2.value = sfits_of f.1.0.1.1.1.0.1 in
    let f2 : SFits w32 a.f.slice_beta_offset_div2.value = sfits_of f.1.1.0.1.1.1.0.1 in
    record { numbers_after = refl; signed_after = rw (to_z-of_z f1, to_z-of_z f2) }
