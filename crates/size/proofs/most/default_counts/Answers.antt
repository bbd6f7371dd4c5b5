use mathlib.Core.Path.{sym, ap, ◌∙◌}
use Rattle.syntax.specs.Context.{picture_in}
use Rattle.size.proofs.most.default_counts.Goals as goal
use Rattle.std.specs.Prelude.{Option}
use Rattle.table.specs.declared.sets.Picture.{Picture}
use Rattle.std.specs.Prelude.{ℕ}

pub returns-in-Some : goal.returns-in-Some
returns-in-Some c =
    let e = sym c.in-Some.is ∙ c.picture_in.ensures in
    (ap (λ (f : Option (Picture × ℕ)). (picture_in f).num_ref_idx_l0_default_active_minus1) e, ap (λ (f : Option (Picture × ℕ)). (picture_in f).num_ref_idx_l1_default_active_minus1) e)

pub returns-in-None : goal.returns-in-None
returns-in-None c =
    let e = sym c.in-None.is ∙ c.picture_in.ensures in
    (ap (λ (f : Option (Picture × ℕ)). (picture_in f).num_ref_idx_l0_default_active_minus1) e, ap (λ (f : Option (Picture × ℕ)). (picture_in f).num_ref_idx_l1_default_active_minus1) e)
