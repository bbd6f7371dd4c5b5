use Rattle.header.specs.Short.{words_in}
use mathlib.Core.Path.{refl, sym, ◌∙◌}
use Rattle.unit.specs.Known.{unit_known}
use Rattle.unit.proofs.Cases.{begun-small}
use Rattle.unit.proofs.Held.{other-taken, none-taken}
use Rattle.unit.proofs.into.take.Goals as goal

pub slice_into-requires : goal.slice_into-requires
slice_into-requires c = begun-small _ _ (sym c.in-Slice.is ∙ c.begun_by.ensures ∙ sym c.requires) refl

pub body_into-requires : goal.body_into-requires
body_into-requires c = begun-small _ _ (sym c.in-Prefix.is ∙ c.begun_by.ensures ∙ sym c.requires) refl

pub sequence_into-requires : goal.sequence_into-requires
sequence_into-requires c = begun-small _ _ (sym c.in-SequenceSet.is ∙ c.begun_by.ensures ∙ sym c.requires) refl

pub picture_into-requires : goal.picture_into-requires
picture_into-requires c = begun-small _ _ (sym c.in-PictureSet.is ∙ c.begun_by.ensures ∙ sym c.requires) refl

pub returns-in-Slice-clause-taken : goal.returns-in-Slice-clause-taken
unfolding unit_known
returns-in-Slice-clause-taken c = rw (c.requires, ← c.begun_by.ensures, c.in-Slice.is) (c.slice_into.ensures.taken c.args.w.now.base.now)

pub returns-in-Prefix-clause-taken : goal.returns-in-Prefix-clause-taken
unfolding unit_known
returns-in-Prefix-clause-taken c =
    let a = c.args in
    rw (c.requires, ← c.begun_by.ensures, c.in-Prefix.is) (c.body_into.ensures (words_in a.w.now.header))

pub returns-in-SequenceSet-clause-taken : goal.returns-in-SequenceSet-clause-taken
unfolding unit_known
returns-in-SequenceSet-clause-taken c = rw (c.requires, ← c.begun_by.ensures, c.in-SequenceSet.is) (c.sequence_into.ensures _)

pub returns-in-PictureSet-clause-taken : goal.returns-in-PictureSet-clause-taken
unfolding unit_known
returns-in-PictureSet-clause-taken c = rw (c.requires, ← c.begun_by.ensures, c.in-PictureSet.is) (c.picture_into.ensures _)

pub returns-in-Other-clause-taken : goal.returns-in-Other-clause-taken
unfolding unit_known
returns-in-Other-clause-taken c = rw (c.requires, ← c.begun_by.ensures, c.in-Other.is) (other-taken _ refl _)

pub returns-in-Refused-clause-taken : goal.returns-in-Refused-clause-taken
unfolding unit_known
returns-in-Refused-clause-taken c = rw (c.requires, ← c.begun_by.ensures, c.in-Refused.is) (none-taken _ refl _ _)
