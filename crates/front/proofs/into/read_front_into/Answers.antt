use mathlib.Core.Path.{refl, sym, ◌∙◌}
use mathlib.Core.List.{[]}
use Rattle.header.specs.Lead.{table_in}
use Rattle.unit.proofs.Begun.{begun-own}
use Rattle.unit.proofs.Cases.{begun-small}
use Rattle.unit.proofs.Held.{refused-into}
use Rattle.front.proofs.Cases.{front-slice, front-prefix, front-sequence, front-picture, front-other, front-none, front-own, front-34}
use Rattle.front.proofs.Answers.{other-into}
use Rattle.front.proofs.into.read_front_into.Goals as goal

pub returns-then-not-is_head_of-clause-read : goal.returns-then-not-is_head_of-clause-read
returns-then-not-is_head_of-clause-read c =
    let a = c.args in
    let e = sym c.is_head_of.ensures ∙ c.if-not-is_head_of.true in
    rw c.refuse.ensures (refused-into (front-34 (table_in a.sets) a.unit.now [] a.head e) _ c.clear.ensures.words)

pub picture_into-requires : goal.picture_into-requires
picture_into-requires c = begun-small _ _ (sym c.in-PictureSet.is ∙ c.begun_by.ensures ∙ sym (begun-own _ _ (sym c.is_head_of.ensures ∙ c.if-not-is_head_of.false))) refl

pub returns-in-Slice-clause-read : goal.returns-in-Slice-clause-read
returns-in-Slice-clause-read c =
    let a = c.args in
    let e = sym c.is_head_of.ensures ∙ c.if-not-is_head_of.false in
    let h = c.slice_into.ensures in
    rw (front-own (table_in a.sets) a.unit.now [] a.head e, front-slice (table_in a.sets) a.unit.now [] _ _ (begun-own _ _ e ∙ sym c.begun_by.ensures ∙ c.in-Slice.is)) (record { answered = h.value; left = refl; words = h.words })

pub returns-in-Prefix-clause-read : goal.returns-in-Prefix-clause-read
returns-in-Prefix-clause-read c =
    let a = c.args in
    let e = sym c.is_head_of.ensures ∙ c.if-not-is_head_of.false in
    let h = c.prefix_into.ensures in
    rw (front-own (table_in a.sets) a.unit.now [] a.head e, front-prefix (table_in a.sets) a.unit.now [] _ (begun-own _ _ e ∙ sym c.begun_by.ensures ∙ c.in-Prefix.is)) (record { answered = h.value; left = refl; words = h.words })

pub returns-in-SequenceSet-clause-read : goal.returns-in-SequenceSet-clause-read
returns-in-SequenceSet-clause-read c =
    let a = c.args in
    let e = sym c.is_head_of.ensures ∙ c.if-not-is_head_of.false in
    let h = c.sequence_into.ensures in
    rw (front-own (table_in a.sets) a.unit.now [] a.head e, front-sequence (table_in a.sets) a.unit.now [] (begun-own _ _ e ∙ sym c.begun_by.ensures ∙ c.in-SequenceSet.is)) (record { answered = h.value; left = refl; words = h.words })

pub returns-in-PictureSet-clause-read : goal.returns-in-PictureSet-clause-read
returns-in-PictureSet-clause-read c =
    let a = c.args in
    let e = sym c.is_head_of.ensures ∙ c.if-not-is_head_of.false in
    let h = c.picture_into.ensures in
    rw (front-own (table_in a.sets) a.unit.now [] a.head e, front-picture (table_in a.sets) a.unit.now [] (begun-own _ _ e ∙ sym c.begun_by.ensures ∙ c.in-PictureSet.is)) (record { answered = h.value; left = refl; words = h.words })

pub returns-in-Other-clause-read : goal.returns-in-Other-clause-read
returns-in-Other-clause-read c =
    let a = c.args in
    let e = sym c.is_head_of.ensures ∙ c.if-not-is_head_of.false in
    rw (front-own (table_in a.sets) a.unit.now [] a.head e) (other-into _ (front-other (table_in a.sets) a.unit.now [] _ (begun-own _ _ e ∙ sym c.begun_by.ensures ∙ c.in-Other.is)) _)

pub returns-in-Refused-clause-read : goal.returns-in-Refused-clause-read
returns-in-Refused-clause-read c =
    let a = c.args in
    let e = sym c.is_head_of.ensures ∙ c.if-not-is_head_of.false in
    rw (front-own (table_in a.sets) a.unit.now [] a.head e) (refused-into (front-none (table_in a.sets) a.unit.now [] _ (begun-own _ _ e ∙ sym c.begun_by.ensures ∙ c.in-Refused.is)) _ c.clear-in-Refused.ensures.words)
