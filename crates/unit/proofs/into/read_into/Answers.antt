use Rattle.unit.specs.declared.into.ShortAnswer.{ShortAnswer}
use Rattle.unit.proofs.Held.{kept, cleared}
use Rattle.unit.proofs.into.read_into.Goals as goal

pub take-requires : goal.take-requires
take-requires c = c.requires

pub returns-in-Slice-clause-read : goal.returns-in-Slice-clause-read
returns-in-Slice-clause-read c = kept c.take.ensures.taken (ShortAnswer.Slice _) c.in-Slice.is (λ h. h)

pub returns-in-Prefix-clause-read : goal.returns-in-Prefix-clause-read
returns-in-Prefix-clause-read c = kept c.take.ensures.taken (ShortAnswer.«Prefix» _) c.in-Prefix.is (λ h. h)

pub returns-in-Sequence-clause-read : goal.returns-in-Sequence-clause-read
returns-in-Sequence-clause-read c = kept c.take.ensures.taken (ShortAnswer.Sequence _) c.in-Sequence.is (λ h. h)

pub returns-in-Picture-clause-read : goal.returns-in-Picture-clause-read
returns-in-Picture-clause-read c = kept c.take.ensures.taken (ShortAnswer.Picture _) c.in-Picture.is (λ h. h)

pub returns-in-Other-clause-read : goal.returns-in-Other-clause-read
returns-in-Other-clause-read c = kept c.take.ensures.taken (ShortAnswer.Other _) c.in-Other.is (λ h. h)

pub returns-in-Refused-clause-read : goal.returns-in-Refused-clause-read
returns-in-Refused-clause-read c = cleared c.take.ensures.taken _ c.in-Refused.is c.clear.ensures.words
