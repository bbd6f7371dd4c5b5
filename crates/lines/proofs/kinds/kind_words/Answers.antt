use borrow.Author.Rules.{rules}
use native.Mathlib.Omega.{arith}
use Rattle.lines.proofs.Decimals.{decimal-8}
use Rattle.lines.specs.Kinds.{kind_text}
use Rattle.lines.proofs.Texts.{then}
use Rattle.lines.proofs.kinds.kind_words.Goals as goal

pub field-a-requires : goal.field-a-requires
field-a-requires c = omega (arith, decimal-8 c.args.h.nal_unit_type (search rules), decimal-8 c.args.h.nal_ref_idc (search rules))

pub field-b-requires : goal.field-b-requires
field-b-requires c = omega (arith, decimal-8 c.args.h.nal_unit_type (search rules), decimal-8 c.args.h.nal_ref_idc (search rules))

pub extension_words_if-requires : goal.extension_words_if-requires
extension_words_if-requires c = omega (arith, decimal-8 c.args.h.nal_unit_type (search rules), decimal-8 c.args.h.nal_ref_idc (search rules))

pub returns : goal.returns
unfolding kind_text
returns c = (then (then c.field-a.ensures c.field-b.ensures) c.extension_words_if.ensures.0, c.extension_words_if.ensures.1)
