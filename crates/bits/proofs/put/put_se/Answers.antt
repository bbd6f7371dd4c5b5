use mathlib.Core.Path.{◌≡◌, ◌∙◌, ap}
use borrow.Author.Tests.{le-ltb}
use mir.Syntax.{w32}
use mir.Val.{SFits, to_z, of_z}
use Rattle.bits.proofs.SeCodes.{has_code, no_code}
use Rattle.bits.specs.Codes.{se_code}
use Rattle.bits.proofs.Writes.{ends-none, ends-se}
use borrow.Author.Rules.{rules}
use Rattle.bits.proofs.put.put_se.Goals as goal

pub returns-then-v-eqminus2147483648 : goal.returns-then-v-eqminus2147483648
returns-then-v-eqminus2147483648 c =
    let held : SFits w32 c.args.v = search rules in
    let e = ends-none _ _ _ _ _ (le-ltb _ _ (no_code _ held c.if-v-eqminus2147483648.true)) c.refuse.ensures in
    record { value = e.0; d_after = e.1 }

-- the number is read back from its bits
pub se_code-requires : goal.se_code-requires
se_code-requires c =
    let held : SFits w32 c.args.v = search rules in
    let back : to_z w32 (of_z w32 c.args.v) ≡ c.args.v = search rules in
    rw back (has_code _ held c.if-v-eqminus2147483648.false)

pub returns : goal.returns
returns c =
    let held : SFits w32 c.args.v = search rules in
    let back : to_z w32 (of_z w32 c.args.v) ≡ c.args.v = search rules in
    let p = c.put_ue.ensures in
    let e = ends-se c.args.v _ _ _ _ _ (has_code _ held c.if-v-eqminus2147483648.false) (c.se_code.ensures.0 ∙ ap se_code back) (p.value, p.d_after) in
    record { value = e.0; d_after = e.1 }
