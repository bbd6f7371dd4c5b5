use Prim.Native.Nat.{◌*◌}
use native.Mathlib.Omega.{arith}
use Rattle.std.proofs.lemmas.List.{drop_all}
use Rattle.record.specs.Entries.{weight_from}
use Rattle.record.proofs.Taken.{weight-there}
use borrow.Author.Rules.{rules}
use Rattle.record.proofs.entries.weight_at.Goals as goal

pub returns-then-i-ge32 : goal.returns-then-i-ge32
unfolding weight_from
returns-then-i-ge32 c = rw (drop_all (8 * c.args.i) c.args.words.now (omega (arith, c.told-words))) c.no_entry.ensures

pub returns : goal.returns
returns c = rw (c.flag_at.ensures, c.flag_at-2.ensures, weight-there c.args.words.now c.args.i) (search rules)
