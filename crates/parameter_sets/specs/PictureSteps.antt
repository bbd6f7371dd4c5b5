-- What the answers of the code that reads a picture set's slice groups say, in the definitions' words.
use Rattle.std.specs.Prelude.{ℕ}
use Rattle.bits.specs.Refusals.{Res, got, bind}
use Rattle.parameter_sets.specs.declared.groups.Groups.{Groups}
use Rattle.parameter_sets.specs.PictureParts.{no_ids}

-- no rate, where elements were passed over
abbrev pub no_rate : Res (Unit {0}) → Res ℕ
no_rate m = bind m (λ passed e. got 0 e)

-- a rate, and no ids
abbrev pub rated : Res ℕ → Res Groups
rated m = bind m (λ rate e. got (no_ids rate) e)
