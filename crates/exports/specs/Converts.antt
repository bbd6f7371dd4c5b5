-- What converting answers, as a plain struct.
use Rattle.std.specs.Prelude.{pos}
use Rattle.exports.specs.declared.converts.ConvertedOut.{ConvertedOut}
use Rattle.std.specs.Prelude.{Result, Ok, Err}
use Rattle.bits.specs.declared.refusals.Refusal.{Refusal}
use Rattle.std.specs.Prelude.{ℕ}

-- how many bytes the result has, or number and value of the refusal
unfoldable pub converted_out : Result ℕ Refusal → ConvertedOut
converted_out (Ok n) = record { number = 0; value = pos 0; bytes = n }
converted_out (Err r) = record { number = r.number; value = r.value; bytes = 0 }
