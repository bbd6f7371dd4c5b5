-- What writing a header answers, as a plain struct.
use Rattle.std.specs.Prelude.{pos}
use Rattle.exports.specs.declared.writes.WroteOut.{WroteOut}
use Rattle.std.specs.Prelude.{Result, Ok, Err}
use Rattle.bits.specs.declared.refusals.Refusal.{Refusal}
use Rattle.std.specs.Prelude.{ℕ}

unfoldable pub wrote_out : Result ℕ Refusal → WroteOut
wrote_out (Ok n) = record { number = 0; value = pos 0; bits = n }
wrote_out (Err r) = record { number = r.number; value = r.value; bits = 0 }
