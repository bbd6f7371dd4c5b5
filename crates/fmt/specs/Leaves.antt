-- The formats of single fields: a flag, u(n), ue(v) and se(v), as the crate bits reads and writes them.
use Rattle.std.specs.Prelude.{ℕ, Bool, true, ℤ}
use Rattle.bits.specs.Codes.{u_at, u_bits, u_good, flag_at, flag_bits, ue_at, ue_bits, ue_good, se_at, se_bits, se_good}
use Rattle.fmt.specs.Fmt.{Fmt}

unfoldable pub flag : Fmt Bool
flag = record { read = flag_at; bits = flag_bits; good = λ b. true }

unfoldable pub u : ℕ → Fmt ℕ
u n = record { read = u_at n; bits = u_bits n; good = u_good n }

unfoldable pub ue : Fmt ℕ
ue = record { read = ue_at; bits = ue_bits; good = ue_good }

unfoldable pub se : Fmt ℤ
se = record { read = se_at; bits = se_bits; good = se_good }
