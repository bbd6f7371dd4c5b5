-- An entry's format in two halves, for private contracts: proofs/Joined says that the entry is the one and then the other.
use Rattle.std.specs.Prelude.{Bool, false, not, ℤ, pos}
use Rattle.fmt.specs.Fmt.{Fmt, seq}
use Rattle.fmt.specs.Leaves.{flag, se}
use Rattle.syntax.specs.Marks.{is_zero_z, given}

unfoldable pub luma_half : Fmt (Bool × (ℤ × ℤ))
luma_half = seq flag (λ f. seq (given f (pos 0) is_zero_z se) (λ w. given f (pos 0) is_zero_z se))

unfoldable pub chroma_half : Bool → Fmt (Bool × (ℤ × (ℤ × (ℤ × ℤ))))
chroma_half chroma =
    seq (given chroma false not flag) (λ f.
    seq (given f (pos 0) is_zero_z se) (λ cb-weight.
    seq (given f (pos 0) is_zero_z se) (λ cb-offset.
    seq (given f (pos 0) is_zero_z se) (λ cr-weight.
    given f (pos 0) is_zero_z se))))
