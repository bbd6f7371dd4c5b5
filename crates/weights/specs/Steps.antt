-- What each answer of a half says: its fields as the nested pairs of its format. Private contracts alone cite these.
use Rattle.std.specs.Prelude.{Bool, ℤ, Ok, Err}
use Rattle.bits.specs.Refusals.{Res, got, no}
use Rattle.bits.specs.Answers.{Read}
use Rattle.weights.specs.declared.weight.Luma.{Luma}
use Rattle.weights.specs.declared.weight.Chroma.{Chroma}

abbrev pub as_luma : Read Luma → Res (Bool × (ℤ × ℤ))
as_luma (Ok a) = got (a.0.flag, (a.0.weight, a.0.offset)) a.1.at
as_luma (Err r) = no r

abbrev pub as_chroma : Read Chroma → Res (Bool × (ℤ × (ℤ × (ℤ × ℤ))))
as_chroma (Ok a) = got (a.0.flag, (a.0.cb_weight, (a.0.cb_offset, (a.0.cr_weight, a.0.cr_offset)))) a.1.at
as_chroma (Err r) = no r
