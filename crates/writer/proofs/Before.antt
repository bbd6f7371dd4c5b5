-- Where the table's widths are true, a record is written as it was before the table kept them.
use Prim.Native.Nat.{ℕ}
use mathlib.Core.Path.{◌≡◌, refl}
use mathlib.Core.Bool.{true}
use mathlib.Core.List.{List}
use Rattle.bits.specs.Put.{written}
use Rattle.table.specs.declared.table.Table.{Table}
use Rattle.table.specs.Made.{TrueWidths}
use Rattle.syntax.specs.declared.context.UnitKind.{UnitKind}
use Rattle.syntax.specs.declared.record.SliceHeader.{SliceHeader}
use Rattle.syntax.proofs.Before.{header-same}
use Rattle.writer.specs.declared.given.ExtensionGiven.{ExtensionGiven}
use Rattle.writer.specs.Given.{kind_given}
use Rattle.writer.specs.Write.{out_of, sets_for, bits_out, after_sets, after_kind, write_where, write_header}
use Rattle.writer.specs.Before.{sets_before, kind_before, write_before}
use Rattle.std.specs.Prelude.{Result, Ok, Err}
use Rattle.bits.specs.declared.refusals.Refusal.{Refusal}
use Rattle.writer.specs.declared.sets.NamedSets.{NamedSets}

module _ (t : Table) (v : TrueWidths t) where
  sets_same : (n : UnitKind) (h : SliceHeader) (out : List ℕ) (f : Result NamedSets Refusal) → after_sets true t n h out f ≡ sets_before t n h out f
  unfolding bits_out
  sets_same n h out (Ok s) = λ i. out_of (written ((header-same t v n i).good h) ((header-same t v n i).bits h) out 0)
  sets_same n h out (Err r) = refl

  kind-same : (h : SliceHeader) (out : List ℕ) (k : Result UnitKind Refusal) → after_kind true t h out k ≡ kind_before t h out k
  kind-same h out (Ok n) = sets_same n h out (sets_for t h.pic_parameter_set_id)
  kind-same h out (Err r) = refl

  pub written_same : (first : ℕ) (x : ExtensionGiven) (h : SliceHeader) (out : List ℕ) → write_header t first x h out ≡ write_before t first x h out
  unfolding write_where write_before
  written_same first x h out = kind-same h out (kind_given first x)
