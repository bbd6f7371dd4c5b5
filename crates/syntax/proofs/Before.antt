-- Where the table's widths are true, the header's format is what it was before the table kept them: how it reads, its bits and its test.
use Prim.Native.Nat.{ℕ, zero, suc}
use mathlib.Core.Path.{◌≡◌, refl, ◌∙◌}
use native.Mathlib.Omega.{arith}
use lib.Dec.{eqb}
use Rattle.bits.specs.Width.{change_cycle_width}
use Rattle.bits.proofs.Widths.{width-least}
use Rattle.fmt.specs.Fmt.{seq, shaped}
use Rattle.table.specs.declared.table.Table.{Table}
use Rattle.table.specs.Tables.{found_picture, cycle_width, picture_at, sequence_at}
use Rattle.table.specs.Made.{TrueWidths}
use Rattle.syntax.specs.Context.{picture_in, width_in, sequence_in, picture_for, width_for, sequence_id_for, sequence_for, context_for}
use Rattle.syntax.specs.SliceHeader.{lead, parts, to_header, of_header, header}
use Rattle.syntax.specs.Before.{worked_out, header_before}
use Rattle.syntax.specs.declared.context.UnitKind.{UnitKind}
use Rattle.std.specs.Prelude.{Option, Some, None}
use Rattle.table.specs.declared.sets.Picture.{Picture}
use Rattle.table.specs.declared.sets.Sequence.{Sequence}

-- without a rate there is no width, and without a sequence set there is none to work out either
unrated : (size : ℕ) → change_cycle_width size 0 ≡ 0
unfolding change_cycle_width
unrated size = refl

unsized : (rate : ℕ) → change_cycle_width 0 rate ≡ 0
unsized zero = unrated 0
unsized (suc r) = omega (arith, width-least 0 (suc r) 0 (omega arith) (omega arith) (omega arith))

by-sequence : (f : Option Sequence) (rate : ℕ) → cycle_width f rate ≡ change_cycle_width (sequence_in f).pic_size_in_map_units rate
by-sequence (Some s) rate = refl
by-sequence None rate = let e = unsized rate in omega arith

module _ (t : Table) (v : TrueWidths t) where
  by-picture : (id : ℕ) (f : Option (Picture × ℕ)) → picture_at t id ≡ f
      → width_in f ≡ change_cycle_width (sequence_in (sequence_at t (picture_in f).seq_parameter_set_id)).pic_size_in_map_units (picture_in f).slice_group_change_rate
  by-picture id (found_picture p w) e = v id p w e ∙ by-sequence (sequence_at t p.seq_parameter_set_id) _
  by-picture id None e = let z = unrated (sequence_in (sequence_at t 0)).pic_size_in_map_units in omega arith

  width_is : (id : ℕ) → width_for t id ≡ change_cycle_width (sequence_for t id).pic_size_in_map_units (picture_for t id).slice_group_change_rate
  unfolding width_for sequence_for sequence_id_for picture_for
  width_is id = by-picture id (picture_at t id) refl

  pub context-same : (n : UnitKind) (id : ℕ) → context_for t n id ≡ worked_out (context_for t n id)
  unfolding context_for
  context-same n id = λ i. record { kind = n; picture = picture_for t id; sequence = sequence_for t id; cycle_width = width_is id i }

  pub header-same : (n : UnitKind) → header t n ≡ header_before t n
  unfolding header header_before
  header-same n = λ i. shaped (to_header t) of_header (λ h. eqb h.seq_parameter_set_id (sequence_id_for t h.pic_parameter_set_id)) (seq (lead t) (λ l. parts (context-same n l.1.1 i) l.1.0))
