-- What the sets of any context are within: a set that was found is within the rules' ranges, and what stands for one that was not is zeros.
use Prim.Native.Nat.{ℕ, ◌≤◌}
use mathlib.Core.Path.{◌≡◌, refl}
use mathlib.Core.Bool.{true}
use native.Mathlib.Omega.{arith}
use lib.IntN.{pos, negsuc}
use lib.Signed.{mag, le_z}
use Rattle.table.specs.declared.sets.Picture.{Picture}
use Rattle.table.specs.declared.sets.Sequence.{Sequence}
use Rattle.table.specs.declared.table.Table.{Table}
use Rattle.table.specs.Sets.{between_z}
use Rattle.table.specs.Tables.{found_picture, picture_at, sequence_at}
use Rattle.table.proofs.Entries.{found-picture, found-picture-ranges, found-sequence-ranges}
use Rattle.syntax.specs.declared.context.UnitKind.{UnitKind}
use Rattle.syntax.specs.declared.context.Context.{Context}
use Rattle.syntax.specs.Context.{picture_in, width_in, sequence_in, picture_for, width_for, sequence_id_for, sequence_for, context_for}
use Rattle.std.specs.Prelude.{Option, Some, None}

pub record SizedPicture (p : Picture) : Type 0 where
  pub qp-mag : mag p.pic_init_qp_minus26 ≤ 61
  pub qp-most : le_z p.pic_init_qp_minus26 (pos 25) ≡ true
  pub qs : between_z (negsuc 25) (pos 25) p.pic_init_qs_minus26 ≡ true

pub record SizedSequence (s : Sequence) : Type 0 where
  pub depth : s.bit_depth_luma_minus8 ≤ 6
  pub frame-num : s.log2_max_frame_num ≤ 16
  pub units : s.pic_size_in_map_units ≤ 16777216

pub record Sized (x : Context) : Type 0 where
  pub picture : SizedPicture x.picture
  pub sequence : SizedSequence x.sequence
  pub width : x.cycle_width ≤ 25

by-picture : (f : Option (Picture × ℕ)) → ((p : Picture) (w : ℕ) → f ≡ found_picture p w → SizedPicture p) → SizedPicture (picture_in f)
by-picture (found_picture p w) h = h p w refl
by-picture None h = record { qp-mag = omega arith; qp-most = refl; qs = refl }

by_width : (f : Option (Picture × ℕ)) → ((p : Picture) (w : ℕ) → f ≡ found_picture p w → w ≤ 25) → width_in f ≤ 25
by_width (found_picture p w) h = h p w refl
by_width None h = omega arith

by-sequence : (f : Option Sequence) → ((s : Sequence) → f ≡ Some s → SizedSequence s) → SizedSequence (sequence_in f)
by-sequence (Some s) h = h s refl
by-sequence None h = record { depth = omega arith; frame-num = omega arith; units = omega arith }

pub sized : (t : Table) (n : UnitKind) (id : ℕ) → Sized (context_for t n id)
unfolding context_for picture_for sequence_for width_for
sized t n id =
    record {
      picture = by-picture (picture_at t id)
          (λ p w e. let r = found-picture-ranges t.pictures id p w e in record { qp-mag = r.qp-mag; qp-most = r.qp-most; qs = r.qs });
      sequence = by-sequence (sequence_at t (sequence_id_for t id))
          (λ s e.
          let r = found-sequence-ranges t.sequences (sequence_id_for t id) s e in
          record { depth = r.depth-most; frame-num = r.frame-num-most; units = r.units-most });
      width = by_width (picture_at t id) (λ p w e. (found-picture t.pictures id p w e).1.1);
    }
