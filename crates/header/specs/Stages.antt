-- The parts after pic_parameter_set_id in stages, and what the code's answers say of them. They are the code's own: the contract of reading the header
-- does not name them.
use Rattle.std.specs.Prelude.{ℕ, not, ◌&&◌}
use Rattle.bits.specs.Refusals.{Res, got, bind}
use Rattle.bits.specs.Bits.{Bits}
use Rattle.syntax.specs.declared.context.UnitKind.{UnitKind}
use Rattle.syntax.specs.declared.context.Context.{Context}
use Rattle.syntax.specs.declared.record.Frame.{Frame}
use Rattle.syntax.specs.declared.record.OrderCount.{OrderCount}
use Rattle.syntax.specs.declared.record.ActiveCounts.{ActiveCounts}
use Rattle.syntax.specs.declared.record.Quantiser.{Quantiser}
use Rattle.syntax.specs.declared.record.Filter.{Filter}
use Rattle.syntax.specs.declared.record.Modifications.{Modifications}
use Rattle.syntax.specs.declared.record.PredWeightTable.{PredWeightTable}
use Rattle.syntax.specs.declared.record.DecRefPicMarking.{DecRefPicMarking}
use Rattle.syntax.specs.declared.record.SliceHeader.{SliceHeader}
use Rattle.syntax.specs.Marks.{flag_if}
use Rattle.syntax.specs.Context.{has_l0}
use Rattle.syntax.specs.SliceHeader.{frame, order_count, active_counts, not_scalable, quantiser, filter}
use Rattle.header.specs.declared.lead.Led.{Led}
use Rattle.header.specs.declared.stages.MarkingFlags.{MarkingFlags}
use Rattle.syntax.specs.declared.marks.Marked.{Marked}
use Rattle.std.specs.Prelude.{Bool}

-- colour_plane_id to num_ref_idx_l1_active_minus1
pub record FrontParts : Type 0 where
  pub frame : Frame
  pub order_count : OrderCount
  pub active_counts : ActiveCounts

-- cabac_init_idc to slice_group_change_cycle
pub record BackParts : Type 0 where
  pub quantiser : Quantiser
  pub filter : Filter

module _ (x : Context) (k : ℕ) where
  unfoldable pub front_at : Bits → ℕ → Res FrontParts
  front_at s at =
      bind ((frame x).read s at) (λ f c.
      bind ((order_count x f.field_pic_flag.value).read s c) (λ o d.
      bind ((active_counts k).read s d) (λ a e.
      got (record { frame = f; order_count = o; active_counts = a }) e)))

  -- the test of a scalable slice, and ref_pic_list_modification_flag_l0
  unfoldable pub first_flag_at : Bits → ℕ → Res (Marked Bool)
  first_flag_at s at = bind ((not_scalable x).read s at) (λ v c. (flag_if (has_l0 k)).read s c)

  unfoldable pub back_at : Bits → ℕ → Res BackParts
  back_at s at =
      bind ((quantiser x k).read s at) (λ q c.
      bind ((filter x).read s c) (λ f d.
      got (record { quantiser = q; filter = f }) d))

-- the flags of dec_ref_pic_marking( )
unfoldable pub marking_flags_at : Context → Bits → ℕ → Res MarkingFlags
marking_flags_at x s at =
    bind ((flag_if (x.kind.reference && x.kind.idr)).read s at) (λ n c.
    bind ((flag_if (x.kind.reference && x.kind.idr)).read s c) (λ l d.
    bind ((flag_if (x.kind.reference && not x.kind.idr)).read s d) (λ a e.
    got (record { no_output_of_prior_pics_flag = n; long_term_reference_flag = l; adaptive_ref_pic_marking_mode_flag = a }) e)))

-- the header's context, and its record of its parts
abbrev pub context_of : UnitKind → Led → Context
context_of n l = record { kind = n; picture = l.picture; sequence = l.sequence; cycle_width = l.cycle_width }

abbrev pub header_of : Led → FrontParts → Modifications → PredWeightTable → DecRefPicMarking → BackParts → SliceHeader
header_of l f m w d b =
    record {
      first_mb_in_slice = l.first_mb_in_slice;
      slice_type = l.slice_type;
      pic_parameter_set_id = l.pic_parameter_set_id;
      seq_parameter_set_id = l.picture.seq_parameter_set_id;
      frame = f.frame;
      order_count = f.order_count;
      active_counts = f.active_counts;
      modifications = m;
      pred_weight_table = w;
      dec_ref_pic_marking = d;
      quantiser = b.quantiser;
      filter = b.filter;
    }
