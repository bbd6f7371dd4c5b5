-- A unit's item: what a stacker takes of it. `t` is the table in force, by which the unit was read.
use Rattle.std.specs.Prelude.{ℕ, Bool, not, ◌&&◌, List, [], eqb, ℤ}
use Rattle.bits.specs.Refusals.{pick}
use Rattle.table.specs.declared.table.Table.{Table}
use Rattle.syntax.specs.declared.record.SliceHeader.{SliceHeader}
use Rattle.syntax.specs.Context.{sequence_for}
use Rattle.record.specs.Record.{header_from}
use Rattle.unit.specs.declared.answer.UnitAnswer.{UnitAnswer}
use Rattle.unit.specs.Begin.{is_plain}
use Rattle.lines.specs.Level.{final_qp}
use Rattle.exposures.specs.declared.slice.Slice.{Slice}
use Rattle.exposures.specs.declared.slice.Kind.{Kind}
use Rattle.exposures.specs.declared.slice.Item.{Item}
use Rattle.syntax.specs.declared.marks.Marked.{Marked}

-- redundant_pic_cnt is there, and not 0
abbrev pub is_redundant : (Marked ℕ) → Bool
is_redundant m = m.there && not (eqb m.value 0)

-- a slice at a place, by its unit's nal_unit_type and nal_ref_idc; a field that is absent was read as zero. QP is by its own picture set, what stands in a sequence set by
-- the one that this names
unfoldable pub slice_of : Table → ℕ → ℕ → ℕ → SliceHeader → Slice
slice_of t place type ref h =
    record {
      place = place;
      qp = final_qp t.pictures h.pic_parameter_set_id h.quantiser.slice_qp_delta;
      nal_ref_idc = ref;
      idr_pic_flag = eqb type 5;
      frame_num = h.frame.frame_num;
      pic_parameter_set_id = h.pic_parameter_set_id;
      field_pic_flag = h.frame.field_pic_flag.value;
      bottom_field_flag = h.frame.bottom_field_flag.value;
      pic_order_cnt_type = (sequence_for t h.pic_parameter_set_id).pic_order_cnt_type;
      pic_order_cnt_lsb = h.order_count.pic_order_cnt_lsb.value;
      delta_pic_order_cnt_bottom = h.order_count.delta_pic_order_cnt_bottom.value;
      delta_pic_order_cnt_0 = h.order_count.delta_pic_order_cnt.first;
      delta_pic_order_cnt_1 = h.order_count.delta_pic_order_cnt.second;
      idr_pic_id = h.frame.idr_pic_id.value;
      log2_max_frame_num = (sequence_for t h.pic_parameter_set_id).log2_max_frame_num;
    }

-- a unit with a slice header: of types 1 and 5 a slice, unless it is redundant; else, of types 20 and 21, a view
unfoldable pub header_item : Table → ℕ → ℕ → ℕ → SliceHeader → Item
header_item t place type ref h =
    pick (is_plain type)
    (pick (is_redundant h.order_count.redundant_pic_cnt) (Item.Unit Kind.Redundant) (Item.Slice (slice_of t place type ref h)))
    (Item.Unit Kind.View)

-- a unit, by what reading it answered, and its header
abbrev pub item_of : Table → ℕ → ℕ → ℕ → UnitAnswer → SliceHeader → Item
item_of t place type ref (UnitAnswer.Slice bits) h = header_item t place type ref h
item_of t place type ref UnitAnswer.«Prefix» h = Item.Unit Kind.«Prefix»
item_of t place type ref (UnitAnswer.Sequence v) h = Item.Unit Kind.Other
item_of t place type ref (UnitAnswer.Picture v) h = Item.Unit Kind.Other
item_of t place type ref (UnitAnswer.Other id) h = Item.Unit Kind.Other
item_of t place type ref (UnitAnswer.Refused r) h = Item.Unit Kind.Refused

-- the header that lent words hold, without its lists
abbrev pub held_in : List ℕ → List ℤ → SliceHeader
held_in numbers signed = header_from (record { numbers = numbers; signed = signed; l0 = []; l1 = []; marking = []; w0 = []; w1 = [] })
