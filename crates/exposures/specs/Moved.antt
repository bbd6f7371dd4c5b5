-- The same units at other places: each place p is f p.
use Rattle.std.specs.Prelude.{ℕ}
use Rattle.exposures.specs.declared.slice.Slice.{Slice}
use Rattle.exposures.specs.declared.slice.Item.{Item}
use Rattle.exposures.specs.declared.exposure.Exposure.{Exposure}

abbrev pub move_slice : (ℕ → ℕ) → Slice → Slice
move_slice f s =
    record {
      place = f s.place;
      qp = s.qp;
      nal_ref_idc = s.nal_ref_idc;
      idr_pic_flag = s.idr_pic_flag;
      frame_num = s.frame_num;
      pic_parameter_set_id = s.pic_parameter_set_id;
      field_pic_flag = s.field_pic_flag;
      bottom_field_flag = s.bottom_field_flag;
      pic_order_cnt_type = s.pic_order_cnt_type;
      pic_order_cnt_lsb = s.pic_order_cnt_lsb;
      delta_pic_order_cnt_bottom = s.delta_pic_order_cnt_bottom;
      delta_pic_order_cnt_0 = s.delta_pic_order_cnt_0;
      delta_pic_order_cnt_1 = s.delta_pic_order_cnt_1;
      idr_pic_id = s.idr_pic_id;
      log2_max_frame_num = s.log2_max_frame_num;
    }

abbrev pub move_item : (ℕ → ℕ) → Item → Item
move_item f (Item.Slice s) = Item.Slice (move_slice f s)
move_item f (Item.Unit k) = Item.Unit k

abbrev pub move_exposure : (ℕ → ℕ) → Exposure → Exposure
move_exposure f e =
    record {
      place = f e.place;
      slices = e.slices;
      qp_least = e.qp_least;
      qp_greatest = e.qp_greatest;
      qp_sum = e.qp_sum;
      frame_num = e.frame_num;
      gap = e.gap;
      refused_before = e.refused_before;
    }
