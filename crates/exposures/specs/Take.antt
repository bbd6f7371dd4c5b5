-- Taking units one by one: what a unit makes of the state, and which exposure it closes.
use Rattle.std.specs.Prelude.{ℕ, suc, Bool, true, false, List, [], ◌∷◌, ◌++◌, pos}
use Rattle.bits.specs.Refusals.{pick}
use Rattle.exposures.specs.declared.slice.Slice.{Slice}
use Rattle.exposures.specs.declared.slice.Kind.{Kind}
use Rattle.exposures.specs.declared.slice.Item.{Item}
use Rattle.exposures.specs.declared.counts.Counts.{Counts}
use Rattle.exposures.specs.declared.exposure.Exposure.{Exposure}
use Rattle.exposures.specs.Compare.{differ, gap_after}
use Rattle.exposures.specs.Exposure.{held, one_slice, more}
use Rattle.exposures.specs.Pictures.{same}
use Rattle.std.specs.Prelude.{Option, Some, None}

pub record State : Type 0 where
  -- a picture has begun: its exposure so far, and its last slice
  pub begun : Bool
  pub exposure : Exposure
  pub last : Slice
  -- refused units behind its first slice, or from the start on
  pub refused_since : ℕ
  pub counts : Counts

-- the state after a unit, and the exposure that the unit closed
pub record Taken : Type 0 where
  pub state : State
  pub closed : Option Exposure

-- ---- at the start

unfoldable pub no_slice : Slice
no_slice =
    record {
      place = 0;
      qp = pos 0;
      nal_ref_idc = 0;
      idr_pic_flag = false;
      frame_num = 0;
      pic_parameter_set_id = 0;
      field_pic_flag = false;
      bottom_field_flag = false;
      pic_order_cnt_type = 0;
      pic_order_cnt_lsb = 0;
      delta_pic_order_cnt_bottom = pos 0;
      delta_pic_order_cnt_0 = pos 0;
      delta_pic_order_cnt_1 = pos 0;
      idr_pic_id = 0;
      log2_max_frame_num = 0;
    }

abbrev pub no_counts : Counts
no_counts = record { slices = 0; redundant = 0; refused = 0; prefixes = 0; views = 0; others = 0 }

unfoldable pub start : State
start = record { begun = false; exposure = one_slice false 0 no_slice; last = no_slice; refused_since = 0; counts = no_counts }

-- ---- a unit

-- one more of its kind
abbrev pub unit_counted : Counts → Kind → Counts
unit_counted c Kind.Redundant = record { slices = c.slices; redundant = held (suc c.redundant); refused = c.refused; prefixes = c.prefixes; views = c.views; others = c.others }
unit_counted c Kind.Refused = record { slices = c.slices; redundant = c.redundant; refused = held (suc c.refused); prefixes = c.prefixes; views = c.views; others = c.others }
unit_counted c Kind.«Prefix» = record { slices = c.slices; redundant = c.redundant; refused = c.refused; prefixes = held (suc c.prefixes); views = c.views; others = c.others }
unit_counted c Kind.View = record { slices = c.slices; redundant = c.redundant; refused = c.refused; prefixes = c.prefixes; views = held (suc c.views); others = c.others }
unit_counted c Kind.Other = record { slices = c.slices; redundant = c.redundant; refused = c.refused; prefixes = c.prefixes; views = c.views; others = held (suc c.others) }

abbrev pub counted : Counts → Item → Counts
counted c (Item.Slice s) = record { slices = held (suc c.slices); redundant = c.redundant; refused = c.refused; prefixes = c.prefixes; views = c.views; others = c.others }
counted c (Item.Unit k) = unit_counted c k

-- no exposure is closed
abbrev pub still : State → Taken
still st = record { state = st; closed = None }

-- a picture begins; b units were refused since the first slice of the one before
unfoldable pub opened : Slice → Bool → ℕ → Counts → State
opened s gap b c = record { begun = true; exposure = one_slice gap b s; last = s; refused_since = 0; counts = c }

-- a slice: the first of all; the first of a new picture, which closes the one before; or one more of its picture
unfoldable pub slice_taken : State → Slice → Counts → Taken
slice_taken st s c =
    pick st.begun
    (pick (differ st.last s)
    (record { state = opened s (gap_after st.exposure.frame_num s) st.refused_since c; closed = Some st.exposure })
    (still (record { begun = true; exposure = more st.exposure s; last = s; refused_since = st.refused_since; counts = c })))
    (still (opened s false st.refused_since c))

-- refused units since a picture's first slice, of which there were n before a unit of kind k
abbrev pub refused_with : ℕ → Kind → ℕ
refused_with n k = pick (same k Kind.Refused) (held (suc n)) n

-- a unit that is not grouped
unfoldable pub unit_taken : State → Kind → Counts → Taken
unit_taken st k c = still (record { begun = st.begun; exposure = st.exposure; last = st.last; refused_since = refused_with st.refused_since k; counts = c })

abbrev pub take_of : State → Item → Taken
take_of st (Item.Slice s) = slice_taken st s (counted st.counts (Item.Slice s))
take_of st (Item.Unit k) = unit_taken st k (counted st.counts (Item.Unit k))

-- ---- at the end

unfoldable pub finish_of : State → Option Exposure
finish_of st = pick st.begun (Some st.exposure) None

-- ---- units one after another

-- the exposure that is closed, if one is
abbrev pub said : Option Exposure → List Exposure
said None = []
said (Some e) = e ∷ []

-- all exposures that are closed from a state on, with that of the end
abbrev pub run : State → List Item → List Exposure
run st [] = said (finish_of st)
run st (x ∷ r) = said (take_of st x).closed ++ run (take_of st x).state r

-- the state that a list leaves
abbrev pub state_after : State → List Item → State
state_after st [] = st
state_after st (x ∷ r) = state_after (take_of st x).state r
