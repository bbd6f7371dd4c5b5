-- The state in words that the caller lends. Any words hold a state: a flag is set where its word is not 0.
use Rattle.std.specs.Prelude.{ℕ, Bool, not, List, [], ◌∷◌, ◌++◌, eqb, ℤ, pos, get_or}
use Rattle.std.specs.Borrow.{MutBor}
use denote.Triple.Both.{Both}
use Rattle.bits.specs.Codes.{bit_of}
use Rattle.exposures.specs.declared.slice.Slice.{Slice}
use Rattle.exposures.specs.declared.slice.Item.{Item}
use Rattle.exposures.specs.declared.counts.Counts.{Counts}
use Rattle.exposures.specs.declared.exposure.Exposure.{Exposure}
use Rattle.exposures.specs.Take.{State, take_of, finish_of, said}

pub record Words : Type 0 where
  pub sizes : List ℕ
  pub numbers : List ℕ
  pub levels : List ℤ

abbrev pub words : List ℕ → List ℕ → List ℤ → Words
words sizes numbers levels = record { sizes = sizes; numbers = numbers; levels = levels }

-- those in the arrays that are lent, at entry and at exit
abbrev pub lent : Both (MutBor (List ℕ)) (MutBor (List ℕ)) → Both (MutBor (List ℕ)) (MutBor (List ℕ)) → Both (MutBor (List ℤ)) (MutBor (List ℤ)) → Both Words Words
lent sizes numbers levels =
    record {
      entry = words sizes.entry.now numbers.entry.now levels.entry.now;
      exit = words sizes.exit.now numbers.exit.now levels.exit.now;
    }

-- ---- the state that words hold

abbrev pub size : Words → ℕ → ℕ
size w k = get_or w.sizes k 0

abbrev pub number : Words → ℕ → ℕ
number w k = get_or w.numbers k 0

abbrev pub flag : Words → ℕ → Bool
flag w k = not (eqb (number w k) 0)

abbrev pub level : Words → ℕ → ℤ
level w k = get_or w.levels k (pos 0)

unfoldable pub exposure_in : Words → Exposure
exposure_in w =
    record {
      place = size w 0;
      slices = size w 1;
      qp_least = level w 0;
      qp_greatest = level w 1;
      qp_sum = level w 2;
      frame_num = number w 1;
      gap = flag w 2;
      refused_before = size w 2;
    }

unfoldable pub last_in : Words → Slice
last_in w =
    record {
      place = size w 3;
      qp = level w 3;
      nal_ref_idc = number w 3;
      idr_pic_flag = flag w 4;
      frame_num = number w 5;
      pic_parameter_set_id = number w 6;
      field_pic_flag = flag w 7;
      bottom_field_flag = flag w 8;
      pic_order_cnt_type = number w 9;
      pic_order_cnt_lsb = number w 10;
      delta_pic_order_cnt_bottom = level w 4;
      delta_pic_order_cnt_0 = level w 5;
      delta_pic_order_cnt_1 = level w 6;
      idr_pic_id = number w 11;
      log2_max_frame_num = number w 12;
    }

unfoldable pub counts_in : List ℕ → Counts
counts_in sizes =
    record {
      slices = get_or sizes 5 0;
      redundant = get_or sizes 6 0;
      refused = get_or sizes 7 0;
      prefixes = get_or sizes 8 0;
      views = get_or sizes 9 0;
      others = get_or sizes 10 0;
    }

unfoldable pub state_in : Words → State
state_in w = record { begun = flag w 0; exposure = exposure_in w; last = last_in w; refused_since = size w 4; counts = counts_in w.sizes }

-- ---- the words of a state: flags are 0 and 1

unfoldable pub words_of : State → Words
words_of st =
    let e : Exposure = st.exposure in
    let s : Slice = st.last in
    let c : Counts = st.counts in
    record {
      sizes =
          e.place ∷ e.slices ∷ e.refused_before ∷ s.place ∷ st.refused_since
          ∷ c.slices ∷ c.redundant ∷ c.refused ∷ c.prefixes ∷ c.views ∷ c.others ∷ [];
      numbers =
          bit_of st.begun ∷ e.frame_num ∷ bit_of e.gap
          ∷ s.nal_ref_idc ∷ bit_of s.idr_pic_flag ∷ s.frame_num ∷ s.pic_parameter_set_id ∷ bit_of s.field_pic_flag ∷ bit_of s.bottom_field_flag
          ∷ s.pic_order_cnt_type ∷ s.pic_order_cnt_lsb ∷ s.idr_pic_id ∷ s.log2_max_frame_num ∷ [];
      levels =
          e.qp_least ∷ e.qp_greatest ∷ e.qp_sum
          ∷ s.qp ∷ s.delta_pic_order_cnt_bottom ∷ s.delta_pic_order_cnt_0 ∷ s.delta_pic_order_cnt_1 ∷ [];
    }

-- ---- units one after another, each taken by the words that the one before it left

-- all exposures that are closed from these words on, with that of the end
abbrev pub run_words : Words → List Item → List Exposure
run_words w [] = said (finish_of (state_in w))
run_words w (x ∷ r) = said (take_of (state_in w) x).closed ++ run_words (words_of (take_of (state_in w) x).state) r

-- the words that a list leaves
abbrev pub words_after : Words → List Item → Words
words_after w [] = w
words_after w (x ∷ r) = words_after (words_of (take_of (state_in w) x).state) r
