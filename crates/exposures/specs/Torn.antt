-- Lists that end alike, and which of their exposures are the same.
use Rattle.std.specs.Prelude.{Bool, false, not, List, [], ◌∷◌, ◌++◌, length, drop}
use Rattle.exposures.specs.declared.slice.Slice.{Slice}
use Rattle.exposures.specs.declared.slice.Item.{Item}
use Rattle.exposures.specs.declared.exposure.Exposure.{Exposure}
use Rattle.exposures.specs.Compare.{differ}
use Rattle.exposures.specs.Pictures.{slices_of, last_of, exposures}

-- slices that go on with the picture of those before them
abbrev pub joins : List Slice → List Slice → Bool
joins [] m = false
joins (a ∷ l) [] = false
joins (a ∷ l) (b ∷ m) = not (differ (last_of a l) b)

-- the first picture of S goes on with the last of X
abbrev pub goes_on : List Item → List Item → Bool
goes_on X S = joins (slices_of X) (slices_of S)

-- the exposures of X and S that begin in S: as many begin in X as X alone has
abbrev pub begun_in : List Item → List Item → List Exposure
begun_in X S = drop (length (exposures X)) (exposures (X ++ S))

-- an exposure without what looks back: refused units before it, and missing frames

abbrev pub no_refused : Exposure → Exposure
no_refused e =
    record {
      place = e.place;
      slices = e.slices;
      qp_least = e.qp_least;
      qp_greatest = e.qp_greatest;
      qp_sum = e.qp_sum;
      frame_num = e.frame_num;
      gap = e.gap;
      refused_before = 0;
    }

abbrev pub no_gap : Exposure → Exposure
no_gap e =
    record {
      place = e.place;
      slices = e.slices;
      qp_least = e.qp_least;
      qp_greatest = e.qp_greatest;
      qp_sum = e.qp_sum;
      frame_num = e.frame_num;
      gap = false;
      refused_before = e.refused_before;
    }

abbrev pub own : Exposure → Exposure
own e = no_gap (no_refused e)
