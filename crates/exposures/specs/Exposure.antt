-- A picture's exposure: what a stacker weighs it by.
use Rattle.std.specs.Prelude.{ℕ, suc, min, Bool, List, [], ◌∷◌, ℤ, pos, negsuc, ◌+ℤ◌, length}
use Rattle.std.specs.Int.Signed.{le_z}
use Rattle.bits.specs.Refusals.{pick}
use Rattle.exposures.specs.declared.slice.Slice.{Slice}
use Rattle.exposures.specs.declared.exposure.Exposure.{Exposure}

-- a count, in a word: it stays at the greatest
unfoldable pub held : ℕ → ℕ
held n = min n 18446744073709551615

abbrev pub lesser : ℤ → ℤ → ℤ
lesser x y = pick (le_z x y) x y

abbrev pub greater : ℤ → ℤ → ℤ
greater x y = pick (le_z x y) y x

-- at most 2^61 from zero
unfoldable pub near : ℤ → ℤ
near z = pick (le_z z (negsuc 2305843009213693951)) (negsuc 2305843009213693951) (pick (le_z (pos 2305843009213693952) z) (pos 2305843009213693952) z)

-- a sum, in a word: where both are at most 2^61 from zero it is theirs (proofs/Sums.antt)
unfoldable pub plus : ℤ → ℤ → ℤ
plus x y = near x +ℤ near y

-- the QPs of slices, put to x one by one
abbrev pub over : (ℤ → ℤ → ℤ) → ℤ → List Slice → ℤ
over f x [] = x
over f x (a ∷ r) = over f (f x a.qp) r

-- of a picture with this first slice and the rest, and what stands before it: whether frames are missing, and how many units were refused
unfoldable pub exposure_of : Bool → ℕ → Slice → List Slice → Exposure
exposure_of gap before first rest =
    record {
      place = first.place;
      slices = held (length (first ∷ rest));
      qp_least = over lesser first.qp rest;
      qp_greatest = over greater first.qp rest;
      qp_sum = over plus first.qp rest;
      frame_num = first.frame_num;
      gap = gap;
      refused_before = held before;
    }

-- ---- slice by slice

-- the first slice alone; b units were refused, as a count in a word has it
unfoldable pub one_slice : Bool → ℕ → Slice → Exposure
one_slice gap b s =
    record {
      place = s.place;
      slices = 1;
      qp_least = s.qp;
      qp_greatest = s.qp;
      qp_sum = s.qp;
      frame_num = s.frame_num;
      gap = gap;
      refused_before = b;
    }

-- a slice more
unfoldable pub more : Exposure → Slice → Exposure
more e s =
    record {
      place = e.place;
      slices = held (suc e.slices);
      qp_least = lesser e.qp_least s.qp;
      qp_greatest = greater e.qp_greatest s.qp;
      qp_sum = plus e.qp_sum s.qp;
      frame_num = e.frame_num;
      gap = e.gap;
      refused_before = e.refused_before;
    }
