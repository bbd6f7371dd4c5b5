-- How many bits slice_group_change_cycle has (H.264, 7.4.3): Ceil(Log2(PicSizeInMapUnits ÷ SliceGroupChangeRate + 1)), which is the least b with
-- 2^b × rate ≥ size + rate.
use Rattle.std.specs.Prelude.{ℕ, zero, suc, ◌+◌, ◌*◌, ◌^◌, eqb, leb}
use Rattle.bits.specs.Refusals.{pick}

-- the first such b from b on; n is how many are tried before the last
unfoldable pub least_from : ℕ → ℕ → ℕ → ℕ → ℕ
least_from zero b size rate = b
least_from (suc n) b size rate = pick (leb (size + rate) (2 ^ b * rate)) b (least_from n (suc b) size rate)

-- for 32-bit numbers b is at most 32; with no rate there is no such field, and no bits
unfoldable pub change_cycle_width : ℕ → ℕ → ℕ
change_cycle_width size rate = pick (eqb rate 0) 0 (least_from 32 0 size rate)
