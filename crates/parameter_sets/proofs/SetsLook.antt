-- How far reading a set looks: a sequence set, and a picture set before its ids and behind them.
use Prim.Native.Nat.{ℕ, zero, suc, ◌+◌, ◌*◌, ◌≤◌}
use mathlib.Core.Path.{◌≡◌, sym, ◌∙◌}
use mathlib.Core.Bool.{Bool, true, false, ◌&&◌, true≢false}
use native.Mathlib.Omega.{arith}
use native.Mathlib.Nat.{suc-mul}
use lib.Dec.{eqb, leb, ltb}
use Rattle.bits.specs.Refusals.{pick}
use Rattle.fmt.specs.Leaves.{ue}
use Rattle.fmt.proofs.Ahead.{u-ahead, ue-ahead, seq-ahead, test-ahead}
use Rattle.parameter_sets.specs.declared.picture.PictureStart.{PictureStart}
use Rattle.parameter_sets.specs.SequenceSet.{sequence_lead, scaling_list, scaling_lists, scaling_matrix, chroma, cycle, order, size, sequence_set}
use Rattle.parameter_sets.specs.PictureSet.{picture_lead, change_rate, group_map, references, levels}
use Rattle.parameter_sets.specs.PictureParts.{ids_start, groups_start, picture_start, picture_rest}
use Rattle.parameter_sets.proofs.Passing.{up-passed}
use Rattle.parameter_sets.proofs.Looks.{Looks, fmt-looks, looks-more, found-looks, if-looks, pick-looks, then-with, then, passes-looks, flag-looks, ue-looks, se-looks, up-looks, within-looks}

-- ---- a sequence set

lead-looks : Looks sequence_lead 87
unfolding sequence_lead
lead-looks =
    then (fmt-looks (u-ahead 8)) (λ profile-idc.
    then (fmt-looks (u-ahead 8)) (λ constraint-set-flags.
    then (fmt-looks (u-ahead 8)) (λ level-idc.
    then (up-looks _) (λ seq-parameter-set-id. (found-looks _)))))

list-looks : (n last scale : ℕ) → Looks (scaling_list n last scale) (n * 63)
unfolding scaling_list
list-looks zero last scale = found-looks tt
list-looks (suc n) last scale =
    pick-looks (eqb scale 0) (λ e. looks-more (suc n * 63) (found-looks _) (omega arith))
    (λ e. looks-more (suc n * 63) (then (within-looks _ _) (λ delta-scale. list-looks n _ _)) (omega (arith, suc-mul n 63)))

-- one of 16 or 64 entries
some-list : (b : Bool) → Looks (scaling_list (pick b 16 64) 8 8) 4032
some-list true = looks-more 4032 (list-looks 16 8 8) (omega arith)
some-list false = list-looks 64 8 8

lists-look : (n i : ℕ) → Looks (scaling_lists n i) (n * 4033)
unfolding scaling_lists
lists-look zero i = found-looks tt
lists-look (suc n) i =
    looks-more (suc n * 4033) (then flag-looks (λ there. then (if-looks _ _ (some-list (ltb i 6))) (λ passed. lists-look n (suc i)))) (omega (arith, suc-mul n 4033))

all-lists : (b : Bool) → Looks (scaling_lists (pick b 12 8) 0) 48396
all-lists true = lists-look 12 0
all-lists false = looks-more 48396 (lists-look 8 0) (omega arith)

matrix-looks : (c : ℕ) → Looks (scaling_matrix c) 48397
unfolding scaling_matrix
matrix-looks c = then flag-looks (λ there. if-looks _ _ (all-lists (eqb c 3)))

chroma-looks : Looks chroma 48588
unfolding chroma
chroma-looks =
    then (up-looks _) (λ chroma-format-idc.
    then (if-looks _ _ flag-looks) (λ separate-colour-plane-flag.
    then (up-looks _) (λ bit-depth-luma-minus8.
    then ue-looks (λ bit-depth-chroma-minus8.
    then flag-looks (λ qpprime-y-zero-transform-bypass-flag.
    then (matrix-looks chroma-format-idc) (λ passed. (found-looks _)))))))

cycle-looks : Looks cycle 16255
unfolding cycle
cycle-looks =
    then flag-looks (λ delta-pic-order-always-zero-flag.
    then se-looks (λ offset-for-non-ref-pic.
    then se-looks (λ offset-for-top-to-bottom-field.
    then-with (up-looks _) (λ n s at e p.
    then (looks-more 16065 (passes-looks se-looks n) (omega (arith, up-passed 255 s at p))) (λ offset-for-ref-frame. (found-looks _))))))

order-looks : Looks order 16444
unfolding order
order-looks =
    then (up-looks _) (λ log2-max-frame-num-minus4.
    then (up-looks _) (λ pic-order-cnt-type.
    then (if-looks _ _ (up-looks _)) (λ log2-max-pic-order-cnt-lsb-minus4.
    then (if-looks _ _ cycle-looks) (λ delta-pic-order-always-zero-flag. (found-looks _)))))

size-looks : Looks size 191
unfolding size
size-looks =
    then ue-looks (λ max-num-ref-frames.
    then flag-looks (λ gaps-in-frame-num-value-allowed-flag.
    then ue-looks (λ pic-width-in-mbs-minus1.
    then (fmt-looks (test-ahead _ _ _ _ _ ue-ahead)) (λ pic-height-in-map-units-minus1.
    then flag-looks (λ frame-mbs-only-flag. (found-looks _))))))

pub sequence-looks : Looks sequence_set 65310
unfolding sequence_set
sequence-looks = then lead-looks (λ l. then (if-looks _ _ chroma-looks) (λ c. then order-looks (λ o. then size-looks (λ z. (found-looks _)))))

-- ---- a picture set, before its ids

picture-lead-looks : Looks picture_lead 128
unfolding picture_lead
picture-lead-looks = then (up-looks _) (λ id. then (up-looks _) (λ sequence. then flag-looks (λ entropy. then flag-looks (λ bottom. (found-looks _)))))

rate-looks : Looks change_rate 64
unfolding change_rate
rate-looks = then flag-looks (λ direction. then (up-looks _) (λ rate. (found-looks _)))

map-looks : (n type : ℕ) → n ≤ 7 → eqb type 6 ≡ false → Looks (group_map n type) 882
unfolding group_map
map-looks n type few not6 =
    pick-looks (eqb type 0) (λ e. looks-more 882 (then (passes-looks ue-looks (n + 1)) (λ passed. found-looks _)) (omega arith))
    (λ e.
    pick-looks (eqb type 2)
    (λ e. looks-more 882 (then (passes-looks (fmt-looks (seq-ahead ue (λ a. ue) 63 63 ue-ahead (λ a. ue-ahead))) n) (λ passed. found-looks _)) (omega arith))
    (λ e.
    pick-looks (leb 3 type && leb type 5) (λ e. looks-more 882 rate-looks (omega arith))
    (λ e. pick-looks (eqb type 6) (λ q. absurd (true≢false (sym q ∙ not6))) (λ q. looks-more 882 (found-looks _) (omega arith)))))

ids-look : (n : ℕ) → Looks (ids_start n) 63
unfolding ids_start
ids-look n = then ue-looks (λ last. (found-looks _))

groups-look : Looks groups_start 1008
unfolding groups_start
groups-look =
    then-with (up-looks _) (λ n s at e p.
    if-looks _ _
    (then (up-looks _) (λ type.
    pick-looks (eqb type 6) (λ q. looks-more 882 (ids-look n) (omega arith)) (λ q. then (map-looks n type (up-passed 7 s at p) q) (λ rate. (found-looks _))))))

pub start-looks : Looks picture_start 1136
unfolding picture_start
start-looks = then picture-lead-looks (λ l. then groups-look (λ g. (found-looks _)))

-- ---- and behind them

references-look : Looks references 129
unfolding references
references-look = then (up-looks _) (λ l0. then (up-looks _) (λ l1. then flag-looks (λ weighted. then (fmt-looks (test-ahead _ _ _ _ _ (u-ahead 2))) (λ bipred. (found-looks _)))))

levels-look : Looks levels 192
unfolding levels
levels-look =
    then (within-looks _ _) (λ qp. then (within-looks _ _) (λ qs. then se-looks (λ chroma. then flag-looks (λ deblocking. then flag-looks (λ intra. then flag-looks (λ redundant. (found-looks _)))))))

pub rest-looks : (start : PictureStart) → Looks (picture_rest start) 321
unfolding picture_rest
rest-looks start = then references-look (λ r. then levels-look (λ v. (found-looks _)))
