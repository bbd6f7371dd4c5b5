-- What reading a sequence set gives: a set that fits the table, or refusal 5, 6 or 28 with a bit place.
use Prim.Native.Nat.{ℕ, zero, suc, ◌+◌, ◌≤◌}
use mathlib.Core.Path.{◌≡◌, refl}
use mathlib.Core.List.{[], ◌∷◌}
use mathlib.Core.Bool.{Bool, true, false, ◌&&◌}
use native.Mathlib.Omega.{arith}
use lib.Dec.{T, eqb, leb}
use lib.IntN.{pos, negsuc}
use borrow.Author.Tests.{leb-true, le-leb}
use Rattle.bits.specs.declared.refusals.Refusal.{Refusal}
use Rattle.bits.specs.Refusals.{got, no}
use Rattle.bits.specs.Bits.{Bits}
use Rattle.fmt.specs.Leaves.{flag}
use Rattle.fmt.specs.Reads.{read_if}
use Rattle.table.specs.Sets.{between, planes_fit, sequence_fits, all}
use Rattle.parameter_sets.specs.declared.sequence.SequenceSet.{SequenceSet}
use Rattle.parameter_sets.specs.declared.sequence.SequenceLead.{SequenceLead}
use Rattle.parameter_sets.specs.declared.sequence.Chroma.{Chroma}
use Rattle.parameter_sets.specs.declared.sequence.Order.{Order}
use Rattle.parameter_sets.specs.declared.sequence.Size.{Size}
use Rattle.parameter_sets.specs.SequenceSet.{sequence_lead, high_profiles, is_one_of, scaling_list, scaling_lists, scaling_matrix, chroma, cycle, order, map_units, size, sequence_set}
use Rattle.parameter_sets.proofs.Gives.{Allows, Gives, Any, found-gives, next-gives, if-gives, pick_gives, passes-gives, with-gives, u-gives, flag-gives, ue-gives, se-gives, test-gives, up-gives, within-gives, value-has, refusal-has}

-- ---- what the table's ranges ask of the parts

abbrev LeadFits : SequenceLead → Type 0
LeadFits l = leb l.seq_parameter_set_id 31 ≡ true

abbrev ChromaFits : Chroma → Type 0
ChromaFits c = (between 0 3 c.chroma_format_idc ≡ true) × (planes_fit c.separate_colour_plane_flag c.chroma_format_idc ≡ true) × (between 0 6 c.bit_depth_luma_minus8 ≡ true)

abbrev OrderFits : Order → Type 0
OrderFits o = (between 4 16 o.log2_max_frame_num ≡ true) × (between 0 2 o.pic_order_cnt_type ≡ true) × (between 0 12 o.log2_max_pic_order_cnt_lsb_minus4 ≡ true)

abbrev SizeFits : Size → Type 0
SizeFits z = between 1 16777216 z.pic_size_in_map_units ≡ true

abbrev pub SetFits : SequenceSet → Type 0
SetFits v = leb v.seq_parameter_set_id 31 && sequence_fits v.sequence ≡ true

from-to : (low high n : ℕ) → low ≤ n → n ≤ high → between low high n ≡ true
from-to low high n h k = rw (le-leb low n h, le-leb n high k)

at_most : (high n : ℕ) → leb n high ≡ true → between 0 high n ≡ true
at_most high n h = from-to 0 high n (omega arith) (leb-true n high h)

four-more : (n : ℕ) → leb n 12 ≡ true → between 4 16 (n + 4) ≡ true
four-more n h = from-to 4 16 (n + 4) (omega arith) (omega (arith, leb-true n 12 h))

some-units : (w h : ℕ) → leb (map_units w h) 16777216 ≡ true → between 1 16777216 (map_units w h) ≡ true
some-units w h k = from-to 1 16777216 (map_units w h) (omega arith) (leb-true (map_units w h) 16777216 k)

-- the flag of separate planes is read where chroma_format_idc is 3
planes-there : (b : Bool) (n : ℕ) → eqb n 3 ≡ true → planes_fit b n ≡ true
planes-there true n h = h
planes-there false n h = refl

-- ---- the parts

module _ {R : Refusal → Type 0} (r : Allows R) where
  lead-gives : Gives R LeadFits sequence_lead
  unfolding sequence_lead
  lead-gives = next-gives _ _ (u-gives r 8) (λ profile _. next-gives _ _ (u-gives r 8) (λ flags _. next-gives _ _ (u-gives r 8) (λ level _. next-gives _ _ (up-gives r 31) (λ id h. found-gives _ h))))

  list-gives : (n l k : ℕ) → Gives R Any (scaling_list n l k)
  unfolding scaling_list
  list-gives zero l k = found-gives tt tt
  list-gives (suc n) l k = pick_gives (eqb k 0) _ _ (found-gives tt tt) (next-gives _ _ (within-gives r (negsuc 127) (pos 127)) (λ d _. list-gives n _ _))

  lists-gives : (n i : ℕ) → Gives R Any (scaling_lists n i)
  unfolding scaling_lists
  lists-gives zero i = found-gives tt tt
  lists-gives (suc n) i = next-gives _ _ (flag-gives r) (λ b _. next-gives _ _ (if-gives {P = Any} b _ _ (λ t. list-gives _ 8 8) (λ t. tt)) (λ p _. lists-gives n (suc i)))

  matrix-gives : (n : ℕ) → Gives R Any (scaling_matrix n)
  unfolding scaling_matrix
  matrix-gives n = next-gives _ _ (flag-gives r) (λ b _. if-gives b _ _ (λ t. lists-gives _ 0) (λ t. tt))

  planes-give : (n : ℕ) → Gives R (λ b. planes_fit b n ≡ true) (read_if (eqb n 3) false flag.read)
  planes-give n = if-gives (eqb n 3) _ _ (λ t. with-gives (flag-gives r) (λ b. planes-there b n t)) (λ t. refl)

  chroma-gives : Gives R ChromaFits chroma
  unfolding chroma
  chroma-gives =
      next-gives _ _ (up-gives r 3)
      (λ n h.
      next-gives _ _ (planes-give n)
      (λ b k.
      next-gives _ _ (up-gives r 6) (λ depth i. next-gives _ _ (ue-gives r) (λ d _. next-gives _ _ (flag-gives r) (λ q _. next-gives _ _ (matrix-gives n) (λ p _. found-gives _ (at_most 3 n h, k, at_most 6 depth i)))))))

  cycle-gives : Gives R Any cycle
  unfolding cycle
  cycle-gives =
      next-gives _ _ (flag-gives r)
      (λ b _. next-gives _ _ (se-gives r) (λ i _. next-gives _ _ (se-gives r) (λ j _. next-gives _ _ (up-gives r 255) (λ n _. next-gives _ _ (passes-gives _ (se-gives r) n) (λ p _. found-gives b tt)))))

  order-gives : Gives R OrderFits order
  unfolding order
  order-gives =
      next-gives _ _ (up-gives r 12)
      (λ n h.
      next-gives _ _ (up-gives r 2)
      (λ k i.
      next-gives _ _ (if-gives (eqb k 0) _ _ (λ t. up-gives r 12) (λ t. refl)) (λ l j. next-gives _ _ (if-gives {P = Any} (eqb k 1) _ _ (λ t. cycle-gives) (λ t. tt)) (λ b _. found-gives _ (four-more n h, at_most 2 k i, at_most 12 l j)))))

  size-gives : Gives R SizeFits size
  unfolding size
  size-gives =
      next-gives _ _ (ue-gives r)
      (λ m _.
      next-gives _ _ (flag-gives r)
      (λ g _. next-gives _ _ (ue-gives r) (λ w _. next-gives _ _ (test-gives r _ _ (ue-gives r)) (λ h k. next-gives _ _ (flag-gives r) (λ b _. found-gives _ (some-units w h k))))))

  -- ---- the set

  pub sequence-gives : Gives R SetFits sequence_set
  unfolding sequence_set sequence_fits all
  sequence-gives =
      next-gives _ _ lead-gives
      (λ l h.
      next-gives _ _ (if-gives {P = ChromaFits} (is_one_of high_profiles l.profile_idc) _ _ (λ t. chroma-gives) (λ t. (refl, refl, refl)))
      (λ c k. next-gives _ _ order-gives (λ o i. next-gives _ _ size-gives (λ z j. found-gives _ (rw (h, k.0, k.1, k.2, i.0, i.1, i.2, j))))))

-- ---- what callers use

-- a set that is read fits the table
pub sequence-fits : (s : Bits) (at : ℕ) {v : SequenceSet} {e : ℕ} → sequence_set s at ≡ got v e → leb v.seq_parameter_set_id 31 && sequence_fits v.sequence ≡ true
sequence-fits s at = value-has (sequence-gives {R = Any} (record { out = λ p. tt; zeros = λ p. tt; field = λ p. tt }))

-- a refusal's number, that it has a place, and that its value is 0
pub sequence-refusal : (s : Bits) (at : ℕ) {q : Refusal} → sequence_set s at ≡ no q → T (is_one_of (5 ∷ 6 ∷ 28 ∷ []) q.number) × (q.has_bit ≡ true) × (q.value ≡ pos 0)
sequence-refusal s at =
    refusal-has
    (sequence-gives {R = λ q. T (is_one_of (5 ∷ 6 ∷ 28 ∷ []) q.number) × (q.has_bit ≡ true) × (q.value ≡ pos 0)}
    (record { out = λ p. (tt, refl, refl); zeros = λ p. (tt, refl, refl); field = λ p. (tt, refl, refl) }))
