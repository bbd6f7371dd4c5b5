-- What reading a picture set gives: a set that fits the table, or refusal 5, 6 or 28 with a bit place.
use Prim.Native.Nat.{ℕ, ◌+◌}
use mathlib.Core.Path.{◌≡◌, refl}
use mathlib.Core.List.{[], ◌∷◌}
use mathlib.Core.Bool.{true, ◌&&◌}
use native.Mathlib.Omega.{arith}
use lib.Dec.{T, eqb, leb, ltb, leb-zero}
use lib.IntN.{pos, negsuc}
use borrow.Author.Tests.{leb-true, le-leb}
use Rattle.bits.specs.declared.refusals.Refusal.{Refusal}
use Rattle.bits.specs.Refusals.{got, no}
use Rattle.bits.specs.Bits.{Bits}
use Rattle.bits.proofs.Results.{cases}
use Rattle.fmt.specs.Fmt.{seq}
use Rattle.fmt.specs.Leaves.{u, ue}
use Rattle.fmt.specs.Reads.{Reads, found, next}
use Rattle.table.specs.Sets.{between_z, all, picture_fits}
use Rattle.parameter_sets.specs.declared.picture.PictureSet.{PictureSet}
use Rattle.parameter_sets.specs.declared.picture.PictureLead.{PictureLead}
use Rattle.parameter_sets.specs.declared.picture.References.{References}
use Rattle.parameter_sets.specs.declared.picture.Levels.{Levels}
use Rattle.parameter_sets.specs.SequenceSet.{is_one_of}
use Rattle.parameter_sets.specs.PictureSet.{picture_lead, change_rate, group_ids, group_map, slice_groups, references, levels, picture_set}
use Rattle.parameter_sets.proofs.Gives.{Allows, Gives, Any, found-gives, next-gives, if-gives, passes-gives, u-gives, flag-gives, ue-gives, se-gives, test-gives, up-gives, within-gives, value-has, refusal-has}

-- ---- what the table's ranges ask of the parts

abbrev LeadFits : PictureLead → Type 0
LeadFits l = (leb l.pic_parameter_set_id 255 ≡ true) × (leb l.seq_parameter_set_id 31 ≡ true)

abbrev RateFits : ℕ → Type 0
RateFits n = leb n 16777216 ≡ true

abbrev ReferencesFit : References → Type 0
ReferencesFit r = (leb r.num_ref_idx_l0_default_active_minus1 31 ≡ true) × (leb r.num_ref_idx_l1_default_active_minus1 31 ≡ true) × (leb r.weighted_bipred_idc 2 ≡ true)

abbrev LevelsFit : Levels → Type 0
LevelsFit v = (between_z (negsuc 61) (pos 25) v.pic_init_qp_minus26 ≡ true) × (between_z (negsuc 25) (pos 25) v.pic_init_qs_minus26 ≡ true)

abbrev pub SetFits : PictureSet → Type 0
SetFits v = leb v.pic_parameter_set_id 255 && picture_fits v.picture ≡ true

one_more : (n : ℕ) → leb n 16777215 ≡ true → RateFits (n + 1)
one_more n h = le-leb (n + 1) 16777216 (omega (arith, leb-true n 16777215 h))

-- ---- the parts

module _ {R : Refusal → Type 0} (r : Allows R) where
  lead-gives : Gives R LeadFits picture_lead
  unfolding picture_lead
  lead-gives = next-gives _ _ (up-gives r 255) (λ i h. next-gives _ _ (up-gives r 31) (λ j k. next-gives _ _ (flag-gives r) (λ a _. next-gives _ _ (flag-gives r) (λ b _. found-gives _ (h, k)))))

  rate-gives : Gives R RateFits change_rate
  unfolding change_rate
  rate-gives = next-gives _ _ (flag-gives r) (λ a _. next-gives _ _ (up-gives r 16777215) (λ n h. found-gives _ (one_more n h)))

  -- two codes
  pair-gives : Gives R Any (seq ue (λ a. ue)).read
  unfolding seq next found
  pair-gives =
      record {
        known = λ s at.
            (next-gives {B = ℕ × ℕ} {Q = Any} _ (λ a. next ue.read (λ b. found {A = ℕ × ℕ} (a, b))) (ue-gives r)
            (λ a _. next-gives {B = ℕ × ℕ} {Q = Any} _ (λ b. found {A = ℕ × ℕ} (a, b)) (ue-gives r) (λ b _. found-gives {A = ℕ × ℕ} (a, b) tt))).known s at;
      }

  ids-gives : (n : ℕ) → Gives R Any (group_ids n)
  unfolding group_ids
  ids-gives n = next-gives _ _ (ue-gives r) (λ v _. passes-gives _ (u-gives r _) _)

  -- no rate, after what is passed over
  none-gives : (F : Reads (Unit {0})) → Gives R Any F → Gives R RateFits (next F (λ a. found 0))
  none-gives F f = next-gives F _ f (λ a _. found-gives 0 refl)

  map_gives : (n t : ℕ) → Gives R RateFits (group_map n t)
  unfolding group_map
  map_gives n t =
      cases (eqb t 0) (λ a. rw a (none-gives _ (passes-gives _ (ue-gives r) _)))
      (λ a.
      cases (eqb t 2) (λ b. rw (a, b) (none-gives _ (passes-gives _ pair-gives n)))
      (λ b.
      cases (leb 3 t && leb t 5) (λ c. rw (a, b, c) rate-gives)
      (λ c. cases (eqb t 6) (λ d. rw (a, b, c, d) (none-gives _ (ids-gives n))) (λ d. rw (a, b, c, d) (found-gives 0 refl)))))

  groups-give : Gives R RateFits slice_groups
  unfolding slice_groups
  groups-give = next-gives _ _ (up-gives r 7) (λ n _. if-gives (ltb 0 n) _ _ (λ k. next-gives _ _ (up-gives r 6) (λ t _. map_gives n t)) (λ k. refl))

  references-give : Gives R ReferencesFit references
  unfolding references
  references-give =
      next-gives _ _ (up-gives r 31)
      (λ a h. next-gives _ _ (up-gives r 31) (λ b k. next-gives _ _ (flag-gives r) (λ f _. next-gives _ _ (test-gives r (λ v. leb v 2) (u 2) (u-gives r 2)) (λ c l. found-gives _ (h, k, l)))))

  levels-give : Gives R LevelsFit levels
  unfolding levels
  levels-give =
      next-gives _ _ (within-gives r (negsuc 61) (pos 25))
      (λ a h.
      next-gives _ _ (within-gives r (negsuc 25) (pos 25))
      (λ b k. next-gives _ _ (se-gives r) (λ o _. next-gives _ _ (flag-gives r) (λ d _. next-gives _ _ (flag-gives r) (λ e _. next-gives _ _ (flag-gives r) (λ f _. found-gives _ (h, k)))))))

  -- ---- the set

  pub picture-gives : Gives R SetFits picture_set
  unfolding picture_set picture_fits all
  picture-gives =
      next-gives _ _ lead-gives
      (λ l h.
      next-gives _ _ groups-give
      (λ n g.
      next-gives _ _ references-give
      (λ f k. next-gives _ _ levels-give (λ v i. found-gives _ (simp (leb-zero, h.0, h.1, k.0, k.1, k.2, i.0, i.1, g))))))

-- ---- what callers use

-- a set that is read fits the table
pub picture-fits : (s : Bits) (at : ℕ) {v : PictureSet} {e : ℕ} → picture_set s at ≡ got v e → leb v.pic_parameter_set_id 255 && picture_fits v.picture ≡ true
picture-fits s at = value-has (picture-gives {R = Any} (record { out = λ p. tt; zeros = λ p. tt; field = λ p. tt }))

-- a refusal's number, that it has a place, and that its value is 0
pub picture-refusal : (s : Bits) (at : ℕ) {q : Refusal} → picture_set s at ≡ no q → T (is_one_of (5 ∷ 6 ∷ 28 ∷ []) q.number) × (q.has_bit ≡ true) × (q.value ≡ pos 0)
picture-refusal s at =
    refusal-has
    (picture-gives {R = λ q. T (is_one_of (5 ∷ 6 ∷ 28 ∷ []) q.number) × (q.has_bit ≡ true) × (q.value ≡ pos 0)}
    (record { out = λ p. (tt, refl, refl); zeros = λ p. (tt, refl, refl); field = λ p. (tt, refl, refl) }))
