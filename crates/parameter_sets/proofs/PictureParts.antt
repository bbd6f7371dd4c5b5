-- A picture set in parts: what stands before the ids, the ids, and what stands behind them are the set.
use Prim.Native.Nat.{ℕ, ◌+◌, ◌-◌, ◌*◌, ◌/◌, ◌≤◌, ◌<◌}
use mathlib.Core.Path.{◌≡◌, refl, sym}
use mathlib.Core.Bool.{Bool, true, false}
use native.Mathlib.Omega.{arith}
use borrow.Author.Tests.{eqb-true, le-leb, lt-leb, leb-true, leb-false}
use lib.Dec.{eqb, leb, ltb}
use lib.IntN.{pos}
use lib.ListN.{length}
use Rattle.bits.specs.declared.refusals.Refusal.{Refusal}
use Rattle.bits.specs.Refusals.{Res, got, no, bind, pick, refusal_at, ran_out}
use Rattle.bits.specs.Bits.{Bits}
use Rattle.fmt.specs.Leaves.{u, ue}
use Rattle.fmt.specs.Reads.{found, next, read_if, passes}
use Rattle.fields.specs.Steps.{as_end}
use Rattle.parameter_sets.specs.declared.groups.Groups.{Groups}
use Rattle.parameter_sets.specs.declared.picture.PictureLead.{PictureLead}
use Rattle.parameter_sets.specs.SequenceSet.{up_to}
use Rattle.parameter_sets.specs.PictureSet.{group_id_bits, group_ids, group_map, slice_groups, picture_lead, picture_set}
use Rattle.parameter_sets.specs.PictureParts.{no_ids, ids_start, groups_start, picture_start, id_count, id_bits, ids_end, picture_rest}
use Rattle.parameter_sets.proofs.Ids.{ids-in, ids-out}
use Rattle.std.specs.Prelude.{Ok, Err}

-- ---- the ids

some_bits : (n : ℕ) → (0 < group_id_bits n) × (group_id_bits n ≤ 3)
some_bits n = go (leb n 1) (leb n 3)
  where
    go : (a b : Bool) → (0 < pick a 1 (pick b 2 3)) × (pick a 1 (pick b 2 3) ≤ 3)
    go true b = (omega arith, omega arith)
    go false true = (omega arith, omega arith)
    go false false = (omega arith, omega arith)

module _ (g : Groups) (at end : ℕ) {n w left : ℕ} (p : n ≡ id_count g) (q : w ≡ id_bits g) (r : left ≡ end - at) where
  pub ends-in : n * w ≤ left → Ok (record { at = at + n * w }) ≡ ids_end g at end
  unfolding ids_end
  ends-in h = let e : id_count g * id_bits g ≤ end - at = rw (p, q, r) at h in rw (p, q, le-leb (id_count g * id_bits g) (end - at) e)

  pub ends-out : left < n * w → {x : Refusal} → x ≡ refusal_at ran_out (pos 0) (at + left / w * w) → Err x ≡ ids_end g at end
  unfolding ids_end
  ends-out h k = let e : end - at < id_count g * id_bits g = rw (p, q, r) at h in rw (k, q, r, lt-leb (id_count g * id_bits g) (end - at) e)

-- they end where passing over them does
pub ends-passed : (g : Groups) (s : Bits) (at : ℕ) → as_end (ids_end g at (length s)) tt ≡ passes (id_count g) (u (id_bits g)).read s at
unfolding ids_end
ends-passed g s at = go (leb (id_count g * id_bits g) (length s - at)) refl
  where
    b : (0 < id_bits g) × (id_bits g ≤ 3)
    b = some_bits g.num_slice_groups_minus1

    go : (t : Bool) → leb (id_count g * id_bits g) (length s - at) ≡ t → as_end (ids_end g at (length s)) tt ≡ passes (id_count g) (u (id_bits g)).read s at
    go true e = rw e (sym (ids-in (id_bits g) (omega (arith, b)) s b.0 (id_count g) at (leb-true (id_count g * id_bits g) (length s - at) e)))
    go false e = rw e (sym (ids-out (id_bits g) (omega (arith, b)) s b.0 (id_count g) at (leb-false (id_count g * id_bits g) (length s - at) e)))

-- ---- the groups

module _ (s : Bits) where
  -- the ids, and the rate
  after : Groups → ℕ → Res ℕ
  after g e = bind (passes (id_count g) (u (id_bits g)).read s e) (λ passed d. got g.slice_group_change_rate d)

  without : (m : Res ℕ) → m ≡ bind (bind m (λ rate e. got (no_ids rate) e)) after
  unfolding passes found after
  without (got rate e) = refl
  without (no r) = refl

  with-ids : (n e : ℕ) → group_map n 6 s e ≡ bind (ids_start n s e) after
  unfolding group_map group_ids ids_start next found after
  with-ids n e = go (ue.read s e)
    where
      go : (m : Res ℕ)
          → bind (bind m (λ v d. passes (v + 1) (u (group_id_bits n)).read s d)) (λ passed d. got 0 d)
          ≡ bind (bind m (λ v d. got (record { slice_group_change_rate = 0; ids = true; pic_size_in_map_units_minus1 = v; num_slice_groups_minus1 = n }) d)) after
      go (got v d) = refl
      go (no r) = refl

  by-type : (n ty e : ℕ) → group_map n ty s e ≡ bind (pick (eqb ty 6) (ids_start n) (next (group_map n ty) (λ rate. found (no_ids rate))) s e) after
  unfolding next found
  by-type n ty e = go (eqb ty 6) refl
    where
      go : (b : Bool) → eqb ty 6 ≡ b → group_map n ty s e ≡ bind (pick b (ids_start n) (next (group_map n ty) (λ rate. found (no_ids rate))) s e) after
      go true h = let q : ty ≡ 6 = eqb-true ty 6 h in rw q (with-ids n e)
      go false h = without (group_map n ty s e)

  groups-parts : (at : ℕ) → slice_groups s at ≡ bind (groups_start s at) after
  unfolding slice_groups groups_start next read_if found
  groups-parts at = go (up_to 7 s at)
    where
      typed : (n : ℕ) (m : Res ℕ)
          → bind m (λ ty e. group_map n ty s e) ≡ bind (bind m (λ ty e. pick (eqb ty 6) (ids_start n) (next (group_map n ty) (λ rate. found (no_ids rate))) s e)) after
      typed n (got ty e) = by-type n ty e
      typed n (no r) = refl

      some : (b : Bool) (n e : ℕ)
          → read_if b 0 (next (up_to 6) (λ ty. group_map n ty)) s e
          ≡ bind (read_if b (no_ids 0) (next (up_to 6) (λ ty. pick (eqb ty 6) (ids_start n) (next (group_map n ty) (λ rate. found (no_ids rate))))) s e) after
      some true n e = typed n (up_to 6 s e)
      some false n e = without (got 0 e)

      go : (m : Res ℕ)
          → bind m (λ n e. read_if (ltb 0 n) 0 (next (up_to 6) (λ ty. group_map n ty)) s e)
          ≡ bind (bind m (λ n e. read_if (ltb 0 n) (no_ids 0) (next (up_to 6) (λ ty. pick (eqb ty 6) (ids_start n) (next (group_map n ty) (λ rate. found (no_ids rate))))) s e)) after
      go (got n e) = some (ltb 0 n) n e
      go (no r) = refl

  -- ---- the set

  -- where the ids have been passed
  passed-rest : (l : PictureLead) (g : Groups) (m : Res (Unit {0}))
      → bind (bind m (λ p d. got g.slice_group_change_rate d)) (λ rate d. picture_rest (record { lead = l; groups = no_ids rate }) s d)
      ≡ bind m (λ p d. picture_rest (record { lead = l; groups = g }) s d)
  unfolding picture_rest next found
  passed-rest l g (got p d) = refl
  passed-rest l g (no r) = refl

  grouped-rest : (l : PictureLead) (m : Res Groups)
      → bind (bind m after) (λ rate d. picture_rest (record { lead = l; groups = no_ids rate }) s d)
      ≡ bind (bind m (λ g d. got (record { lead = l; groups = g }) d)) (λ a d. bind (passes (id_count a.groups) (u (id_bits a.groups)).read s d) (λ p f. picture_rest a s f))
  unfolding after
  grouped-rest l (got g d) = passed-rest l g (passes (id_count g) (u (id_bits g)).read s d)
  grouped-rest l (no r) = refl

  pub picture-parts : (at : ℕ) → picture_set s at ≡ next picture_start (λ a. next (passes (id_count a.groups) (u (id_bits a.groups)).read) (λ p. picture_rest a)) s at
  unfolding picture_set picture_start picture_rest next found
  picture-parts at = go (picture_lead s at)
    where
      go : (m : Res PictureLead)
          → bind m (λ l e. bind (slice_groups s e) (λ rate d. picture_rest (record { lead = l; groups = no_ids rate }) s d))
          ≡ bind (bind m (λ l e. bind (groups_start s e) (λ g d. got (record { lead = l; groups = g }) d))) (λ a d. bind (passes (id_count a.groups) (u (id_bits a.groups)).read s d) (λ p f. picture_rest a s f))
      go (got l e) = rw (groups-parts e) (grouped-rest l (groups_start s e))
      go (no r) = refl
