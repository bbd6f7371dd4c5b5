-- The loop that writes a list of weights: what holds when the first i entries have been written, what a turn adds, and what each way out shows.
use Prim.Native.Nat.{ℕ, ◌+◌, ◌*◌, ◌≤◌, ◌<◌}
use mathlib.Core.Path.{◌≡◌, sym, ◌∙◌}
use mathlib.Core.List.{List}
use mathlib.Core.Bool.{Bool}
use native.Mathlib.Omega.{arith}
use lib.IntN.{ℤ}
use lib.ListN.{take, drop}
use Rattle.bits.specs.declared.read.Cursor.{Cursor}
use Rattle.fmt.specs.Fmt.{shaped, times}
use Rattle.fmt.specs.Arrays.{padded}
use Rattle.fmt.specs.Put.{Put, none}
use Rattle.fmt.proofs.Lawful.{both-1, T_true}
use Rattle.fmt.proofs.Lists.{times-length}
use Rattle.fmt.proofs.Puts.{shaped-put}
use Rattle.fmt.proofs.PutLoops.{CountedAhead, counted_none, counted-all, counted_stop, counted_next}
use Rattle.syntax.specs.declared.record.Weight.{Weight}
use Rattle.syntax.specs.declared.record.WeightList.{WeightList}
use Rattle.syntax.specs.SliceHeader.{weight, is_no_weight, weight_list}
use Rattle.record.specs.Entries.{weight_from, weights_from}
use Rattle.writer.specs.Places.{ended, PutTo}
use Rattle.writer.proofs.Entries.{weights-many, weights-padded, weight-at}
use Rattle.writer.proofs.Stages.{done_at, stopped-at}
use Rattle.std.specs.Prelude.{Option, Some, None}

module _ (chroma : Bool) (n : ℕ) (words : List ℤ) (d : List ℕ) (at : ℕ) where
  abbrev w : WeightList
  w = weights_from n words

  abbrev used : List Weight
  used = take w.count w.entries

  -- as many entries as there should be
  pub other-count : (m : ℕ) → n ≤ 32 → (n ≡ m → ⊥) → {d' : List ℕ} → PutTo (weight_list chroma m) w d at d' None
  unfolding weight_list shaped
  other-count m h z =
      record {
        put = none _
            (λ t.
            absurd
            (z
            (sym (weights-many n words h)
            ∙ times-length (weight chroma) m used (both-1 (padded is_no_weight 32 w.count w.entries) ((times m (weight chroma)).good used) t))));
      }

  -- the first i entries have been written, dᵢ is the buffer, and the next place is e
  pub record Weighing (i : ℕ) (dᵢ : List ℕ) (e : ℕ) : Type 0 where
    pub few : n ≤ 32
    pub along : CountedAhead (weight chroma) n used d at i dᵢ e

  pub weighing-none : n ≤ 32 → Weighing 0 d at
  weighing-none h = record { few = h; along = counted_none (weight chroma) n used d at }

  whole : n ≤ 32 → {d' : List ℕ} {r : Option Cursor} → Put (times n (weight chroma)) used d at d' (ended r) → PutTo (weight_list chroma n) w d at d' r
  unfolding weight_list
  whole h p =
      record { put = shaped-put _ _ (λ w. padded is_no_weight 32 w.count w.entries) _ w (T_true (padded is_no_weight 32 w.count w.entries) (weights-padded n words h)) p }

  module _ {i : ℕ} {dᵢ : List ℕ} {e : ℕ} (a : Weighing i dᵢ e) where
    pub weighing-all : n ≤ i → PutTo (weight_list chroma n) w d at dᵢ (Some (record { at = e }))
    weighing-all h = whole a.few (counted-all (weight chroma) n used d at a.along (omega (arith, weights-many n words a.few)) h)

    module _ (h : i < n) {d₁ : List ℕ} where
      -- an entry was refused
      pub weighing-off : PutTo (weight chroma) (weight_from (drop (8 * i) words)) dᵢ e d₁ None → {d' : List ℕ} → PutTo (weight_list chroma n) w d at d' None
      weighing-off p {d'} =
          whole a.few
          (counted_stop (weight chroma) n used d at a.along (weight_from (drop (8 * i) words)) (weight-at n words a.few i h) h _ (stopped-at p) d')

      pub weighing-next : {c : Cursor} → PutTo (weight chroma) (weight_from (drop (8 * i) words)) dᵢ e d₁ (Some c) → Weighing (i + 1) d₁ c.at
      weighing-next p =
          record {
            few = a.few;
            along = counted_next (weight chroma) n used d at a.along (weight_from (drop (8 * i) words)) (weight-at n words a.few i h) h (done_at p);
          }
