-- The loop that writes a list of operations: what holds when the first i entries have been written, what a turn adds, and what each way out shows.
use Prim.Native.Nat.{ℕ, ◌+◌, ◌*◌, ◌≤◌, ◌<◌}
use mathlib.Core.Path.{◌≡◌}
use mathlib.Core.List.{List}
use native.Mathlib.Omega.{arith}
use lib.Dec.{leb}
use lib.IntN.{pos}
use lib.ListN.{get_or}
use borrow.Author.Tests.{eq-eqb, ne_eqb}
use Rattle.bits.specs.declared.read.Cursor.{Cursor}
use Rattle.fmt.specs.Fmt.{test, until}
use Rattle.fmt.specs.Leaves.{ue}
use Rattle.fmt.specs.Put.{Put}
use Rattle.fmt.proofs.Lawful.{T_true}
use Rattle.fmt.proofs.Puts.{shaped-put}
use Rattle.fmt.proofs.PutLoops.{Ahead, ahead_none, ahead-closed, ahead-closes, ahead-stop, ahead-stop-operand, ahead-next}
use Rattle.syntax.specs.declared.record.Operations.{Operations}
use Rattle.syntax.specs.Lists.{Kind, entries, of_operations, ok_operations, code, operands, operations}
use Rattle.lists.specs.declared.operations.ListKind.{ListKind}
use Rattle.lists.specs.Kinds.{kind_of}
use Rattle.writer.specs.Places.{ended, PutTo}
use Rattle.record.specs.Entries.{operations_from}
use Rattle.writer.proofs.Entries.{entry_at, operations-many, operations-ok, operation-at}
use Rattle.writer.proofs.Stages.{done_at, stopped-at}
use Rattle.std.specs.Prelude.{Option, Some, None}

-- ---- the loop

module _ (kind : ListKind) (n : ℕ) (words : List ℕ) (d : List ℕ) (at : ℕ) where
  abbrev o : Operations
  o = operations_from n words

  abbrev format : Kind
  format = kind_of kind

  -- the first i entries have been written, dᵢ is the buffer, and the next place is e
  pub record Listing (i : ℕ) (dᵢ : List ℕ) (e : ℕ) : Type 0 where
    pub few : n ≤ 66
    pub along : Ahead (code format) kind.closing (operands format) entries (of_operations o) d at i dᵢ e

  pub listing_none : n ≤ 66 → Listing 0 d at
  listing_none h = record { few = h; along = ahead_none (code format) kind.closing (operands format) entries (of_operations o) d at }

  whole : n ≤ 66 → {d' : List ℕ} {r : Option Cursor} → Put (until (code format) kind.closing (operands format) entries) (of_operations o) d at d' (ended r)
      → PutTo (operations format) o d at d' r
  unfolding operations
  whole h p = record { put = shaped-put _ _ _ _ o (T_true (ok_operations o) (operations-ok n words h)) p }

  module _ {i : ℕ} {dᵢ : List ℕ} {e : ℕ} (a : Listing i dᵢ e) where
    pub listing-closed : n ≤ i → {d' : List ℕ} {r : Option Cursor}
        → PutTo (test (λ v. leb v kind.greatest) kind.number pos ue) kind.closing dᵢ e d' r → PutTo (operations format) o d at d' r
    unfolding code
    listing-closed h p =
        whole a.few
        (ahead-closed (code format) kind.closing (operands format) entries (of_operations o) d at a.along (omega (arith, operations-many n words a.few)) _ _ p.put)

    module _ (h : i < n) where
      pub listing-closes : get_or words (3 * i) 0 ≡ kind.closing → {d' : List ℕ} → PutTo (operations format) o d at d' None
      listing-closes z {d'} =
          whole a.few
          (ahead-closes (code format) kind.closing (operands format) entries (of_operations o) d at a.along (entry_at words (3 * i)) (operation-at n words a.few i h) _ d'
          (eq-eqb (get_or words (3 * i) 0) kind.closing z))

      module _ (z : get_or words (3 * i) 0 ≡ kind.closing → ⊥) {d₁ : List ℕ} where
        -- the code was refused
        pub listing-off : PutTo (test (λ v. leb v kind.greatest) kind.number pos ue) (get_or words (3 * i) 0) dᵢ e d₁ None → {d' : List ℕ}
            → PutTo (operations format) o d at d' None
        unfolding code
        listing-off p {d'} =
            whole a.few
            (ahead-stop (code format) kind.closing (operands format) entries (of_operations o) d at a.along (entry_at words (3 * i)) (operation-at n words a.few i h)
            (ne_eqb (get_or words (3 * i) 0) kind.closing z) (omega (arith, a.few)) _ (stopped-at p) d')

        module _ {c₁ : Cursor} (p : PutTo (test (λ v. leb v kind.greatest) kind.number pos ue) (get_or words (3 * i) 0) dᵢ e d₁ (Some c₁)) {d₂ : List ℕ} where
          -- an operand was refused
          pub listing-off-operand : PutTo (operands format (get_or words (3 * i) 0)) (get_or words (3 * i + 1) 0, get_or words (3 * i + 2) 0) d₁ c₁.at d₂ None → {d' : List ℕ}
              → PutTo (operations format) o d at d' None
          unfolding code
          listing-off-operand q {d'} =
              whole a.few
              (ahead-stop-operand (code format) kind.closing (operands format) entries (of_operations o) d at a.along (entry_at words (3 * i)) (operation-at n words a.few i h)
              (ne_eqb (get_or words (3 * i) 0) kind.closing z) (omega (arith, a.few)) (done_at p) _ (stopped-at q) d')

          pub listing-next : {c₂ : Cursor} → PutTo (operands format (get_or words (3 * i) 0)) (get_or words (3 * i + 1) 0, get_or words (3 * i + 2) 0) d₁ c₁.at d₂ (Some c₂)
              → Listing (i + 1) d₂ c₂.at
          unfolding code
          listing-next q =
              record {
                few = a.few;
                along = ahead-next (code format) kind.closing (operands format) entries (of_operations o) d at a.along (entry_at words (3 * i)) (operation-at n words a.few i h)
                    (ne_eqb (get_or words (3 * i) 0) kind.closing z) (omega (arith, a.few)) (done_at p) (done_at q);
              }
