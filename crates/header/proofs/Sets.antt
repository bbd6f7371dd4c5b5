-- Reading pic_parameter_set_id by cases: the sets that it names are there, or which one is not.
use Prim.Native.Nat.{ℕ}
use mathlib.Core.Path.{◌≡◌, sym, ap, ◌∙◌}
use lib.Dec.{leb}
use lib.IntN.{pos}
use Rattle.bits.specs.declared.refusals.Refusal.{Refusal}
use Rattle.bits.specs.Refusals.{got, no, refusal_at}
use Rattle.bits.specs.Bits.{Bits}
use Rattle.fmt.specs.Fmt.{Fmt, test}
use Rattle.fmt.specs.Leaves.{ue}
use Rattle.fmt.proofs.Turns.{test-passes, test-refuses}
use Rattle.fields.proofs.Cases.{test-none}
use Rattle.table.specs.declared.sets.Picture.{Picture}
use Rattle.table.specs.declared.sets.Sequence.{Sequence}
use Rattle.table.specs.declared.table.Table.{Table}
use Rattle.table.specs.Tables.{found_picture, picture_at, sequence_at}
use Rattle.syntax.specs.Context.{is_there, is_there_too, picture_for, width_for, sequence_id_for, sequence_for}
use Rattle.syntax.specs.SliceHeader.{picture_set_id}
use Rattle.std.specs.Prelude.{Some, None}

-- the id alone
abbrev pub set_id : Fmt ℕ
set_id = test (λ id. leb id 255) 8 pos ue

module _ (t : Table) (s : Bits) (at : ℕ) where
  pub id-refused : {r : Refusal} → set_id.read s at ≡ no r → (picture_set_id t).read s at ≡ no r
  unfolding picture_set_id
  id-refused h =
      let inner = test-none (λ id. is_there (picture_at t id)) 9 pos set_id s at (sym h) in
      sym (test-none (λ id. is_there_too (sequence_at t (sequence_id_for t id))) 10 (λ id. pos (sequence_id_for t id)) _ s at inner)

  module _ {id e : ℕ} (h : set_id.read s at ≡ got id e) where
    pub no-picture : picture_at t id ≡ None → (picture_set_id t).read s at ≡ no (refusal_at 9 (pos id) at)
    unfolding picture_set_id
    no-picture k =
        let inner = test-refuses (λ id. is_there (picture_at t id)) 9 pos set_id s at id e h (ap is_there k) in
        sym (test-none (λ id. is_there_too (sequence_at t (sequence_id_for t id))) 10 (λ id. pos (sequence_id_for t id)) _ s at (sym inner))

    module _ {p : Picture} {w : ℕ} (k : picture_at t id ≡ found_picture p w) where
      pub picture-is : picture_for t id ≡ p
      unfolding picture_for
      picture-is = rw k

      pub width_is : width_for t id ≡ w
      unfolding width_for
      width_is = rw k

      sequence-id : sequence_id_for t id ≡ p.seq_parameter_set_id
      unfolding sequence_id_for
      sequence-id = ap (λ (x : Picture). x.seq_parameter_set_id) picture-is

      pub no-sequence : sequence_at t p.seq_parameter_set_id ≡ None → (picture_set_id t).read s at ≡ no (refusal_at 10 (pos p.seq_parameter_set_id) at)
      unfolding picture_set_id
      no-sequence q =
          let inner = test-passes (λ id. is_there (picture_at t id)) 9 pos set_id s at id e h (ap is_there k) in
          let found : sequence_at t (sequence_id_for t id) ≡ None = rw sequence-id q in
          test-refuses (λ id. is_there_too (sequence_at t (sequence_id_for t id))) 10 (λ id. pos (sequence_id_for t id)) _ s at id e inner (ap is_there_too found)
          ∙ ap (λ (x : ℕ). no (refusal_at 10 (pos x) at)) sequence-id

      module _ {q : Sequence} (g : sequence_at t p.seq_parameter_set_id ≡ Some q) where
        found : sequence_at t (sequence_id_for t id) ≡ Some q
        found = rw sequence-id g

        pub sequence-is : sequence_for t id ≡ q
        unfolding sequence_for
        sequence-is = rw found

        pub sets-there : (picture_set_id t).read s at ≡ got id e
        unfolding picture_set_id
        sets-there =
            test-passes (λ id. is_there_too (sequence_at t (sequence_id_for t id))) 10 (λ id. pos (sequence_id_for t id)) _ s at id e
            (test-passes (λ id. is_there (picture_at t id)) 9 pos set_id s at id e h (ap is_there k))
            (ap is_there_too found)
