-- The loop that reads a list of operations into lent words: what they hold at each turn, and what each of its answers shows of the format, from what the reads
-- in it answered.
use Prim.Native.Nat.{ℕ, suc, ◌+◌, ◌-◌, ◌*◌, ◌≤◌, ◌<◌}
use mathlib.Core.Path.{◌≡◌, refl, ap, sym, ◌∙◌}
use mathlib.Core.List.{List, [], ◌∷◌, ◌++◌, flat_map, append-nil, append_assoc}
use mathlib.Core.Bool.{Bool, true, false}
use native.Mathlib.Omega.{arith}
use lib.Dec.{leb}
use lib.IntN.{pos}
use lib.ListN.{length, set, length-append}
use lib.Seq.{sets}
use Rattle.bits.specs.declared.read.Cursor.{Cursor}
use Rattle.bits.specs.declared.refusals.Refusal.{Refusal}
use Rattle.bits.specs.Bits.{Bits}
use Rattle.bits.specs.Refusals.{Res, got, no, refusal_at}
use Rattle.fmt.specs.Fmt.{seq, shaped, test, until}
use Rattle.fmt.specs.Leaves.{ue}
use Rattle.fmt.proofs.Loops.{Passed, none_passed, code-refused, list-closed, list_full_lem, operand-refused, one-passed}
use Rattle.syntax.specs.declared.record.Operations.{Operations}
use Rattle.syntax.specs.Lists.{Operation, Kind, entries, code, operands, operations, to_operations, no_operations, is_no_operations, operations_if}
use Rattle.syntax.specs.Marks.{is_zero, given}
use Rattle.fields.proofs.Cases.{given-there, given-absent}
use Rattle.lists.specs.declared.operations.ListKind.{ListKind}
use Rattle.lists.specs.Kinds.{kind_of}
use Rattle.lists.specs.Begun.{until_begun}
use Rattle.lists.specs.ListsLent.{operation_words, list_step, list_begun}
use Rattle.lists.proofs.Fronts.{front-next}
use Rattle.lists.proofs.Begun.{until-refused, until-closed, until-filled, until-operand, until-next}
use Rattle.std.specs.Prelude.{Ok, Err}
use Rattle.bits.specs.Answers.{Read, as_read}

-- a code's operands, by what the reads of the two answered
module _ (k : Kind) (v : ℕ) (s : Bits) (at : ℕ) where
  none_first : (r : Refusal) → (given (k.has_first v) 0 is_zero ue).read s at ≡ no r → (operands k v).read s at ≡ no r
  unfolding operands seq
  none_first r h = rw h

  none-second : (u e : ℕ) (r : Refusal) → (given (k.has_first v) 0 is_zero ue).read s at ≡ got u e → (given (k.has_second v) 0 is_zero ue).read s e ≡ no r
      → (operands k v).read s at ≡ no r
  unfolding operands seq
  none-second u e r h g = rw (h, g)

  both-operands : (u e w f : ℕ) → (given (k.has_first v) 0 is_zero ue).read s at ≡ got u e → (given (k.has_second v) 0 is_zero ue).read s e ≡ got w f
      → (operands k v).read s at ≡ got (u, w) f
  unfolding operands seq
  both-operands u e w f h g = rw (h, g)

-- an entry's words, as code stores them: at k, k + 1 and k + 2
entry-written : (t : List ℕ) (k a b c : ℕ) → set (set (set t k a) (k + 1) b) (k + 2) c ≡ sets t k (a ∷ b ∷ c ∷ [])
entry-written t k a b c =
    let p : k + 1 ≡ suc k = omega arith in
    let q : k + 2 ≡ suc (suc k) = omega arith in
    λ i. set (set (set t k a) (p i) b) (q i) c

module _ (kind : ListKind) (s : Bits) (from : ℕ) (before : List ℕ) where
  abbrev format : Kind
  format = kind_of kind

  abbrev found : Res Operations
  found = (operations format).read s from

  -- the entries from a place on, of a list with room for n
  abbrev begun_at : ℕ → ℕ → List Operation
  begun_at n at = until_begun (code format) kind.closing (operands format) n s at

  -- some entries have been passed, and stand over the front of the words
  pub record Reading (words : List ℕ) (n at : ℕ) : Type 0 where
    pub list : List Operation
    pub count : n ≡ length list
    pub passed : Passed (code format) kind.closing (operands format) entries s from list at
    pub begun : begun_at entries from ≡ list ++ begun_at (entries - n) at
    pub front : words ≡ sets before 0 (flat_map operation_words list)

  pub started : Reading before 0 from
  unfolding flat_map
  started = record { list = []; count = refl; passed = none_passed (code format) kind.closing (operands format) entries s from; begun = refl; front = refl }

  -- the loop's answer, and what it leaves in the words
  abbrev Told : Read ℕ → List ℕ → Type 0
  Told r words = (r ≡ list_step found) × (words ≡ sets before 0 (list_begun true format s from))

  module _ {words : List ℕ} {n at : ℕ} (a : Reading words n at) where
    -- no entry follows those in the words
    all : begun_at (entries - n) at ≡ [] → words ≡ sets before 0 (list_begun true format s from)
    unfolding list_begun
    all e = a.front ∙ ap (λ (l : List Operation). sets before 0 (flat_map operation_words l)) (sym (a.begun ∙ ap (λ (l : List Operation). a.list ++ l) e ∙ append-nil a.list))

    refused : {r : Refusal} → (until (code format) kind.closing (operands format) entries).read s from ≡ no r → begun_at (entries - n) at ≡ [] → Told (Err r) words
    unfolding operations shaped list_step
    refused h e = (rw h, all e)

    module _ (x : Read ℕ) (t : as_read x ≡ (test (λ v. leb v kind.greatest) kind.number pos ue).read s at) where
      pub no_code : (r : Refusal) → x ≡ Err r → Told (Err r) words
      unfolding code
      no_code r e =
          let h : (code format).read s at ≡ no r = sym t ∙ ap as_read e in
          refused (code-refused (code format) kind.closing (operands format) entries s from a.passed r h) (until-refused (code format) kind.closing (operands format) s (entries - n) at h)

      module _ (v : ℕ) (c : Cursor) (e : x ≡ Ok (v, c)) where
        coded : (code format).read s at ≡ got v c.at
        unfolding code
        coded = sym t ∙ ap as_read e

        pub ended : v ≡ kind.closing → Told (Ok (n, c)) words
        unfolding operations shaped to_operations list_step
        ended z =
            let h = list-closed (code format) kind.closing (operands format) entries s from a.passed v c.at coded z in
            (rw (h, a.count), all (until-closed (code format) kind.closing (operands format) s (entries - n) at coded z))

        module _ (z : v ≡ kind.closing → ⊥) where
          pub too_many : 66 ≤ n → (r : Refusal) → r ≡ refusal_at 14 (pos 0) at → Told (Err r) words
          too_many m r e =
              let h = list_full_lem (code format) kind.closing (operands format) entries s from a.passed v c.at coded z (omega (arith, a.count)) in
              rw e (refused h (until-filled (code format) kind.closing (operands format) s (entries - n) at (omega arith)))

          module _ (m : n < 66) (b : Bool) (f : b ≡ format.has_first v) (y : Read ℕ) (g : as_read y ≡ (given b 0 is_zero ue).read s c.at) where
            operand : (r : Refusal) → (operands format v).read s c.at ≡ no r → Told (Err r) words
            operand r h =
                refused (operand-refused (code format) kind.closing (operands format) entries s from a.passed v c.at coded z (omega (arith, a.count)) r h)
                (until-operand (code format) kind.closing (operands format) s (entries - n) (entries - (n + 1)) at (omega arith) coded z h)

            pub no-first : (r : Refusal) → y ≡ Err r → Told (Err r) words
            no-first r e = operand r (none_first format v s c.at r (rw (← f) (sym g ∙ ap as_read e)))

            module _ (u : ℕ) (d : Cursor) (yu : y ≡ Ok (u, d)) (b' : Bool) (f' : b' ≡ format.has_second v) (o : Read ℕ)
                (g' : as_read o ≡ (given b' 0 is_zero ue).read s d.at) where
              first-is : (given (format.has_first v) 0 is_zero ue).read s c.at ≡ got u d.at
              first-is = rw (← f) (sym g ∙ ap as_read yu)

              pub no_second : (r : Refusal) → o ≡ Err r → Told (Err r) words
              no_second r e = operand r (none-second format v s c.at u d.at r first-is (rw (← f') (sym g' ∙ ap as_read e)))

              pub turned : (w : ℕ) (e : Cursor) → o ≡ Ok (w, e) → Reading (set (set (set words (3 * n) v) (3 * n + 1) u) (3 * n + 2) w) (n + 1) e.at
              turned w e ow =
                  let h = both-operands format v s c.at u d.at w e.at first-is (rw (← f') (sym g' ∙ ap as_read ow)) in
                  let p : Operation = (v, (u, w)) in
                  record {
                    list = a.list ++ (p ∷ []);
                    count = omega (arith, a.count, length-append a.list (p ∷ []));
                    passed = one-passed (code format) kind.closing (operands format) entries s from a.passed v c.at coded z (omega (arith, a.count)) (u, w) e.at h;
                    begun =
                        a.begun
                        ∙ ap (λ (l : List Operation). a.list ++ l) (until-next (code format) kind.closing (operands format) s (entries - n) (entries - (n + 1)) at (omega arith) coded z h)
                        ∙ sym (append_assoc a.list (p ∷ []) (begun_at (entries - (n + 1)) e.at));
                    front = entry-written words (3 * n) v u w ∙ rw (a.front, a.count) (front-next operation_words 3 (λ _. refl) before a.list p);
                  }

-- a list that is there only under a condition
module _ (b : Bool) (k : Kind) (s : Bits) (at : ℕ) where
  pub list-there : b ≡ true → (operations k).read s at ≡ (operations_if b k).read s at
  unfolding operations_if
  list-there t = given-there b no_operations is_no_operations (operations k) s at ((operations k).read s at) t refl

  pub list-absent : b ≡ false → got no_operations at ≡ (operations_if b k).read s at
  unfolding operations_if
  list-absent = given-absent b no_operations is_no_operations (operations k) s at
