-- Lists into words and out of them: the words that hold a list give it back, and the list that words hold gives back the words.
use Prim.Native.Nat.{ℕ, zero, suc, ◌+◌, ◌*◌, ◌≤◌}
use mathlib.Core.Path.{◌≡◌, refl, ap, ap₂, sym, ◌∙◌}
use mathlib.Core.Bool.{Bool, true, false, ◌&&◌}
use mathlib.Core.List.{List, [], ◌∷◌, ◌++◌, flat_map, append_assoc}
use native.Mathlib.Omega.{arith}
use native.Mathlib.Nat.{zero-add, mul-zero, mul-suc}
use lib.Dec.{T, leb→le}
use lib.IntN.{ℤ, pos, negsuc}
use lib.ListN.{length, get_or, take, drop, replicate, length-replicate, length-drop, take-append-drop}
use lib.Seq.{sets, sets-eq, length-sets, take-add, length-take-le, drop-append_seam}
use borrow.Author.Tests.{le-leb}
use Rattle.fmt.specs.Arrays.{pad, padded}
use Rattle.fmt.proofs.Lawful.{both-0, both-1, both-T, T_true}
use Rattle.fmt.proofs.Arrays.{unpad-pad, padded-le, length-unpad, pad-unpad}
use Rattle.syntax.specs.Lists.{Operation, to_operations, of_operations, ok_operations}
use Rattle.syntax.specs.SliceHeader.{no_weight, is_no_weight}
use Rattle.syntax.specs.declared.record.Operations.{Operations}
use Rattle.syntax.specs.declared.record.Weight.{Weight}
use Rattle.syntax.specs.declared.record.WeightList.{WeightList}
use Rattle.syntax.proofs.Operations.{of-to-operations, to-of-operations, few-operations, length-of-operations}
use Rattle.syntax.proofs.Weights.{no-weight-is}
use Rattle.weights.specs.Counts.{at_most32}
use Rattle.lists.specs.ListsLent.{operation_words, list_words, at_most66, emptied_list}
use Rattle.weights.specs.WeightsLent.{flag_word, entry_words, weight_words, emptied_weights}
use Rattle.lists.proofs.Fronts.{length-flat}
use Rattle.record.specs.Entries.{is_set_z, operations_in, operations_from, weight_from, weights_in, weights_from}
use Rattle.record.specs.Record.{is_bit_z, plain_weights}
use Rattle.record.proofs.Taken.{taken, length_taken, operation_from, operations-taken, weights-taken}

assoc : (a b c : Bool) → (a && b) && c ≡ a && (b && c)
assoc true b c = refl
assoc false b c = refl

-- ---- words over the front of others

module _ {B : Type 0} where
  sets-front : (b ws : List B) → length ws ≤ length b → sets b 0 ws ≡ ws ++ drop (length ws) b
  sets-front b ws h = sets-eq ws b 0 (omega arith) ∙ ap (λ (n : ℕ). ws ++ drop n b) (zero-add (length ws))

  -- what stands behind them is as before
  behind-sets : (b ws : List B) → length ws ≤ length b → drop (length ws) (sets b 0 ws) ≡ drop (length ws) b
  behind-sets b ws h = ap (drop (length ws)) (sets-front b ws h) ∙ drop-append_seam ws (drop (length ws) b)

  behind-zeros : (z : B) (m : ℕ) (b : List B) → m ≤ length b → drop m (sets b 0 (replicate m z)) ≡ drop m b
  behind-zeros z m b h =
      let k = length-replicate m z in
      ap (λ (j : ℕ). drop j (sets b 0 (replicate m z))) (sym k) ∙ behind-sets b (replicate m z) (omega arith) ∙ ap (λ (j : ℕ). drop j b) k

  -- the front of a list, over the front of one that agrees with it behind
  front-back : (m : ℕ) (ws b : List B) → m ≤ length ws → length b ≡ length ws → drop m b ≡ drop m ws → sets b 0 (take m ws) ≡ ws
  front-back m ws b h e d =
      let k = length-take-le m ws h in
      sets-front b (take m ws) (omega arith) ∙ ap (λ (n : ℕ). take m ws ++ drop n b) k ∙ ap (λ (l : List B). take m ws ++ l) d ∙ take-append-drop m ws

-- ---- entries of k words each

module _ {A B : Type 0} (f : List B → A) (k : ℕ) (words : A → List B) (size : (a : A) → length (words a) ≡ k) where
  past : (a : A) (r : List B) → drop k (words a ++ r) ≡ r
  past a r = rw (← size a) (drop-append_seam (words a) r)

  -- an entry's words tell it, whatever follows them
  module _ (tell : (a : A) (r : List B) → f (words a ++ r) ≡ a) where
    told : (l : List A) (r : List B) → taken f k (length l) (flat_map words l ++ r) ≡ l
    unfolding flat_map
    told [] r = refl
    told (a ∷ l) r =
        let e = append_assoc (words a) (flat_map words l) r in
        ap (λ (w : List B). f w ∷ taken f k (length l) (drop k w)) e
        ∙ ap₂ (λ (x : A) (w : List B). x ∷ taken f k (length l) w) (tell a (flat_map words l ++ r)) (past a (flat_map words l ++ r))
        ∙ ap (λ (m : List A). a ∷ m) (told l r)

    pub taken-laid : (l : List A) (b : List B) → k * length l ≤ length b → taken f k (length l) (sets b 0 (flat_map words l)) ≡ l
    taken-laid l b h =
        let n = length-flat words k size l in
        ap (taken f k (length l)) (sets-front b (flat_map words l) (omega arith)) ∙ told l (drop (length (flat_map words l)) b)

  -- a test of each entry's words
  module _ (ok : List B → Bool) where
    abbrev pub every : ℕ → List B → Bool
    every zero ws = true
    every (suc n) ws = ok ws && every n (drop k ws)

    every-told : ((a : A) (r : List B) → T (ok (words a ++ r))) → (l : List A) (r : List B) → T (every (length l) (flat_map words l ++ r))
    unfolding flat_map
    every-told good [] r = tt
    every-told good (a ∷ l) r =
        let q = flat_map words l ++ r in
        rw (append_assoc (words a) (flat_map words l) r)
        (both-T (ok (words a ++ q)) (every (length l) (drop k (words a ++ q))) (good a q) (rw (past a q) (every-told good l r)))

    pub every-laid : ((a : A) (r : List B) → T (ok (words a ++ r))) → (l : List A) (b : List B) → k * length l ≤ length b → T (every (length l) (sets b 0 (flat_map words l)))
    every-laid good l b h =
        let n = length-flat words k size l in
        rw (sets-front b (flat_map words l) (omega arith)) (every-told good l (drop (length (flat_map words l)) b))

    -- an entry whose words pass the test gives them back
    module _ (back : (ws : List B) → k ≤ length ws → T (ok ws) → words (f ws) ≡ take k ws) where
      flat-taken : (n : ℕ) (ws : List B) → k * n ≤ length ws → T (every n ws) → flat_map words (taken f k n ws) ≡ take (k * n) ws
      unfolding flat_map
      flat-taken zero ws h t = rw (mul-zero k)
      flat-taken (suc n) ws h t =
          let e : k + k * n ≡ k * suc n = omega (arith, mul-suc k n) in
          ap₂ (λ (x y : List B). x ++ y) (back ws (omega arith) (both-0 (ok ws) (every n (drop k ws)) t)) (flat-taken n (drop k ws) (omega (arith, length-drop k ws)) (both-1 (ok ws) (every n (drop k ws)) t))
          ∙ sym (take-add k (k * n) ws)
          ∙ ap (λ (m : ℕ). take m ws) e

      pub laid-taken : (n : ℕ) (ws b : List B) → k * n ≤ length ws → T (every n ws) → length b ≡ length ws → drop (k * n) b ≡ drop (k * n) ws → sets b 0 (flat_map words (taken f k n ws)) ≡ ws
      laid-taken n ws b h t e d = ap (sets b 0) (flat-taken n ws h t) ∙ front-back (k * n) ws b h e d

-- ---- a list

pub few-66 : (n : ℕ) → n ≤ 66 → at_most66 n ≡ n
unfolding at_most66
few-66 n h = rw (le-leb n 66 h)

tell-operation : (o : Operation) (r : List ℕ) → operation_from (operation_words o ++ r) ≡ o
tell-operation o r = refl

every_any : (n : ℕ) (ws : List ℕ) → T (every operation_from 3 operation_words (λ o. refl) (λ ws. true) n ws)
every_any zero ws = tt
every_any (suc n) ws = every_any n (drop 3 ws)

operation-back : (ws : List ℕ) → 3 ≤ length ws → T true → operation_words (operation_from ws) ≡ take 3 ws
operation-back [] h t = absurd (omega arith)
operation-back (a ∷ []) h t = absurd (omega arith)
operation-back (a ∷ b ∷ []) h t = absurd (omega arith)
operation-back (a ∷ b ∷ c ∷ ws) h t = refl

-- a count that fits its list is the list's
pub count-from : (n : ℕ) (ws : List ℕ) → n ≤ 66 → (operations_from n ws).count ≡ n
unfolding operations_from to_operations
count-from n ws h = rw (few-66 n h, operations-taken n ws) (length_taken operation_from 3 n ws)

-- the words that hold a list give it back
pub operations-from-in : (o : Operations) (b : List ℕ) → T (ok_operations o) → length b ≡ 198 → operations_from o.count (sets b 0 (list_words o)) ≡ o
unfolding operations_from list_words
operations-from-in o b t e =
    let n = length-of-operations o t in
    let m = few-operations o t in
    let l = of_operations o in
    ap (λ (j : ℕ). to_operations (operations_in j (sets b 0 (flat_map operation_words l)))) (few-66 o.count m ∙ sym n)
    ∙ ap to_operations (operations-taken (length l) (sets b 0 (flat_map operation_words l)) ∙ taken-laid operation_from 3 operation_words (λ o. refl) tell-operation l b (omega arith))
    ∙ to-of-operations o t

-- a list out of words, laid over words that agree with them behind it, gives them back
pub list-in-from : (n : ℕ) (ws b : List ℕ) → n ≤ 66 → length ws ≡ 198 → length b ≡ 198 → drop (3 * n) b ≡ drop (3 * n) ws → sets b 0 (list_words (operations_from n ws)) ≡ ws
unfolding operations_from list_words
list-in-from n ws b h e f d =
    ap (λ (l : List Operation). sets b 0 (flat_map operation_words l)) (of-to-operations (operations_in (at_most66 n) ws))
    ∙ rw (few-66 n h, operations-taken n ws)
    (laid-taken operation_from 3 operation_words (λ o. refl) (λ ws. true) operation-back n ws b (omega arith) (every_any n ws) (f ∙ sym e) d)

-- a list zeroed: what stands behind it is as before
pub length-emptied : (n : ℕ) (ws : List ℕ) → length (emptied_list n ws) ≡ length ws
unfolding emptied_list
length-emptied n ws = length-sets ws 0 (replicate (3 * at_most66 n) 0)

pub list-behind : (n : ℕ) (ws : List ℕ) → n ≤ 66 → length ws ≡ 198 → drop (3 * n) (emptied_list n ws) ≡ drop (3 * n) ws
unfolding emptied_list
list-behind n ws h e = rw (few-66 n h) (behind-zeros 0 (3 * n) ws (omega arith))

-- ---- weights

pub few-32 : (n : ℕ) → n ≤ 32 → at_most32 n ≡ n
unfolding at_most32
few-32 n h = rw (le-leb n 32 h)

pub weights-count : (n : ℕ) (ws : List ℤ) → n ≤ 32 → (weights_from n ws).count ≡ n
unfolding weights_from
weights-count n ws h = few-32 n h

set-flag : (b : Bool) → is_set_z (flag_word b) ≡ b
set-flag true = refl
set-flag false = refl

tell-weight : (w : Weight) (r : List ℤ) → weight_from (entry_words w ++ r) ≡ w
unfolding weight_from
tell-weight w r = rw (set-flag w.luma_weight_flag, set-flag w.chroma_weight_flag)

abbrev bits : List ℤ → Bool
bits ws = is_bit_z (get_or ws 0 (pos 0)) && is_bit_z (get_or ws 3 (pos 0))

every-bits : (n : ℕ) (ws : List ℤ) → every weight_from 8 entry_words (λ w. refl) bits n ws ≡ plain_weights n ws
unfolding plain_weights
every-bits zero ws = refl
every-bits (suc n) ws =
    assoc (is_bit_z (get_or ws 0 (pos 0))) (is_bit_z (get_or ws 3 (pos 0))) (every weight_from 8 entry_words (λ w. refl) bits n (drop 8 ws))
    ∙ ap (λ (b : Bool). is_bit_z (get_or ws 0 (pos 0)) && (is_bit_z (get_or ws 3 (pos 0)) && b)) (every-bits n (drop 8 ws))

bit-flag : (b : Bool) → T (is_bit_z (flag_word b))
bit-flag true = tt
bit-flag false = tt

flags-bits : (w : Weight) (r : List ℤ) → T (bits (entry_words w ++ r))
flags-bits w r = both-T (is_bit_z (flag_word w.luma_weight_flag)) (is_bit_z (flag_word w.chroma_weight_flag)) (bit-flag w.luma_weight_flag) (bit-flag w.chroma_weight_flag)

flag-back : (z : ℤ) → T (is_bit_z z) → flag_word (is_set_z z) ≡ z
flag-back (pos zero) t = refl
flag-back (pos (suc zero)) t = refl
flag-back (pos (suc (suc n))) t = absurd (omega (arith, leb→le (suc (suc n)) 1 t))
flag-back (negsuc n) t = absurd t

weight-back : (ws : List ℤ) → 8 ≤ length ws → T (bits ws) → entry_words (weight_from ws) ≡ take 8 ws
unfolding weight_from
weight-back [] h t = absurd (omega arith)
weight-back (a ∷ []) h t = absurd (omega arith)
weight-back (a ∷ b ∷ []) h t = absurd (omega arith)
weight-back (a ∷ b ∷ c ∷ []) h t = absurd (omega arith)
weight-back (a ∷ b ∷ c ∷ d ∷ []) h t = absurd (omega arith)
weight-back (a ∷ b ∷ c ∷ d ∷ e ∷ []) h t = absurd (omega arith)
weight-back (a ∷ b ∷ c ∷ d ∷ e ∷ f ∷ []) h t = absurd (omega arith)
weight-back (a ∷ b ∷ c ∷ d ∷ e ∷ f ∷ g ∷ []) h t = absurd (omega arith)
weight-back (a ∷ b ∷ c ∷ d ∷ e ∷ f ∷ g ∷ i ∷ ws) h t =
    ap₂ (λ (x y : ℤ). x ∷ b ∷ c ∷ y ∷ e ∷ f ∷ g ∷ i ∷ []) (flag-back a (both-0 (is_bit_z a) (is_bit_z d) t)) (flag-back d (both-1 (is_bit_z a) (is_bit_z d) t))

abbrev is_padded : WeightList → Bool
is_padded l = padded is_no_weight 32 l.count l.entries

-- the words that hold weights give them back, and are plain
module _ (l : WeightList) (b : List ℤ) (t : T (is_padded l)) (e : length b ≡ 256) where
  abbrev used : List Weight
  used = take l.count l.entries

  many : length used ≡ l.count
  many = length-unpad is_no_weight 32 l.count l.entries t

  few : 8 * length used ≤ length b
  few = omega (arith, many, (padded-le is_no_weight 32 l.count l.entries t).0)

  pub weights-from-in : weights_from l.count (sets b 0 (weight_words l)) ≡ l
  unfolding weights_from weight_words
  weights-from-in =
      let m = few-32 l.count (padded-le is_no_weight 32 l.count l.entries t).0 in
      let w = weights-taken (length used) (sets b 0 (flat_map entry_words used)) ∙ taken-laid weight_from 8 entry_words (λ w. refl) tell-weight used b few in
      λ i.
      record {
        count = m i;
        entries = (ap (λ (n : ℕ). pad no_weight 32 (weights_in n (sets b 0 (flat_map entry_words used)))) (m ∙ sym many) ∙ ap (pad no_weight 32) w ∙ pad-unpad no_weight is_no_weight no-weight-is 32 l.count l.entries t) i;
      }

  pub weights-plain : plain_weights l.count (sets b 0 (weight_words l)) ≡ true
  unfolding weight_words
  weights-plain =
      ap (λ (n : ℕ). plain_weights n (sets b 0 (flat_map entry_words used))) (sym many)
      ∙ sym (every-bits (length used) (sets b 0 (flat_map entry_words used)))
      ∙ T_true (every weight_from 8 entry_words (λ w. refl) bits (length used) (sets b 0 (flat_map entry_words used))) (every-laid weight_from 8 entry_words (λ w. refl) bits flags-bits used b few)

-- weights out of plain words, laid over words that agree with them behind the last entry, give them back
pub weights-in-from : (n : ℕ) (ws b : List ℤ) → n ≤ 32 → plain_weights n ws ≡ true → length ws ≡ 256 → length b ≡ 256 → drop (8 * n) b ≡ drop (8 * n) ws → sets b 0 (weight_words (weights_from n ws)) ≡ ws
unfolding weights_from weight_words
weights-in-from n ws b h t e f d =
    let k = length_taken weight_from 8 n ws in
    let q : T (every weight_from 8 entry_words (λ w. refl) bits n ws) = rw (every-bits n ws, t) tt in
    rw (few-32 n h, weights-taken n ws)
    (ap (λ (m : ℕ). sets b 0 (flat_map entry_words (take m (pad no_weight 32 (taken weight_from 8 n ws))))) (sym k)
    ∙ ap (λ (l : List Weight). sets b 0 (flat_map entry_words l)) (unpad-pad no_weight 32 (taken weight_from 8 n ws))
    ∙ laid-taken weight_from 8 entry_words (λ w. refl) bits weight-back n ws b (omega arith) q (f ∙ sym e) d)

-- weights zeroed: what stands behind them is as before
pub length-emptied-weights : (n : ℕ) (ws : List ℤ) → length (emptied_weights n ws) ≡ length ws
unfolding emptied_weights
length-emptied-weights n ws = length-sets ws 0 (replicate (8 * at_most32 n) (pos 0))

pub weights-behind : (n : ℕ) (ws : List ℤ) → n ≤ 32 → length ws ≡ 256 → drop (8 * n) (emptied_weights n ws) ≡ drop (8 * n) ws
unfolding emptied_weights
weights-behind n ws h e = rw (few-32 n h) (behind-zeros (pos 0) (8 * n) ws (omega arith))
