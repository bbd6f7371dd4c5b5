-- A header into words and out of them.
use Prim.Native.Nat.{ℕ, zero, suc, ◌+◌, ◌*◌, ◌≤◌}
use mathlib.Core.Path.{◌≡◌, refl, ap₂, sym, ◌∙◌}
use mathlib.Core.Bool.{Bool, true, false, not, ◌&&◌, ◌||◌}
use mathlib.Core.List.{List, [], ◌∷◌}
use native.Mathlib.Omega.{arith}
use lib.Dec.{T, eqb, leb, leb→le, eqb→eq}
use lib.IntN.{pos}
use lib.ListN.{length, get_or, drop, replicate}
use lib.Seq.{sets, drop-cons, drop-length}
use borrow.Author.Tests.{le-leb}
use Rattle.bits.specs.Refusals.{pick}
use Rattle.bits.proofs.Results.{cases}
use Rattle.fmt.proofs.Arrays.{padded-le}
use Rattle.syntax.proofs.Operations.{few-operations}
use Rattle.fmt.proofs.Lawful.{both-0, both-1, T_true}
use Rattle.table.specs.declared.table.Table.{Table}
use Rattle.fmt.specs.Arrays.{pad}
use Rattle.syntax.specs.Absent.{no_header, no_prefix}
use Rattle.syntax.specs.Lists.{to_operations, ok_operations}
use Rattle.syntax.specs.SliceHeader.{is_no_weight, header}
use Rattle.weights.specs.Counts.{at_most32}
use Rattle.syntax.proofs.Goods.{seq-first, seq-rest, shaped_from}
use Rattle.syntax.specs.declared.context.UnitKind.{UnitKind}
use Rattle.syntax.specs.declared.context.PrefixKind.{PrefixKind}
use Rattle.syntax.specs.declared.record.SliceHeader.{SliceHeader}
use Rattle.syntax.specs.Prefix.{prefix}
use Rattle.syntax.specs.declared.record.Prefix.{Prefix}
use Rattle.lists.specs.ListsLent.{list_words, at_most66, prefix_short}
use Rattle.header.specs.Short.{bit, numbers_of, signed_of, HeaderWords, emptied, header_in, zeros}
use Rattle.header.proofs.Tidy.{InOrder, good-in-order, operations_if-ok}
use Rattle.record.specs.Fields.{number_in, set_in, frame_from, order_count_from, active_counts_from, quantiser_from, filter_from}
use Rattle.record.specs.Entries.{operations_in, operations_from, weights_in, weights_from}
use Rattle.record.specs.Record.{modifications_from, weight_table_from, marking_from, header_from, prefix_from, within, withins, flags, plain_numbers, plain_weights, plain}
use Rattle.record.proofs.Round.{operations-from-in, count-from, list-in-from, length-emptied, list-behind, weights-from-in, weights-plain, weights-count, weights-in-from, length-emptied-weights, weights-behind}

-- ---- the parts without lists

set-bit : (b : Bool) → not (eqb (bit b) 0) ≡ b
set-bit true = refl
set-bit false = refl

module _ (h : SliceHeader) where
  abbrev n : List ℕ
  n = numbers_of h

  frame-in : frame_from n ≡ h.frame
  unfolding frame_from numbers_of
  frame-in = simp set-bit

  order-count-in : order_count_from n (signed_of h) ≡ h.order_count
  unfolding order_count_from numbers_of signed_of
  order-count-in = simp set-bit

  active-counts-in : active_counts_from n ≡ h.active_counts
  unfolding active_counts_from numbers_of
  active-counts-in = simp set-bit

  quantiser-in : quantiser_from n (signed_of h) ≡ h.quantiser
  unfolding quantiser_from numbers_of signed_of
  quantiser-in = simp set-bit

  filter-in : filter_from n (signed_of h) ≡ h.filter
  unfolding filter_from numbers_of signed_of
  filter-in = simp set-bit

-- words as long as the arrays that hold them
pub record Sized (b : HeaderWords) : Type 0 where
  pub numbers : length b.numbers ≡ 57
  pub signed : length b.signed ≡ 7
  pub l0 : length b.l0 ≡ 198
  pub l1 : length b.l1 ≡ 198
  pub marking : length b.marking ≡ 198
  pub w0 : length b.w0 ≡ 256
  pub w1 : length b.w1 ≡ 256

-- ---- a header out of the words that hold it

pub zeros-sized : Sized zeros
zeros-sized = record { numbers = refl; signed = refl; l0 = refl; l1 = refl; marking = refl; w0 = refl; w1 = refl }

-- zeros hold none
pub header-from-zeros : header_from zeros ≡ no_header
unfolding header_from frame_from order_count_from active_counts_from quantiser_from filter_from operations_from operations_in at_most66 to_operations weights_from weights_in at_most32 pad no_header
header-from-zeros = refl

module _ (h : SliceHeader) (b : HeaderWords) (p : InOrder h) (z : Sized b) where
  abbrev held : HeaderWords
  held = header_in h b

  modifications-in : modifications_from held.numbers held.l0 held.l1 ≡ h.modifications
  unfolding numbers_of
  modifications-in =
      simp (set-bit, operations-from-in h.modifications.l0.operations b.l0 p.l0 z.l0, operations-from-in h.modifications.l1.operations b.l1 p.l1 z.l1)

  weight-table-in : weight_table_from held.numbers held.w0 held.w1 ≡ h.pred_weight_table
  unfolding numbers_of
  weight-table-in =
      simp (set-bit, weights-from-in h.pred_weight_table.l0 b.w0 p.w0 z.w0, weights-from-in h.pred_weight_table.l1 b.w1 p.w1 z.w1)

  marking-in : marking_from held.numbers held.marking ≡ h.dec_ref_pic_marking
  unfolding numbers_of
  marking-in = simp (set-bit, operations-from-in h.dec_ref_pic_marking.operations b.marking p.marking z.marking)

  pub from_in : header_from (header_in h b) ≡ h
  unfolding header_from numbers_of
  from_in =
      λ i.
      record {
        first_mb_in_slice = h.first_mb_in_slice;
        slice_type = h.slice_type;
        pic_parameter_set_id = h.pic_parameter_set_id;
        seq_parameter_set_id = h.seq_parameter_set_id;
        frame = frame-in h i;
        order_count = order-count-in h i;
        active_counts = active-counts-in h i;
        modifications = modifications-in i;
        pred_weight_table = weight-table-in i;
        dec_ref_pic_marking = marking-in i;
        quantiser = quantiser-in h i;
        filter = filter-in h i;
      }

-- the words that hold a header that a reading gives, whatever they held before
pub header-from-in : (t : Table) (n : UnitKind) (h : SliceHeader) (b : HeaderWords) → T ((header t n).good h) → Sized b → header_from (header_in h b) ≡ h
header-from-in t n h b g = from_in h b (good-in-order t n h g)

-- ---- and those words are plain

bit-small : (b : Bool) → leb (bit b) 1 ≡ true
bit-small true = refl
bit-small false = refl

module _ (h : SliceHeader) (b : HeaderWords) (p : InOrder h) (z : Sized b) where
  numbers-plain : plain_numbers (numbers_of h) ≡ true
  unfolding plain_numbers numbers_of
  numbers-plain =
      simp (
        bit-small,
        le-leb h.modifications.l0.operations.count 66 (few-operations h.modifications.l0.operations p.l0),
        le-leb h.modifications.l1.operations.count 66 (few-operations h.modifications.l1.operations p.l1),
        le-leb h.dec_ref_pic_marking.operations.count 66 (few-operations h.dec_ref_pic_marking.operations p.marking),
        le-leb h.pred_weight_table.l0.count 32 (padded-le is_no_weight 32 _ h.pred_weight_table.l0.entries p.w0).0,
        le-leb h.pred_weight_table.l1.count 32 (padded-le is_no_weight 32 _ h.pred_weight_table.l1.entries p.w1).0,
      )

  in-plain : plain (header_in h b) ≡ true
  unfolding plain numbers_of
  in-plain = rw (numbers-plain, weights-plain h.pred_weight_table.l0 b.w0 p.w0 z.w0, weights-plain h.pred_weight_table.l1 b.w1 p.w1 z.w1)

pub plain_in : (t : Table) (n : UnitKind) (h : SliceHeader) (b : HeaderWords) → T ((header t n).good h) → Sized b → plain (header_in h b) ≡ true
plain_in t n h b g = in-plain h b (good-in-order t n h g)

-- ---- plain words out of the header that they hold

module _ {A : Type 0} (f : ℕ → A) where
  -- a word for each place from i on, m of them
  abbrev cells : ℕ → ℕ → List A
  cells i zero = []
  cells i (suc m) = f i ∷ cells (suc i) m

  cells_are : (z : A) (n : List A) → ((k : ℕ) → f k ≡ get_or n k z) → (m i : ℕ) → i + m ≡ length n → cells i m ≡ drop i n
  cells_are z n e zero i h = let g : i ≡ length n = omega arith in rw g (sym (drop-length n))
  cells_are z n e (suc m) i h = ap₂ (λ (x : A) (l : List A). x ∷ l) (e i) (cells_are z n e m (suc i) (omega arith)) ∙ sym (drop-cons n i z (omega arith))

abbrev is_in : ℕ → List ℕ → Bool
is_in k [] = false
is_in k (j ∷ ks) = eqb k j || is_in k ks

-- the word of what a word says: of a mark or a flag, where k is among their places
abbrev said : List ℕ → List ℕ → ℕ → ℕ
said ks n k = pick (is_in k ks) (bit (set_in n k)) (number_in n k)

bit-set : (x : ℕ) → T (leb x 1) → bit (not (eqb x 0)) ≡ x
bit-set zero t = refl
bit-set (suc zero) t = refl
bit-set (suc (suc x)) t = absurd (omega (arith, leb→le (suc (suc x)) 1 t))

said_same : (ks n : List ℕ) → T (withins n 1 ks) → (k : ℕ) → said ks n k ≡ number_in n k
said_same [] n t k = refl
said_same (j ∷ ks) n t k =
    cases (eqb k j)
    (λ q. rw q (bit-set (number_in n k) (rw (eqb→eq k j (rw q tt)) (both-0 (within n 1 j) (withins n 1 ks) t))))
    (λ q. rw q (said_same ks n (both-1 (within n 1 j) (withins n 1 ks) t) k))

-- words that agree with w behind its lists
pub record Behind (w b : HeaderWords) : Type 0 where
  pub l0 : drop (3 * number_in w.numbers 29) b.l0 ≡ drop (3 * number_in w.numbers 29) w.l0
  pub l1 : drop (3 * number_in w.numbers 32) b.l1 ≡ drop (3 * number_in w.numbers 32) w.l1
  pub marking : drop (3 * number_in w.numbers 45) b.marking ≡ drop (3 * number_in w.numbers 45) w.marking
  pub w0 : drop (8 * number_in w.numbers 37) b.w0 ≡ drop (8 * number_in w.numbers 37) w.w0
  pub w1 : drop (8 * number_in w.numbers 38) b.w1 ≡ drop (8 * number_in w.numbers 38) w.w1

-- what plain words say of themselves
record Plain (w : HeaderWords) : Type 0 where
  flags-are : T (withins w.numbers 1 flags)
  l0 : number_in w.numbers 29 ≤ 66
  l1 : number_in w.numbers 32 ≤ 66
  marking : number_in w.numbers 45 ≤ 66
  c0 : number_in w.numbers 37 ≤ 32
  c1 : number_in w.numbers 38 ≤ 32
  w0 : plain_weights (number_in w.numbers 37) w.w0 ≡ true
  w1 : plain_weights (number_in w.numbers 38) w.w1 ≡ true

module _ (w : HeaderWords) where
  abbrev m : List ℕ
  m = w.numbers

  plain-says : T (plain w) → Plain w
  unfolding plain plain_numbers
  plain-says t =
      let a = both-0 (plain_numbers m) (plain_weights (number_in m 37) w.w0 && plain_weights (number_in m 38) w.w1) t in
      let b = both-1 (plain_numbers m) (plain_weights (number_in m 37) w.w0 && plain_weights (number_in m 38) w.w1) t in
      let c = both-1 (withins m 1 flags) (withins m 66 (29 ∷ 32 ∷ 45 ∷ []) && withins m 32 (37 ∷ 38 ∷ [])) a in
      let d = both-0 (withins m 66 (29 ∷ 32 ∷ 45 ∷ [])) (withins m 32 (37 ∷ 38 ∷ [])) c in
      let e = both-1 (withins m 66 (29 ∷ 32 ∷ 45 ∷ [])) (withins m 32 (37 ∷ 38 ∷ [])) c in
      record {
        flags-are = both-0 (withins m 1 flags) (withins m 66 (29 ∷ 32 ∷ 45 ∷ []) && withins m 32 (37 ∷ 38 ∷ [])) a;
        l0 = leb→le (number_in m 29) 66 (both-0 (within m 66 29) (withins m 66 (32 ∷ 45 ∷ [])) d);
        l1 = leb→le (number_in m 32) 66 (both-0 (within m 66 32) (withins m 66 (45 ∷ [])) (both-1 (within m 66 29) (withins m 66 (32 ∷ 45 ∷ [])) d));
        marking = leb→le (number_in m 45) 66 (both-0 (within m 66 45) true (both-1 (within m 66 32) (withins m 66 (45 ∷ [])) (both-1 (within m 66 29) (withins m 66 (32 ∷ 45 ∷ [])) d)));
        c0 = leb→le (number_in m 37) 32 (both-0 (within m 32 37) (withins m 32 (38 ∷ [])) e);
        c1 = leb→le (number_in m 38) 32 (both-0 (within m 32 38) true (both-1 (within m 32 37) (withins m 32 (38 ∷ [])) e));
        w0 = T_true (plain_weights (number_in m 37) w.w0) (both-0 (plain_weights (number_in m 37) w.w0) (plain_weights (number_in m 38) w.w1) b);
        w1 = T_true (plain_weights (number_in m 38) w.w1) (both-1 (plain_weights (number_in m 37) w.w0) (plain_weights (number_in m 38) w.w1) b);
      }

  module _ (p : Plain w) (z : Sized w) where
    numbers-back : numbers_of (header_from w) ≡ m
    unfolding numbers_of header_from frame_from order_count_from active_counts_from quantiser_from filter_from
    numbers-back =
        rw (
          count-from (number_in m 29) w.l0 p.l0,
          count-from (number_in m 32) w.l1 p.l1,
          count-from (number_in m 45) w.marking p.marking,
          weights-count (number_in m 37) w.w0 p.c0,
          weights-count (number_in m 38) w.w1 p.c1,
        )
        (cells_are (said flags m) 0 m (said_same flags m p.flags-are) 57 0 (sym z.numbers))

    signed_back : signed_of (header_from w) ≡ w.signed
    unfolding signed_of header_from order_count_from quantiser_from filter_from
    signed_back = cells_are (λ (k : ℕ). get_or w.signed k (pos 0)) (pos 0) w.signed (λ k. refl) 7 0 (sym z.signed)

    module _ (b : HeaderWords) (y : Sized b) (q : Behind w b) where
      back : header_in (header_from w) b ≡ w
      unfolding header_from
      back =
          λ i.
          record {
            numbers = numbers-back i;
            signed = signed_back i;
            l0 = list-in-from (number_in m 29) w.l0 b.l0 p.l0 z.l0 y.l0 q.l0 i;
            l1 = list-in-from (number_in m 32) w.l1 b.l1 p.l1 z.l1 y.l1 q.l1 i;
            marking = list-in-from (number_in m 45) w.marking b.marking p.marking z.marking y.marking q.marking i;
            w0 = weights-in-from (number_in m 37) w.w0 b.w0 p.c0 p.w0 z.w0 y.w0 q.w0 i;
            w1 = weights-in-from (number_in m 38) w.w1 b.w1 p.c1 p.w1 z.w1 y.w1 q.w1 i;
          }

-- the header that plain words hold, laid over words that agree with them behind its lists, gives them back
pub in-from : (w b : HeaderWords) → plain w ≡ true → Sized w → Sized b → Behind w b → header_in (header_from w) b ≡ w
in-from w b t z = back w (plain-says w (rw t tt)) z b

-- ---- over the words themselves, with their entries zeroed

pub emptied-sized : (b : HeaderWords) → Sized b → Sized (emptied b)
unfolding emptied
emptied-sized b z =
    record {
      numbers = z.numbers;
      signed = z.signed;
      l0 = length-emptied (number_in b.numbers 29) b.l0 ∙ z.l0;
      l1 = length-emptied (number_in b.numbers 32) b.l1 ∙ z.l1;
      marking = length-emptied (number_in b.numbers 45) b.marking ∙ z.marking;
      w0 = length-emptied-weights (number_in b.numbers 37) b.w0 ∙ z.w0;
      w1 = length-emptied-weights (number_in b.numbers 38) b.w1 ∙ z.w1;
    }

emptied-behind : (w : HeaderWords) → Plain w → Sized w → Behind w (emptied w)
unfolding emptied
emptied-behind w p z =
    record {
      l0 = list-behind (number_in w.numbers 29) w.l0 p.l0 z.l0;
      l1 = list-behind (number_in w.numbers 32) w.l1 p.l1 z.l1;
      marking = list-behind (number_in w.numbers 45) w.marking p.marking z.marking;
      w0 = weights-behind (number_in w.numbers 37) w.w0 p.c0 z.w0;
      w1 = weights-behind (number_in w.numbers 38) w.w1 p.c1 z.w1;
    }

pub in-from-emptied : (w : HeaderWords) → plain w ≡ true → Sized w → header_in (header_from w) (emptied w) ≡ w
in-from-emptied w t z = let p = plain-says w (rw t tt) in back w p z (emptied w) (emptied-sized w z) (emptied-behind w p z)

-- ---- a prefix

pub prefix-from-zeros : prefix_from (prefix_short no_prefix) (replicate 198 0) ≡ no_prefix
unfolding prefix_from operations_from operations_in at_most66 to_operations pad
prefix-from-zeros = refl

pub prefix-from : (p : Prefix) (b : List ℕ) → T (ok_operations p.base_marking) → length b ≡ 198 → prefix_from (prefix_short p) (sets b 0 (list_words p.base_marking)) ≡ p
unfolding prefix_from
prefix-from p b t e = rw (operations-from-in p.base_marking b t e)

pub prefix-from-in : (k : PrefixKind) (p : Prefix) (b : List ℕ) → T ((prefix k).good p) → length b ≡ 198 → prefix_from (prefix_short p) (sets b 0 (list_words p.base_marking)) ≡ p
unfolding prefix
prefix-from-in k p b g = prefix-from p b (operations_if-ok _ _ p.base_marking (seq-first _ _ _ (seq-rest _ _ _ (seq-rest _ _ _ (shaped_from _ _ _ _ p g)))))
