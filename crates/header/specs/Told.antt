-- What the private stages of reading into lent words say. Beside a refusal the words are `Kept` for a reading of more bits.
use Rattle.std.specs.Prelude.{ℕ, ◌+◌, ◌≡◌, List, ◌∷◌, ◌++◌, ℤ, pos, take, drop}
use Rattle.std.proofs.lemmas.List.Edits.{sets}
use Rattle.bits.specs.declared.refusals.Refusal.{Refusal}
use Rattle.bits.specs.Bits.{Bits}
use Rattle.bits.specs.Refusals.{Res, got, no, bind, pick, refusal_at}
use Rattle.syntax.specs.declared.context.UnitKind.{UnitKind}
use Rattle.syntax.specs.declared.record.Frame.{Frame}
use Rattle.syntax.specs.declared.record.OrderCount.{OrderCount}
use Rattle.syntax.specs.declared.record.ActiveCounts.{ActiveCounts}
use Rattle.syntax.specs.declared.record.Modifications.{Modifications}
use Rattle.syntax.specs.declared.record.DecRefPicMarking.{DecRefPicMarking}
use Rattle.syntax.specs.declared.record.SliceHeader.{SliceHeader}
use Rattle.syntax.specs.SliceHeader.{modifications, pred_weight_table, dec_ref_pic_marking, active_l0, active_l1, any_set}
use Rattle.weights.specs.Counts.{at_most32}
use Rattle.header.specs.declared.lead.Led.{Led}
use Rattle.header.specs.Stages.{FrontParts, BackParts, context_of, header_of, back_at}
use Rattle.lists.specs.ListsLent.{list_words}
use Rattle.header.specs.Short.{HeaderWords, header_in, lists_of, marks_of, frame_numbers, order_numbers, count_numbers, order_signed, quantiser_numbers, quantiser_signed, filter_numbers, filter_signed}
use Rattle.std.specs.Prelude.{Result, Ok, Err}
use Rattle.bits.specs.Answers.{Read}
use Rattle.bits.specs.declared.read.Cursor.{Cursor}
use Rattle.header.specs.declared.slice.Lists.{Lists}
use Rattle.header.specs.declared.slice.Marks.{Marks}

abbrev pub front_numbers : FrontParts → List ℕ
front_numbers f = frame_numbers f.frame ++ (order_numbers f.order_count ++ count_numbers f.active_counts)

-- ---- the parts without lists: beside a refusal nothing is said of the words

unfoldable pub FrontTold : Res FrontParts → Read ActiveCounts → (numbers : List ℕ) (signed : List ℤ) (after : List ℕ) (afterSigned : List ℤ) → Type 0
FrontTold (got f e) a n z m y =
    (a ≡ Ok (f.active_counts, record { at = e }))
    × ((m ≡ sets n 4 (front_numbers f)) × (y ≡ sets z 0 (order_signed f.order_count)))
FrontTold (no r) a n z m y = a ≡ Err r

unfoldable pub BackTold : Res BackParts → Result Cursor Refusal → (numbers : List ℕ) (signed : List ℤ) (after : List ℕ) (afterSigned : List ℤ) → Type 0
BackTold (got b e) a n z m y =
    (a ≡ Ok (record { at = e }))
    × ((m ≡ sets n 46 (quantiser_numbers b.quantiser ++ filter_numbers b.filter)) × (y ≡ sets z 3 (quantiser_signed b.quantiser ++ filter_signed b.filter)))
BackTold (no r) a n z m y = a ≡ Err r

-- ---- the parts with lists

unfoldable pub ListsTold : Res Modifications → Read Lists → (before0 before1 l0 l1 : List ℕ) → Type 0
ListsTold (got m e) a b0 b1 l0 l1 =
    (a ≡ Ok ((lists_of m), record { at = e })) × ((l0 ≡ sets b0 0 (list_words m.l0.operations)) × (l1 ≡ sets b1 0 (list_words m.l1.operations)))
ListsTold (no r) a b0 b1 l0 l1 = a ≡ Err r

unfoldable pub MarksTold : Res DecRefPicMarking → Read Marks → (before words : List ℕ) → Type 0
MarksTold (got d e) a before words = (a ≡ Ok ((marks_of d), record { at = e })) × (words ≡ sets before 0 (list_words d.operations))
MarksTold (no r) a before words = a ≡ Err r

-- ---- the header

-- what follows num_ref_idx_l1_active_minus1, with i and j references in the lists
abbrev pub behind_front : UnitKind → Led → FrontParts → (i j : ℕ) → Bits → ℕ → Res SliceHeader
behind_front n l f i j s c =
    bind ((modifications (context_of n l) l.slice_type).read s c) (λ m c2.
    bind ((pred_weight_table (context_of n l) l.slice_type i j).read s c2) (λ w c3.
    bind ((dec_ref_pic_marking (context_of n l)).read s c3) (λ d c4.
    bind (back_at (context_of n l) l.slice_type s c4) (λ b e.
    pick (any_set (drop (e + 1) s)) (got (header_of l f m w d b) e) (no (refusal_at 22 (pos 0) e))))))

-- with as many as the code has: at most 32
abbrev pub behind : UnitKind → Led → FrontParts → Bits → ℕ → Res SliceHeader
behind n l f = behind_front n l f (at_most32 (active_l0 (context_of n l) f.active_counts)) (at_most32 (active_l1 (context_of n l) f.active_counts))

-- the words of the fields before it
unfoldable pub FrontIn : Led → FrontParts → HeaderWords → Type 0
FrontIn l f w =
    (take 27 w.numbers ≡ (l.first_mb_in_slice ∷ l.slice_type ∷ l.pic_parameter_set_id ∷ l.picture.seq_parameter_set_id ∷ front_numbers f))
    × (take 3 w.signed ≡ order_signed f.order_count)

-- of the parts before it, who reads on has the counts alone
abbrev pub front_of : Frame → OrderCount → ActiveCounts → FrontParts
front_of f o a = record { frame = f; order_count = o; active_counts = a }

unfoldable pub EachFront : ActiveCounts → (FrontParts → Type 0) → Type 0
EachFront a P = (f : Frame) (o : OrderCount) → P (front_of f o a)

-- a header that is read of more bits is written over what was left in the words just as over the words as they were before
unfoldable pub Kept : (Bits → Res SliceHeader) → (before words : HeaderWords) → Type 0
Kept reads before words = (t : Bits) (h : SliceHeader) (e : ℕ) → reads t ≡ got h e → header_in h words ≡ header_in h before

unfoldable pub Filled : Res SliceHeader → Result Cursor Refusal → (before words : HeaderWords) → Type 0
Filled (got h e) a before words = (a ≡ Ok (record { at = e })) × (words ≡ header_in h before)
Filled (no r) a before words = a ≡ Err r
