-- What putting and looking up have to do with one another, for any kind of set that stands in an array as entries of equal width.
use mathlib.Core.Path.{◌≡◌, refl, sym, ap, ◌∙◌}
use mathlib.Core.Bool.{Bool, true, false, ◌&&◌}
use mathlib.Core.List.{List, [], ◌∷◌, ◌++◌, append_assoc}
use Prim.Native.Nat.{ℕ, zero, suc, ◌+◌, ◌*◌, ◌/◌, ◌≤◌, ◌<◌}
use native.Mathlib.Nat.{mul-le-mul_right, suc-mul}
use native.Mathlib.Omega.{arith}
use borrow.Author.Tests.{leb-true, le-leb}
use lib.Arith.{digits_div}
use lib.Dec.{leb}
use lib.ListN.{length, get_or, take, drop, set, replicate, get_or-append}
use lib.Seq.{sets, sets-eq, length-sets, drop_at, length-take-le, get_or-drop, get_or-set_other}
use Rattle.bits.specs.Refusals.{pick}
use Rattle.table.specs.Sets.{all}
use Rattle.table.specs.Tables.{Put, put_words}
use Rattle.table.proofs.Tests.{is-it}
use Rattle.table.proofs.Looking.{Local, look, entry_by}
use Rattle.table.proofs.Storing.{refused, put-done}
use Rattle.std.specs.Prelude.{Ok}

-- ---- a run of stores, and the places beside it

get_d-sets-other : (w t : List ℕ) (i k : ℕ) → ((m : ℕ) → m < length w → k ≡ i + m → ⊥) → get_or (sets t i w) k 0 ≡ get_or t k 0
get_d-sets-other [] t i k h = refl
get_d-sets-other (a ∷ w) t i k h =
    get_d-sets-other w (set t i a) (suc i) k (λ m l e. h (suc m) (omega arith) (omega arith))
    ∙ get_or-set_other t i k a 0 (λ e. h 0 (omega arith) (omega arith))

drop-sets : (w t : List ℕ) (i : ℕ) → i + length w ≤ length t → drop i (sets t i w) ≡ w ++ drop (i + length w) t
drop-sets w t i h =
    ap (λ (l : List ℕ). drop i l) (sets-eq w t i h ∙ append_assoc (take i t) w (drop (i + length w) t))
    ∙ drop_at (take i t) (w ++ drop (i + length w) t) i (length-take-le i t (omega arith))

zeros : (n i : ℕ) → ◌≡◌ {A = ℕ} (get_or (replicate n 0) i 0) 0
zeros zero i = refl
zeros (suc n) zero = refl
zeros (suc n) (suc i) = zeros n i

-- ---- a kind of set

-- `last` is the highest id; `tests` say whether words hold a set, `of` which; `words` are a set's words
pub record Kind (S F : Type 0) : Type 0 where
  pub width : ℕ
  pub last : ℕ
  pub there : S → F
  pub absent : F
  pub tests : List ℕ → List Bool
  pub of : List ℕ → S
  pub words : S → List ℕ
  pub fits : S → Bool
  -- an entry is its own words, and no others
  pub same : Local width (entry_by tests (λ w. there (of w)) absent)
  pub sized : (s : S) → length (words s) ≡ width
  -- a set's words hold the set
  pub passes : (s : S) → fits s ≡ true → all (tests (words s)) ≡ true
  pub back : (s : S) → fits s ≡ true → of (words s) ≡ s
  -- words that hold a set have the mark, and the set is within the ranges
  pub tested : (w : List ℕ) → all (tests w) ≡ true → (1 ≤ get_or w 0 0) × (fits (of w) ≡ true)
  -- what is there is that set alone
  pub one : (r s : S) → there r ≡ there s → r ≡ s
  pub apart : (s : S) → absent ≡ there s → ⊥

module _ {S F : Type 0} (K : Kind S F) where
  abbrev pub entry_in : List ℕ → F
  entry_in = entry_by K.tests (λ w. K.there (K.of w)) K.absent

  abbrev pub look_in : List ℕ → ℕ → F
  look_in = look K.width K.last entry_in K.absent

  abbrev pub put_in : List ℕ → ℕ → S → Put
  put_in t id s = put_words (leb id K.last && K.fits s) t (id * K.width) (K.words s)

  entry-back : (s : S) → K.fits s ≡ true → entry_in (K.words s) ≡ K.there s
  entry-back s g = rw (K.passes s g) (ap K.there (K.back s g))

  entry-within : (w : List ℕ) (s : S) → entry_in w ≡ K.there s → K.fits s ≡ true
  entry-within w s = by (all (K.tests w)) refl
    where
      by : (b : Bool) → all (K.tests w) ≡ b → pick b (K.there (K.of w)) K.absent ≡ K.there s → K.fits s ≡ true
      by true e h = ap K.fits (sym (K.one _ _ h)) ∙ (K.tested w e).1
      by false e h = absurd (K.apart s h)

  entry-blank : (w : List ℕ) → get_or w 0 0 ≡ 0 → entry_in w ≡ K.absent
  entry-blank w z = by (all (K.tests w)) refl
    where
      by : (b : Bool) → all (K.tests w) ≡ b → pick b (K.there (K.of w)) K.absent ≡ K.absent
      by true e = absurd (omega (arith, (K.tested w e).0))
      by false e = refl

  -- the array has an entry for each id
  abbrev pub Whole : List ℕ → Type 0
  Whole t = length t ≡ suc K.last * K.width

  pub put-length : (t : List ℕ) (id : ℕ) (s : S) → length (put_in t id s).left ≡ length t
  put-length t id s = by (leb id K.last && K.fits s)
    where
      by : (b : Bool) → length (put_words b t (id * K.width) (K.words s)).left ≡ length t
      by true = length-sets t (id * K.width) (K.words s)
      by false = refl

  -- the named entry holds the new set
  pub put-there : (t : List ℕ) (id : ℕ) (s : S) → Whole t → id ≤ K.last → K.fits s ≡ true → look_in (put_in t id s).left id ≡ K.there s
  put-there t id s h k g =
      let room : id * K.width + length (K.words s) ≤ length t =
      omega (arith, K.sized s, suc-mul id K.width, mul-le-mul_right {m = suc id} {n = suc K.last} K.width (omega arith)) in
      ap (λ (p : Put). look_in p.left id) (put-done K.last id (K.fits s) t (id * K.width) (K.words s) k g)
      ∙ rw (le-leb id K.last k, drop-sets (K.words s) t (id * K.width) room)
      (K.same (K.words s ++ drop (id * K.width + length (K.words s)) t) (K.words s)
      (λ i l. get_or-append (K.words s) (drop (id * K.width + length (K.words s)) t) 0 i (omega (arith, K.sized s)))
      ∙ entry-back s g)

  -- each other entry is as before, word by word
  sets-other : (t : List ℕ) (id j : ℕ) (s : S) → (j ≡ id → ⊥) → (i : ℕ) → i < K.width → get_or (sets t (id * K.width) (K.words s)) (j * K.width + i) 0 ≡ get_or t (j * K.width + i) 0
  sets-other t id j s h i l =
      get_d-sets-other (K.words s) t (id * K.width) (j * K.width + i)
      (λ m u e. h (sym (digits_div j l) ∙ ap (λ (x : ℕ). x / K.width) e ∙ digits_div id (omega (arith, K.sized s))))

  pub put-words-other : (t : List ℕ) (id j : ℕ) (s : S) → (j ≡ id → ⊥) → (i : ℕ) → i < K.width → get_or (put_in t id s).left (j * K.width + i) 0 ≡ get_or t (j * K.width + i) 0
  put-words-other t id j s h i l = by (leb id K.last && K.fits s)
    where
      by : (b : Bool) → get_or (put_words b t (id * K.width) (K.words s)).left (j * K.width + i) 0 ≡ get_or t (j * K.width + i) 0
      by true = sets-other t id j s h i l
      by false = refl

  -- an entry is what its words say
  pub look-same : (t u : List ℕ) (j : ℕ) → ((i : ℕ) → i < K.width → get_or t (j * K.width + i) 0 ≡ get_or u (j * K.width + i) 0) → look_in t j ≡ look_in u j
  look-same t u j h =
      ap (λ (f : F). pick (leb j K.last) f K.absent)
      (K.same _ _ (λ i l. get_or-drop (j * K.width) t i 0 ∙ h i l ∙ sym (get_or-drop (j * K.width) u i 0)))

  pub put_other : (t : List ℕ) (id j : ℕ) (s : S) → (j ≡ id → ⊥) → look_in (put_in t id s).left j ≡ look_in t j
  put_other t id j s h = look-same _ t j (put-words-other t id j s h)

  pub put-answer : (t : List ℕ) (id : ℕ) (s : S) → id ≤ K.last → K.fits s ≡ true → (put_in t id s).answer ≡ Ok tt
  put-answer t id s k g = ap (λ (p : Put). p.answer) (put-done K.last id (K.fits s) t (id * K.width) (K.words s) k g)

  -- a put that is refused changes nothing
  pub put_refused : (t : List ℕ) (id : ℕ) (s : S) → leb id K.last && K.fits s ≡ false → put_in t id s ≡ refused t
  put_refused t id s h = rw h

  pub found_within : (t : List ℕ) (id : ℕ) (s : S) → look_in t id ≡ K.there s → (id ≤ K.last) × (K.fits s ≡ true)
  found_within t id s = by (leb id K.last) refl
    where
      by : (b : Bool) → leb id K.last ≡ b → pick b (entry_in (drop (id * K.width) t)) K.absent ≡ K.there s → (id ≤ K.last) × (K.fits s ≡ true)
      by true e h = (leb-true id K.last e, entry-within _ s h)
      by false e h = absurd (K.apart s h)

  -- an array of zeros holds nothing
  pub empty-absent : (n id : ℕ) → look_in (replicate n 0) id ≡ K.absent
  empty-absent n id = by (leb id K.last)
    where
      by : (b : Bool) → pick b (entry_in (drop (id * K.width) (replicate n 0))) K.absent ≡ K.absent
      by true = entry-blank _ (get_or-drop (id * K.width) (replicate n 0) 0 0 ∙ zeros n (id * K.width + 0))
      by false = refl

  -- ---- entries that hold nothing are all zero

  abbrev pub Blank : List ℕ → Type 0
  Blank t = (id : ℕ) → id ≤ K.last → look_in t id ≡ K.absent → (i : ℕ) → i < K.width → get_or t (id * K.width + i) 0 ≡ 0

  pub empty-blank : (n : ℕ) → Blank (replicate n 0)
  empty-blank n id h e i l = zeros n (id * K.width + i)

  pub put-blank : (t : List ℕ) (id : ℕ) (s : S) → Whole t → Blank t → Blank (put_in t id s).left
  put-blank t id s z h = by (leb id K.last) (K.fits s) refl refl
    where
      one : (j : ℕ) → Dec (j ≡ id) → id ≤ K.last → K.fits s ≡ true → j ≤ K.last → look_in (put_in t id s).left j ≡ K.absent → (i : ℕ) → i < K.width
          → get_or (put_in t id s).left (j * K.width + i) 0 ≡ 0
      one j (yes e) k g m a i l =
          absurd (K.apart s (sym a ∙ ap (λ (x : ℕ). look_in (put_in t id s).left x) e ∙ put-there t id s z k g))
      one j (no e) k g m a i l = put-words-other t id j s e i l ∙ h j m (sym (put_other t id j s e) ∙ a) i l

      by : (a b : Bool) → leb id K.last ≡ a → K.fits s ≡ b → Blank (put_in t id s).left
      by true true ea eb = λ j m a i l. one j (is-it j id) (leb-true id K.last ea) eb m a i l
      by true false ea eb = let e : leb id K.last && K.fits s ≡ false = rw (ea, eb) in rw (put_refused t id s e) h
      by false b ea eb = let e : leb id K.last && K.fits s ≡ false = rw ea in rw (put_refused t id s e) h
