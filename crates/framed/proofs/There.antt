-- There and back: the units are the same, in the same order, as lists of their bytes.
use mathlib.Core.Path.{◌≡◌, refl, sym, ap, ◌∙◌}
use mathlib.Core.List.{List, [], ◌∷◌}
use mathlib.Core.Bool.{Bool, true, false}
use mathlib.Core.Logic.{◌⊎◌, inl, inr}
use native.Mathlib.Decide.{dec_le}
use lib.IntN.{pos}
use Rattle.bits.specs.declared.refusals.Refusal.{Refusal}
use Rattle.framed.proofs.Cases.{lengths-over, lengths-puts}
use Prim.Native.Nat.{ℕ, ◌+◌, ◌≤◌}
use native.Mathlib.Omega.{arith}
use lib.Dec.{leb, ltb}
use borrow.Author.Tests.{leb-true, ltb-false}
use lib.ListN.{length, take}
use Rattle.bits.specs.Refusals.{pick, refusal, too_large, buffer_too_short, limit}
use Rattle.escape.specs.Body.{start_with}
use Rattle.escape.proofs.Bodies.{front}
use Rattle.walk.specs.Units.{Span, units}
use Rattle.framed.specs.Framed.{framed_units, end_of, broken_length}
use Rattle.framed.specs.Convert.{carried, not_carried, first_uncarried, start_code, length_bytes, joined, bytes_of, ConvertOut, refuses, puts, unless_at, carries, to_start_codes, to_lengths}
use Rattle.framed.proofs.Frames.{end-within}
use Rattle.framed.proofs.Marks.{plain, AllPlain, codes-found}
use Rattle.framed.proofs.Lengths.{Bytes, lengths-found, lengths-end, whole}
use Rattle.std.specs.Prelude.{Ok, Err, Option, Some, None}

-- a recording that converts: the first n bytes of the output are the result
pub record Done (o : ConvertOut) (result : List ℕ) : Type 0 where
  pub small : length result ≤ limit
  pub front : take (length result) o.left ≡ result

-- ---- what it says that a converter answered a length

all_plain : (us : List Span) → first_uncarried us ≡ None → AllPlain (bytes_of us)
all_plain [] e = tt
all_plain (u ∷ us) e = go (carried u.read) refl (all_plain us) e
  where
    go : (t : Bool) → carried u.read ≡ t → (first_uncarried us ≡ None → AllPlain (bytes_of us)) → pick t (first_uncarried us) (Some u.place) ≡ None → AllPlain (u.read ∷ bytes_of us)
    go true f ih e = (plain u.read f, ih e)
    go false f ih e = let z : ◌≡◌ {A = ℕ} 0 1 = cc in absurd (omega arith)

module _ {n : ℕ} where
  refused : (number value : ℕ) (out : List ℕ) → (refuses number value out).answer ≡ Ok n → ⊥
  refused number value out e = let z : ◌≡◌ {A = ℕ} 0 1 = cc in omega arith

  puts_of : (result out : List ℕ) → (puts result out).answer ≡ Ok n → (n ≡ length result) × Done (puts result out) result
  puts_of result out = go (leb (length result) limit) refl (leb (length result) (length out))
    where
      go : (s : Bool) → leb (length result) limit ≡ s → (t : Bool)
          → (pick s (pick t (record { answer = Ok (length result); left = start_with result out }) (refuses buffer_too_short (length result) out)) (refuses too_large 0 out)).answer ≡ Ok n
          → (n ≡ length result)
          × Done (pick s (pick t (record { answer = Ok (length result); left = start_with result out }) (refuses buffer_too_short (length result) out)) (refuses too_large 0 out)) result
      go true f true e = let q : length result ≡ n = cc in (sym q, record { small = leb-true (length result) limit f; front = front result out })
      go true f false e = absurd (refused buffer_too_short (length result) out e)
      go false f t e = absurd (refused too_large 0 out e)

  carries-of : (before : ℕ → List ℕ) (us : List Span) (out : List ℕ) → (carries before us out).answer ≡ Ok n
      → (first_uncarried us ≡ None) × (n ≡ length (joined before (bytes_of us))) × Done (carries before us out) (joined before (bytes_of us))
  carries-of before us out = go (first_uncarried us)
    where
      go : (f : Option ℕ) → (unless_at f (puts (joined before (bytes_of us)) out) out).answer ≡ Ok n
          → (f ≡ None) × (n ≡ length (joined before (bytes_of us))) × Done (unless_at f (puts (joined before (bytes_of us)) out) out) (joined before (bytes_of us))
      go (Some p) e = absurd (refused not_carried p out e)
      go None e = let p = puts_of (joined before (bytes_of us)) out e in (refl, p.0, p.1)

-- what a converter refuses for its result
puts-refuses : (result out : List ℕ) {r : Refusal} → (puts result out).answer ≡ Err r → (r.number ≡ too_large) ⊎ (r.number ≡ buffer_too_short)
puts-refuses result out {r} = go (leb (length result) limit) (leb (length result) (length out))
  where
    go : (s t : Bool)
        → (pick s (pick t (record { answer = Ok (length result); left = start_with result out }) (refuses buffer_too_short (length result) out)) (refuses too_large 0 out)).answer ≡ Err r
        → (r.number ≡ too_large) ⊎ (r.number ≡ buffer_too_short)
    go true true e = let z : ◌≡◌ {A = ℕ} 0 1 = cc in absurd (omega arith)
    go true false e = let q : refusal buffer_too_short (pos (length result)) ≡ r = cc in inr (sym (ap (λ (x : Refusal). x.number) q))
    go false t e = let q : refusal too_large (pos 0) ≡ r = cc in inl (sym (ap (λ (x : Refusal). x.number) q))

-- ---- from lengths

-- the recording has no broken length, all units are carried, and the result is these units behind start codes
pub record FromLengths (s : List ℕ) (n : ℕ) (o : ConvertOut) : Type 0 where
  pub within : length s ≤ limit
  pub ends : end_of 0 (framed_units s) ≡ length s
  pub all : first_uncarried (framed_units s) ≡ None
  pub size : n ≡ length (joined start_code (bytes_of (framed_units s)))
  pub done : Done o (joined start_code (bytes_of (framed_units s)))

pub from-lengths : (s out : List ℕ) {n : ℕ} → (to_start_codes s out).answer ≡ Ok n → FromLengths s n (to_start_codes s out)
unfolding to_start_codes
from-lengths s out {n} = go (leb (length s) limit) refl (ltb (end_of 0 (framed_units s)) (length s)) refl
  where
    go : (a : Bool) → leb (length s) limit ≡ a → (b : Bool) → ltb (end_of 0 (framed_units s)) (length s) ≡ b
        → (pick a (pick b (refuses broken_length (end_of 0 (framed_units s)) out) (carries start_code (framed_units s) out)) (refuses too_large 0 out)).answer ≡ Ok n
        → FromLengths s n (pick a (pick b (refuses broken_length (end_of 0 (framed_units s)) out) (carries start_code (framed_units s) out)) (refuses too_large 0 out))
    go true w true f e = absurd (refused broken_length (end_of 0 (framed_units s)) out e)
    go true l false f e =
        let c = carries-of start_code (framed_units s) out e in
        let w : end_of (0 + 0) (framed_units s) ≤ 0 + length s = end-within 0 0 s (omega arith) in
        let g : length s ≤ end_of 0 (framed_units s) = ltb-false (end_of 0 (framed_units s)) (length s) f in
        record { within = leb-true (length s) limit l; ends = omega arith; all = c.0; size = c.1; done = c.2 }
    go false l b f e = absurd (refused too_large 0 out e)

-- the units of the result, by start codes, are those of the recording, by length
pub codes_same : (s out : List ℕ) {n : ℕ} → (to_start_codes s out).answer ≡ Ok n → bytes_of (units (take n (to_start_codes s out).left)) ≡ bytes_of (framed_units s)
codes_same s out e =
    let f = from-lengths s out e in
    rw (f.size, f.done.front) (codes-found 0 (bytes_of (framed_units s)) (all_plain (framed_units s) f.all))

-- ---- from start codes

pub record FromCodes (s : List ℕ) (n : ℕ) (o : ConvertOut) : Type 0 where
  pub within : length s ≤ limit
  pub size : n ≡ length (joined length_bytes (bytes_of (units s)))
  pub done : Done o (joined length_bytes (bytes_of (units s)))

pub from-codes : (s out : List ℕ) {n : ℕ} → (to_lengths s out).answer ≡ Ok n → FromCodes s n (to_lengths s out)
unfolding to_lengths
from-codes s out {n} = go (leb (length s) limit) refl
  where
    go : (a : Bool) → leb (length s) limit ≡ a → (pick a (carries length_bytes (units s) out) (refuses too_large 0 out)).answer ≡ Ok n
        → FromCodes s n (pick a (carries length_bytes (units s) out) (refuses too_large 0 out))
    go true l e = let c = carries-of length_bytes (units s) out e in record { within = leb-true (length s) limit l; size = c.1; done = c.2 }
    go false l e = absurd (refused too_large 0 out e)

-- 35 never: from start codes 27 and 26 are all that is refused
pub codes-refuse : (s out : List ℕ) {r : Refusal} → (to_lengths s out).answer ≡ Err r → (r.number ≡ too_large) ⊎ (r.number ≡ buffer_too_short)
codes-refuse s out {r} e = go (dec_le (length s) limit)
  where
    go : Dec (length s ≤ limit) → (r.number ≡ too_large) ⊎ (r.number ≡ buffer_too_short)
    go (yes h) = puts-refuses (joined length_bytes (bytes_of (units s))) out (ap (λ (o : ConvertOut). o.answer) (sym (lengths-puts s out h)) ∙ e)
    go (no h) =
        let a : Err (refusal too_large (pos 0)) ≡ Err r = ap (λ (o : ConvertOut). o.answer) (sym (lengths-over s out (omega arith))) ∙ e in
        let q : refusal too_large (pos 0) ≡ r = cc in
        inl (sym (ap (λ (x : Refusal). x.number) q))

-- the units of the result, by length, are those of the recording, by start codes; and no length is broken
pub lengths-same : (s out : List ℕ) {n : ℕ} → (to_lengths s out).answer ≡ Ok n → bytes_of (framed_units (take n (to_lengths s out).left)) ≡ bytes_of (units s)
lengths-same s out e =
    let f = from-codes s out e in
    let m : length (joined length_bytes (bytes_of (units s))) ≤ limit = f.done.small in
    rw (f.size, f.done.front) (lengths-found 0 (bytes_of (units s)) (omega arith))

pub lengths-whole : (s out : List ℕ) {n : ℕ} → (to_lengths s out).answer ≡ Ok n → end_of 0 (framed_units (take n (to_lengths s out).left)) ≡ n
lengths-whole s out e =
    let f = from-codes s out e in
    let m : length (joined length_bytes (bytes_of (units s))) ≤ limit = f.done.small in
    rw (f.size, f.done.front) (lengths-end 0 (bytes_of (units s)) (omega arith) ∙ omega arith)

-- ---- there and back

pub lengths-back : (s out out' : List ℕ) {n m : ℕ} → (to_start_codes s out).answer ≡ Ok n → (to_lengths (take n (to_start_codes s out).left) out').answer ≡ Ok m
    → bytes_of (framed_units (take m (to_lengths (take n (to_start_codes s out).left) out').left)) ≡ bytes_of (framed_units s)
lengths-back s out out' {n} e f = lengths-same (take n (to_start_codes s out).left) out' f ∙ codes_same s out e

pub codes-back : (s out out' : List ℕ) {n m : ℕ} → (to_lengths s out).answer ≡ Ok n → (to_start_codes (take n (to_lengths s out).left) out').answer ≡ Ok m
    → bytes_of (units (take m (to_start_codes (take n (to_lengths s out).left) out').left)) ≡ bytes_of (units s)
codes-back s out out' {n} e f = codes_same (take n (to_lengths s out).left) out' f ∙ lengths-same s out e

-- from lengths and back it is the same recording, byte for byte
pub lengths-again : (s out out' : List ℕ) {n m : ℕ} → Bytes s → (to_start_codes s out).answer ≡ Ok n → (to_lengths (take n (to_start_codes s out).left) out').answer ≡ Ok m
    → take m (to_lengths (take n (to_start_codes s out).left) out').left ≡ s
lengths-again s out out' {n} {m} w e f =
    let g = from-codes (take n (to_start_codes s out).left) out' f in
    let t : take m (to_lengths (take n (to_start_codes s out).left) out').left ≡ joined length_bytes (bytes_of (units (take n (to_start_codes s out).left))) = rw g.size g.done.front in
    t ∙ ap (joined length_bytes) (codes_same s out e) ∙ sym (whole s w (from-lengths s out e).ends)
