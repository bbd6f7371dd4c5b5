-- Demand 3 for exposures: of lists that end in S, behind whatever stands before it, the exposures that begin in S are those of S alone, but for what looks back.
use Prim.Native.Nat.{ℕ, ◌-◌, ◌≤◌}
use mathlib.Core.Path.{◌≡◌, refl, sym, ap, ◌∙◌}
use mathlib.Core.Bool.{Bool, true, false, not, ◌&&◌, ◌||◌, or_comm, false≢true}
use mathlib.Core.List.{List, [], ◌∷◌, ◌++◌, map, append-nil}
use native.Mathlib.Omega.{arith}
use lib.ListN.{length, take, drop, length-append}
use lib.Seq.{take-append-le, drop-append-add}
use Rattle.bits.specs.Refusals.{pick}
use Rattle.bits.proofs.Results.{cases}
use Rattle.exposures.specs.declared.slice.Slice.{Slice}
use Rattle.exposures.specs.declared.slice.Item.{Item}
use Rattle.exposures.specs.declared.exposure.Exposure.{Exposure}
use Rattle.exposures.specs.Compare.{differ, gap_after}
use Rattle.exposures.specs.Exposure.{exposure_of}
use Rattle.exposures.specs.Pictures.{Picture, last_of, last_in, cut, refused_in, gap_to, exposures_from, exposures}
use Rattle.exposures.specs.Take.{State, start, finish_of, said, run, state_after}
use Rattle.exposures.specs.Torn.{joins, goes_on, begun_in, no_refused, own}
use Rattle.exposures.proofs.Grouped.{slices_in_all, pictures-partition}
use Rattle.exposures.proofs.Runs.{grown, onto, along, from_start, taken-exposures}
use Rattle.exposures.proofs.Moved.{drop-map}
use Rattle.exposures.proofs.Came.{same-frame, Came, none, some, came, closed_in, run-append}
use Rattle.std.specs.Prelude.{Option, Some, None}

-- ---- what begins in S

said-short : (c : Option Exposure) → length (said c) ≤ 1
said-short None = omega arith
said-short (Some e) = omega arith

begun-by : (X S : List Item) → begun_in X S ≡ drop (length (said (finish_of (state_after start X)))) (run (state_after start X) S)
begun-by X S =
    let st = state_after start X in
    let whole : exposures (X ++ S) ≡ closed_in start X ++ run st S = sym (taken-exposures (X ++ S)) ∙ run-append start X S in
    let own : exposures X ≡ closed_in start X ++ said (finish_of st) = sym (taken-exposures X) ∙ sym (ap (run start) (append-nil X)) ∙ run-append start X [] in
    rw (whole, own, length-append (closed_in start X) (said (finish_of st)), drop-append-add (closed_in start X) (run st S) (length (said (finish_of st))))

-- 1 where the first picture of S goes on with one of X, which is then not among those that begin in S
abbrev pub before : Bool → ℕ
before b = pick b 1 0

-- the gap before the second of pictures
abbrev gap_inside : List Picture → Bool
gap_inside [] = false
gap_inside (p ∷ ps) = gap_to p ps

pub record Begun (X S : List Item) : Type 0 where
  pub gap : Bool
  pub refused : ℕ
  pub is : begun_in X S ≡ exposures_from gap refused (drop (before (goes_on X S)) (cut S).pictures)
  pub looks : goes_on X S ≡ true → gap ≡ gap_inside (cut S).pictures

-- behind a last picture p
module _ (p : Picture) (frame : p.first.frame_num ≡ (last_in p).frame_num) where
  gap_by : (q : Picture) (qs : List Picture) → differ (last_in p) q.first ≡ false → (l : List Item) → gap_to (grown p l) qs ≡ gap_to q qs
  gap_by q [] h l = refl
  gap_by q (r ∷ rs) h l = ap (λ (n : ℕ). gap_after n r.first) (frame ∙ same-frame (last_in p) q.first h)

-- what is begun behind p, with l before the first of the pictures ps: b tells whether that goes on with p
record Rest (gap₀ : Bool) (before₀ : ℕ) (p : Picture) (l : List Item) (ps : List Picture) (b : Bool) : Type 0 where
  gap : Bool
  refused : ℕ
  is : drop 1 (exposures_from gap₀ before₀ (onto p l ps)) ≡ exposures_from gap refused (drop (before b) ps)
  looks : b ≡ true → gap ≡ gap_inside ps

rest : (gap₀ : Bool) (before₀ : ℕ) (p : Picture) → p.first.frame_num ≡ (last_in p).frame_num → (l : List Item) (a : Slice) (r : List Slice) → last_of a r ≡ last_in p
    → (ps : List Picture) → Rest gap₀ before₀ p l ps (joins (a ∷ r) (slices_in_all ps))
rest gap₀ before₀ p frame l a r last [] = record { gap = false; refused = 0; is = refl; looks = λ t. absurd (false≢true t) }
rest gap₀ before₀ p frame l a r last (q ∷ qs) = rw last (cases (differ (last_in p) q.first) apart together)
  where
    apart : differ (last_in p) q.first ≡ true → Rest gap₀ before₀ p l (q ∷ qs) (not (differ (last_in p) q.first))
    apart h =
        record {
          gap = gap_after p.first.frame_num q.first;
          refused = refused_in (p.behind ++ l);
          is = rw h;
          looks = λ t. absurd (false≢true (rw h at t));
        }

    together : differ (last_in p) q.first ≡ false → Rest gap₀ before₀ p l (q ∷ qs) (not (differ (last_in p) q.first))
    together h =
        record {
          gap = gap_to (grown p (l ++ Item.Slice q.first ∷ q.behind)) qs;
          refused = refused_in (p.behind ++ (l ++ Item.Slice q.first ∷ q.behind));
          is = rw h;
          looks = λ t. gap_by p frame q qs h (l ++ Item.Slice q.first ∷ q.behind);
        }

begun : (X S : List Item) → Begun X S
unfolding finish_of
begun X S = go (came X)
  where
    go : Came X (state_after start X) → Begun X S
    go (none c e h) =
        record {
          gap = false;
          refused = refused_in (X ++ (cut S).lead);
          is = rw e (begun-by X S ∙ ap (λ (st : State). drop (length (said (finish_of st))) (run st S)) h ∙ from_start X c S);
          looks = rw e (λ (t : false ≡ true). absurd (false≢true t));
        }
    go (some gap n p c a r e last frame h) =
        let w = rest gap n p frame (cut S).lead a r last (cut S).pictures in
        record {
          gap = w.gap;
          refused = w.refused;
          is = rw (e, ← pictures-partition S) (begun-by X S ∙ ap (λ (st : State). drop (length (said (finish_of st))) (run st S)) h ∙ ap (drop 1) (along gap n p c S) ∙ w.is);
          looks = rw (e, ← pictures-partition S) w.looks;
        }

-- ---- exposures of the same pictures

tail-alike : (g h : Bool) (m n : ℕ) (ps : List Picture) → drop 1 (exposures_from g m ps) ≡ drop 1 (exposures_from h n ps)
tail-alike g h m n [] = refl
tail-alike g h m n (p ∷ ps) = refl

own-alike : (g h : Bool) (m n : ℕ) (ps : List Picture) → map own (exposures_from g m ps) ≡ map own (exposures_from h n ps)
unfolding exposure_of
own-alike g h m n [] = refl
own-alike g h m n (p ∷ ps) = refl

refused-alike : (g : Bool) (m n : ℕ) (ps : List Picture) → map no_refused (exposures_from g m ps) ≡ map no_refused (exposures_from g n ps)
unfolding exposure_of
refused-alike g m n [] = refl
refused-alike g m n (p ∷ ps) = refl

refused_inside : ℕ → List Picture → ℕ
refused_inside n [] = n
refused_inside n (p ∷ ps) = refused_in p.behind

drop-inside : (b g : Bool) (n : ℕ) (ps : List Picture)
    → drop (before b) (exposures_from g n ps) ≡ exposures_from (pick b (gap_inside ps) g) (pick b (refused_inside n ps) n) (drop (before b) ps)
unfolding refused_inside
drop-inside true g n [] = refl
drop-inside true g n (p ∷ ps) = refl
drop-inside false g n ps = refl

-- ---- demand 3

module _ (X S : List Item) where
  inside : drop (before (goes_on X S)) (exposures S)
      ≡ exposures_from (pick (goes_on X S) (gap_inside (cut S).pictures) false) (pick (goes_on X S) (refused_inside (refused_in (cut S).lead) (cut S).pictures) (refused_in (cut S).lead))
      (drop (before (goes_on X S)) (cut S).pictures)
  unfolding exposures
  inside = drop-inside (goes_on X S) false (refused_in (cut S).lead) (cut S).pictures

  -- the exposures that begin in S are those of S alone, but the first of them; without the first of S where that goes on with a picture of X
  pub torn-late : drop 1 (begun_in X S) ≡ drop 1 (drop (before (goes_on X S)) (exposures S))
  torn-late = let w = begun X S in ap (drop 1) w.is ∙ tail-alike _ _ _ _ (drop (before (goes_on X S)) (cut S).pictures) ∙ sym (ap (drop 1) inside)

  -- and the first of them too has its own place, slices, QPs and frame_num
  pub torn-first : map own (begun_in X S) ≡ map own (drop (before (goes_on X S)) (exposures S))
  torn-first = let w = begun X S in ap (map own) w.is ∙ own-alike _ _ _ _ (drop (before (goes_on X S)) (cut S).pictures) ∙ sym (ap (map own) inside)

  -- where the first picture of S goes on with one of X, the next has its own gap too: slices that are alike have the same frame_num. Refused units before it may be more: they
  -- are counted from the first slice of the picture before, which is in X
  pub torn-gap : goes_on X S ≡ true → map no_refused (begun_in X S) ≡ map no_refused (drop (before (goes_on X S)) (exposures S))
  torn-gap t =
      let w = begun X S in
      ap (map no_refused) w.is ∙ ap (λ (g : Bool). map no_refused (exposures_from g w.refused (drop (before (goes_on X S)) (cut S).pictures))) (w.looks t ∙ sym (rw t))
      ∙ refused-alike _ _ _ (drop (before (goes_on X S)) (cut S).pictures) ∙ sym (ap (map no_refused) inside)

  -- the exposures of X, but the last, are there whatever follows
  pub torn-early : take (length (exposures X) - 1) (exposures (X ++ S)) ≡ take (length (exposures X) - 1) (exposures X)
  torn-early =
      let st = state_after start X in
      let whole : exposures (X ++ S) ≡ closed_in start X ++ run st S = sym (taken-exposures (X ++ S)) ∙ run-append start X S in
      let alone : exposures X ≡ closed_in start X ++ said (finish_of st) = sym (taken-exposures X) ∙ sym (ap (run start) (append-nil X)) ∙ run-append start X [] in
      let n : length (exposures X) - 1 ≤ length (closed_in start X) = rw (alone, length-append (closed_in start X) (said (finish_of st))) (omega (arith, said-short (finish_of st))) in
      ap (take (length (exposures X) - 1)) whole ∙ take-append-le (length (exposures X) - 1) (closed_in start X) (run st S) n
      ∙ sym (ap (take (length (exposures X) - 1)) alone ∙ take-append-le (length (exposures X) - 1) (closed_in start X) (said (finish_of st)) n)

-- for lists X and Y before S: all exposures that begin in S but the first are the same, where the first picture of S goes on with one of theirs in both or in neither
pub torn-alike : (X Y S : List Item) → goes_on X S ≡ goes_on Y S → drop 1 (begun_in X S) ≡ drop 1 (begun_in Y S)
torn-alike X Y S e = torn-late X S ∙ ap (λ (b : Bool). drop 1 (drop (before b) (exposures S))) e ∙ sym (torn-late Y S)

-- ---- whether it does or not

-- of the exposures that begin in S here, those that begin in S there too: without the first, where the first picture of S goes on there and not here
abbrev pub shared : (here there : Bool) → List Exposure → List Exposure
shared here there es = drop (before (there && not here)) es

behind-first : (here there : Bool) (es fs : List Exposure) → drop 1 es ≡ drop 1 (drop (before here) fs) → drop 1 (shared here there es) ≡ drop 1 (drop (before (here || there)) fs)
behind-first true true es fs h = h
behind-first true false es fs h = h
behind-first false true es fs h = ap (drop 1) h
behind-first false false es fs h = h

with_first : (f : Exposure → Exposure) (here there : Bool) (es fs : List Exposure) → map f es ≡ map f (drop (before here) fs)
    → map f (shared here there es) ≡ map f (drop (before (here || there)) fs)
with_first f true true es fs h = h
with_first f true false es fs h = h
with_first f false true es fs h = drop-map f 1 es ∙ ap (drop 1) h ∙ sym (drop-map f 1 fs)
with_first f false false es fs h = h

module _ (X Y S : List Item) where
  either : (goes_on X S || goes_on Y S) ≡ (goes_on Y S || goes_on X S)
  either = or_comm (goes_on X S) (goes_on Y S)

  -- all but the first are the same
  pub torn-both : drop 1 (shared (goes_on X S) (goes_on Y S) (begun_in X S)) ≡ drop 1 (shared (goes_on Y S) (goes_on X S) (begun_in Y S))
  torn-both =
      behind-first (goes_on X S) (goes_on Y S) (begun_in X S) (exposures S) (torn-late X S) ∙ ap (λ (b : Bool). drop 1 (drop (before b) (exposures S))) either
      ∙ sym (behind-first (goes_on Y S) (goes_on X S) (begun_in Y S) (exposures S) (torn-late Y S))

  -- the first of them too but for what looks back
  pub torn-both-first : map own (shared (goes_on X S) (goes_on Y S) (begun_in X S)) ≡ map own (shared (goes_on Y S) (goes_on X S) (begun_in Y S))
  torn-both-first =
      with_first own (goes_on X S) (goes_on Y S) (begun_in X S) (exposures S) (torn-first X S) ∙ ap (λ (b : Bool). map own (drop (before b) (exposures S))) either
      ∙ sym (with_first own (goes_on Y S) (goes_on X S) (begun_in Y S) (exposures S) (torn-first Y S))

  -- where the first picture of S goes on in one of them, only refused units look back
  pub torn-both-gap : (goes_on X S || goes_on Y S) ≡ true
      → map no_refused (shared (goes_on X S) (goes_on Y S) (begun_in X S)) ≡ map no_refused (shared (goes_on Y S) (goes_on X S) (begun_in Y S))
  torn-both-gap h =
      one X (goes_on X S) refl (goes_on Y S) h ∙ sym (one Y (goes_on Y S) refl (goes_on X S) (sym either ∙ h))
    where
      one : (Z : List Item) (here : Bool) → goes_on Z S ≡ here → (there : Bool) → (here || there) ≡ true → map no_refused (shared here there (begun_in Z S)) ≡ map no_refused (drop 1 (exposures S))
      one Z true e true k = torn-gap Z S e ∙ ap (λ (b : Bool). map no_refused (drop (before b) (exposures S))) e
      one Z true e false k = torn-gap Z S e ∙ ap (λ (b : Bool). map no_refused (drop (before b) (exposures S))) e
      one Z false e true k = ap (map no_refused) (torn-late Z S ∙ ap (λ (b : Bool). drop 1 (drop (before b) (exposures S))) e)
      one Z false e false k = absurd (false≢true k)
