-- A walk over the units of either framing, in any state: what it says of them, places aside, goes by their bytes alone. So it says the same of a recording and of what it was converted to.
use mathlib.Core.Path.{◌≡◌, refl, sym, ap, ap₂, ◌∙◌}
use mathlib.Core.List.{List, [], ◌∷◌, map}
use mathlib.Core.Bool.{Bool, true, false}
use Prim.Native.Nat.{ℕ, zero, suc, ◌+◌, ◌≤◌}
use lib.Dec.{leb, ltb}
use borrow.Author.Tests.{leb-true}
use lib.ListN.{length, take, drop}
use lib.Seq.{length-take-le}
use Rattle.bits.specs.Refusals.{pick, limit}
use Rattle.table.specs.declared.table.Table.{Table}
use Rattle.unit.specs.declared.answer.UnitRead.{UnitRead}
use Rattle.unit.specs.Unit.{unit_read}
use Rattle.walk.specs.Walk.{hit, upto, kept, len_of}
use Rattle.walk.specs.Units.{Report, Span, span_of, units_at, units}
use Rattle.front.specs.Front.{unit_front}
use Rattle.walk.specs.Walked.{next_step, Reading, walk_by, walked}
use Rattle.walk.specs.Reports.{reports, reports_in, reports_of, table_by}
use Rattle.walk.specs.Headers.{walked_headers, headers_reports}
use Rattle.walk.proofs.Hits.{upto_le}
use Rattle.walk.proofs.Trims.{kept-le}
use Rattle.walk.proofs.State.{run, after}
use Rattle.walk.proofs.Reports.{Fair, answer, step, of-run, table-run}
use Rattle.walk.proofs.Demand as demand
use Rattle.walk.proofs.Demand.{read-fair}
use Rattle.walk.proofs.HeadersAlone.{front-fair}
use Rattle.framed.specs.Framed.{four, span_by, framed_at, framed_units, next_framed}
use Rattle.framed.specs.Walked.{walked_framed, framed_reports, walked_framed_headers, framed_headers_reports, aside}
use Rattle.framed.specs.Convert.{bytes_of, to_start_codes, to_lengths}
use Rattle.framed.proofs.There.{from-lengths, from-codes, codes_same, lengths-same}
use Rattle.framed.proofs.Walks.{complete}
use Rattle.std.specs.Prelude.{Ok}

-- ---- a unit's length is that of its bytes

abbrev Sized : List Span → Type 0
Sized [] = Unit {0}
Sized (u ∷ us) = (u.size ≡ length u.read) × Sized us

len-within : (b : List ℕ) → len_of b ≤ length b
unfolding len_of
len-within b = go (ltb (upto 0 b) (length b))
  where
    go : (t : Bool) → pick t (upto 0 b) (kept b) ≤ length b
    go true = upto_le 0 b
    go false = kept-le b

sized-units : (n : ℕ) (l : List ℕ) → Sized (units_at n l)
sized-units n [] = tt
sized-units n (a ∷ r) = go (hit 1 (a ∷ r)) (sized-units (suc n) r)
  where
    go : (t : Bool) → Sized (units_at (suc n) r) → Sized (pick t (span_of n (drop 2 r) ∷ units_at (suc n) r) (units_at (suc n) r))
    go true ih = (sym (length-take-le (len_of (drop 2 r)) (drop 2 r) (len-within (drop 2 r))), ih)
    go false ih = ih

sized-framed : (k n : ℕ) (l : List ℕ) → Sized (framed_at k n l)
sized-framed (suc k) n [] = tt
sized-framed (suc k) n (a ∷ r) = sized-framed k (suc n) r
sized-framed zero n [] = tt
sized-framed zero n (a ∷ []) = tt
sized-framed zero n (a ∷ b ∷ []) = tt
sized-framed zero n (a ∷ b ∷ c ∷ []) = tt
sized-framed zero n (a ∷ b ∷ c ∷ d ∷ r) = go (leb (four a b c d) (length r)) refl (sized-framed (four a b c d) (n + 4) r)
  where
    go : (t : Bool) → leb (four a b c d) (length r) ≡ t → Sized (framed_at (four a b c d) (n + 4) r) → Sized (pick t (span_by (n + 4) (four a b c d) r ∷ framed_at (four a b c d) (n + 4) r) [])
    go true e ih = (sym (length-take-le (four a b c d) r (leb-true (four a b c d) (length r) e)), ih)
    go false e ih = tt

-- so units with the same bytes are the same, places aside
abbrev bare : List ℕ → Span
bare b = record { place = 0; size = length b; next = 0; read = b }

bares : (us : List Span) → Sized us → map aside us ≡ map bare (bytes_of us)
bares [] z = refl
bares (u ∷ us) z = ap₂ (λ (n : ℕ) (vs : List Span). record { place = 0; size = n; next = 0; read = u.read } ∷ vs) z.0 (bares us z.1)

-- ---- what a walk says

module _ {T A : Type 0} (step : T → List ℕ → T) (answer : T → List ℕ → A) where
  said : (t : T) (us : List Span) → map aside (run step answer t us) ≡ run step answer t (map aside us)
  said t [] = refl
  said t (u ∷ us) = ap (λ (rs : List (Report A)). record { place = 0; size = u.size; next = 0; read = answer t u.read } ∷ rs) (said (step t u.read) us)

  left : (t : T) (us : List Span) → after step answer t us ≡ after step answer t (map aside us)
  left t [] = refl
  left t (u ∷ us) = left (step t u.read) us

  -- what is said of each unit, and the state that the walk ends in
  pub record Alike (t : T) (us vs : List Span) : Type 0 where
    pub same : map aside (run step answer t us) ≡ map aside (run step answer t vs)
    pub ends : after step answer t us ≡ after step answer t vs

  alike : (t : T) (us vs : List Span) → Sized us → Sized vs → bytes_of us ≡ bytes_of vs → Alike t us vs
  alike t us vs y z e =
      let q : map aside us ≡ map aside vs = bares us y ∙ ap (map bare) e ∙ sym (bares vs z) in
      record { same = said t us ∙ ap (run step answer t) q ∙ sym (said t vs); ends = left t us ∙ ap (after step answer t) q ∙ sym (left t vs) }

  -- of a recording framed by length, and of what it was converted to
  pub codes-alike : (t : T) (s out : List ℕ) {n : ℕ} → (to_start_codes s out).answer ≡ Ok n → Alike t (units (take n (to_start_codes s out).left)) (framed_units s)
  codes-alike t s out {n} e =
      let x = take n (to_start_codes s out).left in
      alike t (units x) (framed_units s) (sized-units 0 x) (sized-framed 0 0 s) (codes_same s out e)

  -- and the other way round
  pub lengths-alike : (t : T) (s out : List ℕ) {n : ℕ} → (to_lengths s out).answer ≡ Ok n → Alike t (framed_units (take n (to_lengths s out).left)) (units s)
  lengths-alike t s out {n} e =
      let x = take n (to_lengths s out).left in
      alike t (framed_units x) (units s) (sized-framed 0 0 x) (sized-units 0 s) (lengths-same s out e)

-- ---- of the walks themselves

-- two lists of reports are the same, places aside, and leave the same table
pub record Same (t : Table) (xs ys : List (Report UnitRead)) : Type 0 where
  pub said : map aside xs ≡ map aside ys
  pub table : table_by t xs ≡ table_by t ys

same_of : (R : Reading) (t : Table) (c : List ℕ) (us vs : List Span) → Alike (step R c) (answer R c) t us vs → Same t (reports_of R t c us) (reports_of R t c vs)
same_of R t c us vs a =
    rw (of-run R t c us, of-run R t c vs) (record { said = a.same; table = table-run R t c us ∙ a.ends ∙ sym (table-run R t c vs) })

module _ (R : Reading) (fair : Fair R) (t : Table) (c s out : List ℕ) {n : ℕ} where
  codes-by : (to_start_codes s out).answer ≡ Ok n → Same t (reports_in (walk_by R next_step) t c (take n (to_start_codes s out).left)) (reports_in (walk_by R next_framed) t c s)
  codes-by e =
      let f = from-lengths s out e in
      let x = take n (to_start_codes s out).left in
      let l : length (take n (to_start_codes s out).left) ≤ limit = rw (f.size, f.done.front) f.done.small in
      rw (demand.complete R fair t c x l, complete R fair t c s f.within) (same_of R t c (units x) (framed_units s) (codes-alike (step R c) (answer R c) t s out e))

  lengths-by : (to_lengths s out).answer ≡ Ok n → Same t (reports_in (walk_by R next_framed) t c (take n (to_lengths s out).left)) (reports_in (walk_by R next_step) t c s)
  lengths-by e =
      let f = from-codes s out e in
      let x = take n (to_lengths s out).left in
      let l : length (take n (to_lengths s out).left) ≤ limit = rw (f.size, f.done.front) f.done.small in
      rw (complete R fair t c x l, demand.complete R fair t c s f.within) (same_of R t c (framed_units x) (units s) (lengths-alike (step R c) (answer R c) t s out e))

module _ (t : Table) (c s out : List ℕ) {n : ℕ} where
  pub codes-walked : (to_start_codes s out).answer ≡ Ok n → Same t (reports t c (take n (to_start_codes s out).left)) (framed_reports t c s)
  unfolding walked walked_framed
  codes-walked = codes-by unit_read read-fair t c s out

  pub lengths-walked : (to_lengths s out).answer ≡ Ok n → Same t (framed_reports t c (take n (to_lengths s out).left)) (reports t c s)
  unfolding walked walked_framed
  lengths-walked = lengths-by unit_read read-fair t c s out

-- the walks that read headers alone
module _ (t : Table) (s out : List ℕ) {n : ℕ} where
  pub codes-headers : (to_start_codes s out).answer ≡ Ok n → Same t (headers_reports t (take n (to_start_codes s out).left)) (framed_headers_reports t s)
  unfolding walked_headers walked_framed_headers
  codes-headers = codes-by unit_front front-fair t [] s out

  pub lengths-headers : (to_lengths s out).answer ≡ Ok n → Same t (framed_headers_reports t (take n (to_lengths s out).left)) (headers_reports t s)
  unfolding walked_headers walked_framed_headers
  lengths-headers = lengths-by unit_front front-fair t [] s out
