-- The walk by length: its reports are those of the recording's units, and where a broken length ends it. Of any reading, by the law over a list of units that the walk by start codes cites too.
use mathlib.Core.Path.{◌≡◌, refl, sym, ap, ◌∙◌}
use mathlib.Core.List.{List, [], ◌∷◌, ◌++◌}
use mathlib.Core.Bool.{Bool, true, false}
use Prim.Native.Nat.{ℕ, zero, suc, ◌+◌, ◌≤◌}
use native.Mathlib.Omega.{arith}
use native.Mathlib.Nat.{zero-add}
use lib.Dec.{leb, ltb}
use lib.IntN.{pos}
use lib.ListN.{length, drop, length-take}
use Rattle.bits.specs.Refusals.{pick, refusal, limit}
use Rattle.table.specs.declared.table.Table.{Table}
use Rattle.unit.specs.Unit.{unit_read}
use Rattle.walk.specs.declared.walk.Step.{Step}
use Rattle.front.specs.Front.{unit_front}
use Rattle.walk.specs.Walked.{Reading, stepped, walk_by}
use Rattle.walk.specs.Reports.{reports_by, reports_in, reports_of}
use Rattle.walk.proofs.State.{run}
use Rattle.walk.proofs.Reports.{Fair, Meets, chain-all, answer, step, of-run}
use Rattle.walk.proofs.Demand.{read-fair, Short}
use Rattle.walk.proofs.HeadersAlone.{front-fair, reads_all}
use Rattle.framed.specs.Framed.{four, span_by, framed_at, framed_units, end_of, ends_by, broken_length, step_to, next_framed}
use Rattle.framed.specs.Walked.{walked_framed, framed_reports, walked_framed_headers, framed_headers_reports}
use Rattle.framed.proofs.Frames.{short-at}
use Rattle.framed.proofs.Steps.{stays, went, stopped}
use Rattle.framed.proofs.Damage.{kept-with}

-- the walk's step
pub framed_at_lem : (t : Table) (s : List ℕ) (from : ℕ) (scratch : List ℕ) {k : Step} → next_framed s from ≡ k → walked_framed t s from scratch ≡ stepped unit_read t s scratch k
unfolding walked_framed
framed_at_lem t s from scratch e = ap (stepped unit_read t s scratch) e

pub framed-headers-at : (t : Table) (s : List ℕ) (from : ℕ) (scratch : List ℕ) {k : Step} → next_framed s from ≡ k → walked_framed_headers t s from scratch ≡ stepped unit_front t s scratch k
unfolding walked_framed_headers
framed-headers-at t s from scratch e = ap (stepped unit_front t s scratch) e

-- the steps meet the units of the recording
framed-met : (s : List ℕ) → length s ≤ limit → Meets s (next_framed s) (λ from. framed_at 0 from (drop from s))
framed-met s small =
    record {
      on = λ from p l n e. let w = went s from small e in (omega arith, w.there);
      ended = λ from e. stopped s from small (sym e) (λ p l m q. cc);
      stopped = λ from r e. stopped s from small (sym e) (λ p l m q. cc);
      past = λ from h. short-at s from (omega arith);
    }

-- ---- any reading

module _ (R : Reading) (fair : Fair R) where
  -- asked as often as the recording has bytes, or more often
  pub all-framed : (more : ℕ) (t : Table) (scratch s : List ℕ) → length s ≤ limit → reports_by (walk_by R next_framed) (more + length s) s t 0 scratch ≡ reports_of R t scratch (framed_units s)
  all-framed more t scratch s h = chain-all R fair next_framed s (λ from. framed_at 0 from (drop from s)) (framed-met s h) more t scratch

  pub complete : (t : Table) (scratch s : List ℕ) → length s ≤ limit → reports_in (walk_by R next_framed) t scratch s ≡ reports_of R t scratch (framed_units s)
  complete t scratch s h = rw zero-add at (all-framed 0 t scratch s h)

  all-run : (t : Table) (scratch s : List ℕ) → length s ≤ limit → reports_in (walk_by R next_framed) t scratch s ≡ run (step R scratch) (answer R scratch) t (framed_units s)
  all-run t scratch s h = complete t scratch s h ∙ of-run R t scratch (framed_units s)

  -- the reports of units that end within P are those of P alone, whatever stands behind it
  pub early : (t : Table) (scratch P X : List ℕ) → length (P ++ X) ≤ limit → length P ≤ limit
      → ends_by (length P) (reports_in (walk_by R next_framed) t scratch (P ++ X)) ≡ reports_in (walk_by R next_framed) t scratch P
  early t scratch P X h l =
      ap (ends_by (length P)) (all-run t scratch (P ++ X) h) ∙ kept-with (step R scratch) (answer R scratch) t P X ∙ sym (all-run t scratch P l)

-- ---- the walk

-- each report is that of reading its unit by the table that those before it left; there is one for each unit, in order, and no other
pub framed-complete : (t : Table) (scratch s : List ℕ) → length s ≤ limit → framed_reports t scratch s ≡ reports_of unit_read t scratch (framed_units s)
unfolding walked_framed
framed-complete = complete unit_read read-fair

pub framed-no-more : (more : ℕ) (t : Table) (scratch s : List ℕ) → length s ≤ limit → reports_by walked_framed (more + length s) s t 0 scratch ≡ framed_reports t scratch s
unfolding walked_framed
framed-no-more more t scratch s h = all-framed unit_read read-fair more t scratch s h ∙ sym (complete unit_read read-fair t scratch s h)

pub framed-early : (t : Table) (scratch P X : List ℕ) → length (P ++ X) ≤ limit → length P ≤ limit → ends_by (length P) (framed_reports t scratch (P ++ X)) ≡ framed_reports t scratch P
unfolding walked_framed
framed-early = early unit_read read-fair

-- ---- the walk that reads headers alone

pub framed-headers-complete : (t : Table) (s : List ℕ) → length s ≤ limit → framed_headers_reports t s ≡ reports_of unit_front t [] (framed_units s)
unfolding walked_framed_headers
framed-headers-complete t s = complete unit_front front-fair t [] s

pub framed-headers-no-more : (more : ℕ) (t : Table) (s : List ℕ) → length s ≤ limit → reports_by walked_framed_headers (more + length s) s t 0 [] ≡ framed_headers_reports t s
unfolding walked_framed_headers
framed-headers-no-more more t s h = all-framed unit_front front-fair more t [] s h ∙ sym (complete unit_front front-fair t [] s h)

pub framed-headers-early : (t : Table) (P X : List ℕ) → length (P ++ X) ≤ limit → length P ≤ limit → ends_by (length P) (framed_headers_reports t (P ++ X)) ≡ framed_headers_reports t P
unfolding walked_framed_headers
framed-headers-early t P X = early unit_front front-fair t [] P X

-- no unit has more bytes than the recording
short-framed : (k n m : ℕ) (l : List ℕ) → length l ≤ m → Short m (framed_at k n l)
short-framed (suc k) n m [] h = tt
short-framed (suc k) n m (a ∷ r) h = short-framed k (suc n) m r (omega arith)
short-framed zero n m [] h = tt
short-framed zero n m (a ∷ []) h = tt
short-framed zero n m (a ∷ b ∷ []) h = tt
short-framed zero n m (a ∷ b ∷ c ∷ []) h = tt
short-framed zero n m (a ∷ b ∷ c ∷ d ∷ r) h = go (leb (four a b c d) (length r)) (short-framed (four a b c d) (n + 4) m r (omega arith))
  where
    go : (t : Bool) → Short m (framed_at (four a b c d) (n + 4) r) → Short m (pick t (span_by (n + 4) (four a b c d) r ∷ framed_at (four a b c d) (n + 4) r) [])
    go true ih = (simp length-take (omega arith), ih)
    go false ih = tt

-- it reports what the walk does with room for every unit
pub framed-headers-same : (t : Table) (d s : List ℕ) → length s ≤ limit → length s ≤ length d → framed_headers_reports t s ≡ framed_reports t d s
framed-headers-same t d s small l =
    framed-headers-complete t s small ∙ reads_all t (length s) [] d (framed_units s) (short-framed 0 0 (length s) s (omega arith)) l ∙ sym (framed-complete t d s small)

-- ---- where it ends

module _ (s : List ℕ) (small : length s ≤ limit) where
  abbrev end_from : ℕ → ℕ
  end_from from = end_of from (framed_at 0 from (drop from s))

  -- where the units end, none begins
  none_left : (f from : ℕ) → length s ≤ f + from → framed_at 0 (end_from from) (drop (end_from from) s) ≡ []
  none_left zero from h =
      let e : framed_at 0 from (drop from s) ≡ [] = short-at s from (omega arith) in
      rw e e
  none_left (suc f) from h = go (next_framed s from) refl (none_left f)
    where
      here : framed_at 0 from (drop from s) ≡ [] → framed_at 0 (end_from from) (drop (end_from from) s) ≡ []
      here e = rw e e

      go : (k : Step) → next_framed s from ≡ k → ((n : ℕ) → length s ≤ f + n → framed_at 0 (end_from n) (drop (end_from n) s) ≡ []) → framed_at 0 (end_from from) (drop (end_from from) s) ≡ []
      go Step.End e ih = here (stopped s from small (sym e) (λ p l m q. cc))
      go (Step.Refused r) e ih = here (stopped s from small (sym e) (λ p l m q. cc))
      go (Step.Unit p l m) e ih =
          let w = went s from small e in
          let q : end_from from ≡ end_from m = ap (end_of from) w.there in
          rw q (ih m (omega arith))

  -- asked from there, the walk says the end, or 29 where bytes are left: a broken length ends it
  pub framed-end : next_framed s (end_of 0 (framed_units s)) ≡ pick (ltb (end_of 0 (framed_units s)) (length s)) (Step.Refused (refusal broken_length (pos (end_of 0 (framed_units s))))) Step.End
  framed-end =
      let e = end_of 0 (framed_units s) in
      sym (stays s e small) ∙ ap (step_to e (length s)) (none_left (length s) 0 (omega arith))
