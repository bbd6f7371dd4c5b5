-- The walk that reads headers alone reports what the walk does, and needs no scratch for it.
use mathlib.Core.Path.{◌≡◌, refl, ap, sym, ◌∙◌}
use mathlib.Core.List.{List, [], ◌∷◌, Memᴰ}
use Prim.Native.Nat.{ℕ, zero, suc, ◌+◌, ◌≤◌, ◌<◌}
use native.Mathlib.Omega.{arith}
use borrow.Author.Tests.{leb-true, leb-false}
use lib.Dec.{leb, eqb}
use lib.ListN.{length, drop}
use Rattle.bits.specs.Refusals.{pick, limit}
use Rattle.bits.proofs.Results.{cases}
use Rattle.table.specs.declared.table.Table.{Table}
use Rattle.unit.specs.declared.answer.UnitRead.{UnitRead}
use Rattle.unit.specs.Unit.{unit_read}
use Rattle.front.specs.Front.{unit_front}
use Rattle.front.proofs.Units.{front-left, front-alike, front-whole}
use Rattle.walk.specs.declared.walk.Step.{Step}
use Rattle.walk.specs.Walk.{hit}
use Rattle.walk.specs.Units.{Report, Span, units}
use Rattle.walk.specs.Walked.{next_step, nothing, Reading, stepped, walk_by, walked}
use Rattle.walk.specs.Reports.{and_on, reports_by, reports, reports_of, sift}
use Rattle.walk.specs.Headers.{walked_headers, headers_reports}
use Rattle.walk.proofs.Steps.{step-over}
use Rattle.walk.proofs.Reports.{Fair, step}
use Rattle.walk.proofs.Demand.{complete, once, no_more, read-fair, Short, short-units}
use Rattle.walk.proofs.Within.{Inside, steps-within, next-within}

pub front-fair : Fair unit_front
front-fair = record { keeps = λ t u c. ap length (front-left t u c); alike = λ t u c d e. front-alike t u c d }

-- ---- a list of units: d has room for any

pub reads_all : (t : Table) (m : ℕ) (c d : List ℕ) (us : List Span) → Short m us → m ≤ length d → reports_of unit_front t c us ≡ reports_of unit_read t d us
reads_all t m c d [] k l = refl
reads_all t m c d (u ∷ us) k l =
    let w = k.0 in
    rw (front-whole t u.read c d (omega arith), reads_all (step unit_read d t u.read) m c d us k.1 l)

-- ---- a recording

-- over the limit there are no reports
over_none : (R : Reading) (f : ℕ) (s : List ℕ) (t : Table) (from : ℕ) (c : List ℕ) → limit < length s → reports_by (walk_by R next_step) f s t from c ≡ []
unfolding nothing
over_none R zero s t from c h = refl
over_none R (suc f) s t from c h = ap (λ (k : Step). and_on (stepped R t s c k) (reports_by (walk_by R next_step) f s)) (sym (step-over s from h))

-- d is the walk's scratch, which has room for every unit
pub headers-same : (t : Table) (d s : List ℕ) → length s ≤ length d → headers_reports t s ≡ reports t d s
unfolding walked_headers walked
headers-same t d s l =
    cases (leb (length s) limit)
    (λ e.
    let small : length s ≤ limit = leb-true (length s) limit e in
    complete unit_front front-fair t [] s small ∙ reads_all t (length s) [] d (units s) (short-units 0 (length s) s (omega arith)) l ∙ sym (complete unit_read read-fair t d s small))
    (λ e.
    let over : limit < length s = leb-false (length s) limit e in
    over_none unit_front (length s) s t 0 [] over ∙ sym (over_none unit_read (length s) s t 0 d over))

-- ---- its units

pub headers-complete : (t : Table) (s : List ℕ) → length s ≤ limit → headers_reports t s ≡ reports_of unit_front t [] (units s)
unfolding walked_headers
headers-complete t s = complete unit_front front-fair t [] s

pub headers-once : (t : Table) (s : List ℕ) → length s ≤ limit → (i : ℕ) → length (sift (λ (r : Report UnitRead). eqb r.place (i + 3)) (headers_reports t s)) ≡ pick (hit 1 (drop i s)) 1 0
unfolding walked_headers
headers-once t s = once unit_front front-fair t [] s

pub headers-no-more : (more : ℕ) (t : Table) (s : List ℕ) → length s ≤ limit → reports_by walked_headers (more + length s) s t 0 [] ≡ headers_reports t s
unfolding walked_headers
headers-no-more more t s = no_more unit_front front-fair more t [] s

pub headers-within : (s : List ℕ) (u : Report UnitRead) (t : Table) → Memᴰ u (headers_reports t s) → Inside s u
unfolding walked_headers
headers-within s u t = steps-within unit_front next_step s (next-within s) u (length s) t 0 []
