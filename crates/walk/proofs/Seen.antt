-- What the search of the walk sees beside a unit: how far no 00 00 03 begins.
use mathlib.Core.Path.{◌≡◌, sym, ap, ◌∙◌}
use mathlib.Core.List.{List}
use mathlib.Core.Bool.{false≢true}
use Prim.Native.Nat.{ℕ, ◌+◌, ◌-◌, ◌≤◌, ◌<◌}
use native.Mathlib.Omega.{arith}
use lib.ListN.{length, get_or, take, drop, length-drop, length-take}
use lib.Seq.{get_or-take}
use Rattle.scan.specs.Scan.{upto}
use Rattle.scan.proofs.Hits.{upto_le, upto_before}
use Rattle.scan.proofs.Clears.{hit-wider}
use Rattle.escape.proofs.Runs.{Esc, NoEsc, esc-room, esc-hit}
use Rattle.table.specs.declared.table.Table.{Table}
use Rattle.unit.specs.declared.into.ShortAnswer.{ShortAnswer}
use Rattle.unit.specs.Unit.{unit_read}
use Rattle.unit.specs.Known.{unit_known}
use Rattle.unit.specs.Into.{Lent}
use Rattle.unit.proofs.Known.{known_same}
use Rattle.std.specs.Prelude.{Option, Some, None}
use Rattle.walk.specs.declared.search.Span.{Span}
use Rattle.walk.specs.declared.search.Seen.{Seen}
use Rattle.walk.specs.Walk.{unit_at, next_unit}
use Rattle.walk.specs.Seen.{clear_in, next_seen}
use Rattle.walk.specs.WalkedInto.{Turned}
use Rattle.walk.proofs.Steps.{turned_as}

-- ---- the search

pub stop-room : (s : List ℕ) (place stop : ℕ) → place ≤ length s → stop ≡ place + upto 0 3 (drop place s) → stop ≤ length s
stop-room s place stop h e = omega (arith, upto_le 0 3 (drop place s), length-drop place s)

seen_as : (s : List ℕ) (from : ℕ) {f : Option Span} → f ≡ next_unit s from → ◌≡◌ {A = Seen} (record { found = f; clear = clear_in s f }) (next_seen s from)
seen_as s from e = λ i. record { found = e i; clear = clear_in s (e i) }

pub seen_none : (s : List ℕ) (from : ℕ) → None ≡ next_unit s from → ◌≡◌ {A = Seen} (record { found = None; clear = 0 }) (next_seen s from)
seen_none s from e = seen_as s from e

pub seen-there : (s : List ℕ) (from at stop : ℕ) → stop ≡ at + 3 + upto 0 3 (drop (at + 3) s) → {u : Span} → u ≡ unit_at s at → Some (unit_at s at) ≡ next_unit s from
    → ◌≡◌ {A = Seen} (record { found = Some u; clear = stop - (at + 3) }) (next_seen s from)
unfolding unit_at
seen-there s from at stop e {u} p q =
    let c : stop - (at + 3) ≡ clear_in s (Some u) = (let k : stop - (at + 3) ≡ upto 0 3 (drop (at + 3) s) = omega arith in k ∙ ap (λ (f : Span). upto 0 3 (drop f.place s)) (sym p)) in
    (λ i. record { found = Some u; clear = c i }) ∙ seen_as s from (ap Some p ∙ q)

-- what is taken out of it
module _ (s : List ℕ) (from : ℕ) {r : Seen} (is : r ≡ next_seen s from) where
  pub found_in : {f : Option Span} → r.found ≡ f → next_unit s from ≡ f
  found_in e = sym (λ i. (is i).found) ∙ e

  pub clear_in_lem : {u : Span} → next_unit s from ≡ Some u → r.clear ≡ upto 0 3 (drop u.place s)
  clear_in_lem e = (λ i. (is i).clear) ∙ ap (clear_in s) e

-- ---- the unit

-- the unit of l bytes at p
module _ (s : List ℕ) (p l : ℕ) where
  seen-clear : NoEsc (take l (drop p s)) 0 (upto 0 3 (drop p s))
  seen-clear j a b e =
      let x : List ℕ = drop p s in
      let r : j + 2 < length (take l x) = esc-room e in
      let h : j + 2 < l = omega (arith, length-take l x) in
      let part : (i : ℕ) → i < l → get_or (take l x) i 0 ≡ get_or x i 0 = λ i g. get_or-take l x i 0 g in
      let k : Esc x j = record { one = sym (part j (omega arith)) ∙ e.one; two = sym (part (j + 1) (omega arith)) ∙ e.two; three = sym (part (j + 2) h) ∙ e.three } in
      false≢true (sym (upto_before 0 3 x j b) ∙ hit-wider 3 3 x j (esc-hit x j k) 0 3 (omega arith) (omega arith))

  -- is read as any
  pub seen_turned : {t : Table} {c : List ℕ} {a : ShortAnswer} {left : List ℕ} {t' : Table} {b w : Lent} {k : ℕ} → k ≡ upto 0 3 (drop p s)
      → Turned (unit_known k) t (take l (drop p s)) c a left t' b w → Turned unit_read t (take l (drop p s)) c a left t' b w
  seen_turned {t} {c} q h = turned_as (known_same _ (take l (drop p s)) c (rw q seen-clear) t) h
