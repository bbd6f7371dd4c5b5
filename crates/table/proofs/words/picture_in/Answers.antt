use mathlib.Core.Path.{◌≡◌, ap, sym, ◌∙◌}
use mathlib.Core.Bool.{Bool, ◌&&◌}
use mathlib.Core.List.{List}
use Prim.Native.Nat.{ℕ, ◌*◌}
use native.Mathlib.Omega.{arith}
use lib.Dec.{leb, lit≤}
use lib.IntN.{ℤ, pos, ◌-ℤ◌}
use lib.ListN.{get_or}
use mir.Facts.{to_z-of_z}
use mir.Syntax.{w32}
use mir.Val.{SFits, to_z, of_z}
use Rattle.table.specs.Sets.{between, picture_fits}
use Rattle.table.specs.declared.sets.Picture.{Picture}
use Rattle.table.specs.Tables.{found_picture, width_in, picture_of}
use Rattle.table.proofs.Tests.{refuted, held}
use Rattle.table.proofs.Looking.{entry_at, made_picture, made, picture-past, picture-none, picture-there, plausible, Plausible, picture-unmade, picture-made}
use borrow.Author.Rules.{rules}
use Rattle.table.proofs.words.picture_in.Goals as goal

pub returns-then-id-gt255 : goal.returns-then-id-gt255
returns-then-id-gt255 c = sym (picture-past _ _ c.if-id-gt255.true)

-- the tests that stand first, on the entry's words
told : (w : List ℕ) {a b c d : Bool} → d ≡ a && c → a ≡ between 32 63 (get_or w 0 0) → c ≡ leb (get_or w 5 0) 87 && b → b ≡ leb (get_or w 6 0) 51 && leb (width_in w) 25 → d ≡ plausible w
told w e f g h = rw (e, f, g, h)

-- the set as the code makes it
is_made : (w : List ℕ) {qp qs : ℤ} → SFits w32 qp → SFits w32 qs → qp ≡ pos (get_or w 5 0) -ℤ pos 62 → qs ≡ pos (get_or w 6 0) -ℤ pos 26
    → made_picture w (to_z w32 (of_z w32 qp)) (to_z w32 (of_z w32 qs)) ≡ picture_of w
is_made w f g p q = made w _ _ (to_z-of_z f ∙ p) (to_z-of_z g ∙ q)

pub returns-then-not-both : goal.returns-then-not-both
returns-then-not-both c =
    sym
    (picture-none _ _ c.if-id-gt255.false
    (picture-unmade (entry_at c.args.t.now (c.args.id * 9) 8) (refuted (told (entry_at c.args.t.now (c.args.id * 9) 8) c.both-3.ensures c.within.ensures c.both-2.ensures c.both.ensures) c.if-not-both.true)))

pub lowered-requires : goal.lowered-requires
lowered-requires c =
    let w = entry_at c.args.t.now (c.args.id * 9) 8 in
    let e : Plausible w = picture-made w (held (told w c.both-3.ensures c.within.ensures c.both-2.ensures c.both.ensures) c.if-not-both.false) in
    (e.qp, lit≤ tt)

pub lowered-requires-2 : goal.lowered-requires-2
lowered-requires-2 c =
    let w = entry_at c.args.t.now (c.args.id * 9) 8 in
    let e : Plausible w = picture-made w (held (told w c.both-3.ensures c.within.ensures c.both-2.ensures c.both.ensures) c.if-not-both.false) in
    (omega arith, lit≤ tt)

pub returns-then-picture_fits : goal.returns-then-picture_fits
returns-then-picture_fits c =
    let w = entry_at c.args.t.now (c.args.id * 9) 8 in
    let e : Plausible w = picture-made w (held (told w c.both-3.ensures c.within.ensures c.both-2.ensures c.both.ensures) c.if-not-both.false) in
    let qp : SFits w32 c.lowered.result = search rules in
    let qs : SFits w32 c.lowered-2.result = search rules in
    let m = is_made w qp qs c.lowered.ensures c.lowered-2.ensures in
    ap (λ (p : Picture). (found_picture p (width_in w))) m
    ∙ sym (picture-there _ _ c.if-id-gt255.false (e.rest ∙ ap picture_fits (sym m) ∙ sym c.picture_fits.ensures ∙ c.if-picture_fits.true))

pub returns-else-picture_fits : goal.returns-else-picture_fits
returns-else-picture_fits c =
    let w = entry_at c.args.t.now (c.args.id * 9) 8 in
    let e : Plausible w = picture-made w (held (told w c.both-3.ensures c.within.ensures c.both-2.ensures c.both.ensures) c.if-not-both.false) in
    let qp : SFits w32 c.lowered.result = search rules in
    let qs : SFits w32 c.lowered-2.result = search rules in
    let m = is_made w qp qs c.lowered.ensures c.lowered-2.ensures in
    sym (picture-none _ _ c.if-id-gt255.false (e.rest ∙ ap picture_fits (sym m) ∙ sym c.picture_fits.ensures ∙ c.if-picture_fits.false))
