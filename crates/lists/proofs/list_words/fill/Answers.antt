use Rattle.std.proofs.lemmas.Result.{err_from_is_err_and}
use Rattle.bits.specs.Bits.{bits_of}
use Rattle.lists.proofs.Reading.{started, no_code, ended, too_many, no-first, no_second, turned}
use Rattle.lists.proofs.list_words.fill.Goals as goal

pub loop-code-init : goal.loop-code-init
loop-code-init c = let g = c.args in started g.kind (bits_of g.s.now) g.c.at g.words.now

pub returns-in_err-code : goal.returns-in_err-code
returns-in_err-code c =
    let g = c.args in
    let a = c.loop-code.invariant in
    let t = c.tested in
    let p = err_from_is_err_and c.from_residual.result c.from_residual.ensures.1 in
    let told = no_code g.kind (bits_of g.s.now) g.c.at g.words.now a t.result t.ensures _ c.in_err-code.was in
    rw (p.1, p.2) (record { value = told.0; words_after = told.1 })

pub returns-then-count-ge66 : goal.returns-then-count-ge66
returns-then-count-ge66 c =
    let g = c.args in
    let a = c.loop-code.invariant in
    let t = c.tested in
    let v = c.in_ok-code in
    let z = c.if-code-kind.false in
    let told = too_many g.kind (bits_of g.s.now) g.c.at g.words.now a t.result t.ensures v.code v.c1 v.was z c.if-count-ge66.true _ c.refuse_at.ensures in
    record { value = told.0; words_after = told.1 }

pub returns-in_err-x : goal.returns-in_err-x
returns-in_err-x c =
    let g = c.args in
    let a = c.loop-code.invariant in
    let t = c.tested in
    let v = c.in_ok-code in
    let z = c.if-code-kind.false in
    let m = c.if-count-ge66.false in
    let f = c.has_first in
    let x = c.given in
    let p = err_from_is_err_and c.from_residual-in_err-x.result c.from_residual-in_err-x.ensures.1 in
    let told = no-first g.kind (bits_of g.s.now) g.c.at g.words.now a t.result t.ensures v.code v.c1 v.was z m f.result f.ensures x.result x.ensures _ c.in_err-x.was in
    rw (p.1, p.2) (record { value = told.0; words_after = told.1 })

pub returns-in_err-y : goal.returns-in_err-y
returns-in_err-y c =
    let g = c.args in
    let a = c.loop-code.invariant in
    let t = c.tested in
    let v = c.in_ok-code in
    let z = c.if-code-kind.false in
    let m = c.if-count-ge66.false in
    let f = c.has_first in
    let x = c.given in
    let u = c.in_ok-x in
    let h = c.has_second in
    let y = c.given-in-loop-code in
    let p = err_from_is_err_and c.from_residual-in_err-y.result c.from_residual-in_err-y.ensures.1 in
    let told = no_second g.kind (bits_of g.s.now) g.c.at g.words.now a t.result t.ensures v.code v.c1 v.was z m f.result f.ensures x.result x.ensures u.x u.c2 u.was h.result h.ensures y.result y.ensures _ c.in_err-y.was in
    rw (p.1, p.2) (record { value = told.0; words_after = told.1 })

pub loop-code-preserved : goal.loop-code-preserved
loop-code-preserved c =
    let g = c.args in
    let l = c.loop-code.invariant in
    let t = c.tested in
    let v = c.in_ok-code in
    let z = c.if-code-kind.false in
    let m = c.if-count-ge66.false in
    let f = c.has_first in
    let x = c.given in
    let u = c.in_ok-x in
    let h = c.has_second in
    let y = c.given-in-loop-code in
    let w = c.in_ok-y in
    turned g.kind (bits_of g.s.now) g.c.at g.words.now l t.result t.ensures v.code v.c1 v.was z m f.result f.ensures x.result x.ensures u.x u.c2 u.was h.result h.ensures y.result y.ensures w.y w.c3 w.was

pub returns : goal.returns
returns c =
    let g = c.args in
    let l = c.loop-code.invariant in
    let t = c.tested in
    let v = c.in_ok-code in
    let told = ended g.kind (bits_of g.s.now) g.c.at g.words.now l t.result t.ensures v.code v.c1 v.was c.if-code-kind.true in
    record { value = told.0; words_after = told.1 }
