use mathlib.Core.Path.{sym, ◌∙◌}
use Rattle.std.proofs.lemmas.Result.{err_from_is_err_and}
use Rattle.fmt.specs.Leaves.{ue}
use Rattle.weights.proofs.Stored.{list-taken, list-none, none, there-1, there-2, there-3, there-4, there-all}
use Rattle.weights.proofs.weight_words.weights_onto.Goals as goal

pub returns-then-not-is_weighted : goal.returns-then-not-is_weighted
returns-then-not-is_weighted c =
    let a = c.args in
    let all = none a.x a.slice_type _ _ _ _ _ _ (sym c.is_weighted.ensures ∙ c.if-not-is_weighted.true) in
    record { value = all.0; w0_after = all.1.0; w1_after = all.1.1 }

-- From here on the table is there, which is what h says.
pub returns-in_err-luma : goal.returns-in_err-luma
unfolding ue
returns-in_err-luma c =
    let h = sym c.is_weighted.ensures ∙ c.if-not-is_weighted.false in
    let p = err_from_is_err_and c.from_residual.result c.from_residual.ensures.1 in
    let all = there-1 _ _ _ _ _ _ _ _ h _ c.has_chroma-chroma.ensures (sym c.in_err-luma.ensures) in
    rw (p.1, p.2) (record { value = all.0; w0_after = all.1.0; w1_after = all.1.1 })

pub returns-in_err-m : goal.returns-in_err-m
unfolding ue
returns-in_err-m c =
    let h = sym c.is_weighted.ensures ∙ c.if-not-is_weighted.false in
    let p = err_from_is_err_and c.from_residual-in_err-m.result c.from_residual-in_err-m.ensures.1 in
    let all = there-2 _ _ _ _ _ _ _ _ h _ c.has_chroma-chroma.ensures (sym c.in_ok-luma.ensures) (sym c.in_err-m.ensures) in
    rw (p.1, p.2) (record { value = all.0; w0_after = all.1.0; w1_after = all.1.1 })

pub returns-in_err-k0 : goal.returns-in_err-k0
unfolding ue
returns-in_err-k0 c =
    let h = sym c.is_weighted.ensures ∙ c.if-not-is_weighted.false in
    let p = err_from_is_err_and c.from_residual-in_err-k0.result c.from_residual-in_err-k0.ensures.1 in
    let n = list-none c.list_into.ensures.value c.in_err-k0.was in
    let all = there-3 _ _ _ _ _ _ _ _ h _ c.has_chroma-chroma.ensures (sym c.in_ok-luma.ensures) (sym c.in_ok-m.ensures) c.list_into.ensures.words_after n in
    rw (p.1, p.2) (record { value = all.0; w0_after = all.1.0; w1_after = all.1.1 })

pub returns-in_err-k1 : goal.returns-in_err-k1
unfolding ue
returns-in_err-k1 c =
    let h = sym c.is_weighted.ensures ∙ c.if-not-is_weighted.false in
    let p = err_from_is_err_and c.from_residual-in_err-k1.result c.from_residual-in_err-k1.ensures.1 in
    let e = rw c.is_type.ensures at c.list_if.ensures in
    let l = list-taken c.list_into.ensures.value c.in_ok-k0.was in
    let n = list-none e.value c.in_err-k1.was in
    let all = there-4 _ _ _ _ _ _ _ _ h _ c.has_chroma-chroma.ensures (sym c.in_ok-luma.ensures) (sym c.in_ok-m.ensures) c.list_into.ensures.words_after l e.words_after n in
    rw (p.1, p.2) (record { value = all.0; w0_after = all.1.0; w1_after = all.1.1 })

pub returns : goal.returns
unfolding ue
returns c =
    let h = sym c.is_weighted.ensures ∙ c.if-not-is_weighted.false in
    let e = rw c.is_type.ensures at c.list_if.ensures in
    let l = list-taken c.list_into.ensures.value c.in_ok-k0.was in
    let all = there-all _ _ _ _ _ _ _ _ h _ c.has_chroma-chroma.ensures (sym c.in_ok-luma.ensures) (sym c.in_ok-m.ensures) c.list_into.ensures.words_after l e.words_after (list-taken e.value c.in_ok-k1.was) in
    record { value = all.0; w0_after = all.1.0; w1_after = all.1.1 }
