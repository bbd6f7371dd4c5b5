use Rattle.std.proofs.lemmas.Result.{err_from_is_err_and}
use Rattle.bits.specs.Bits.{bits_of}
use Rattle.lists.proofs.Prefixed.{store-refused, adaptive-refused, marking-refused, more-refused, prefix-read}
use Rattle.lists.proofs.list_words.prefix_into.Goals as goal

pub returns-in_err-store : goal.returns-in_err-store
returns-in_err-store c =
    let g = c.args in
    let p = err_from_is_err_and c.from_residual.result c.from_residual.ensures.1 in
    let all = store-refused g.kind (bits_of g.s.now) g.c.at c.clear_list.ensures c.flag_if.ensures c.in_err-store.was in
    rw (p.1, p.2) (record { value = all.0; words_after = all.1 })

pub returns-in_err-adaptive : goal.returns-in_err-adaptive
returns-in_err-adaptive c =
    let g = c.args in
    let p = err_from_is_err_and c.from_residual-in_err-adaptive.result c.from_residual-in_err-adaptive.ensures.1 in
    let all = adaptive-refused g.kind (bits_of g.s.now) g.c.at c.clear_list.ensures c.flag_if.ensures c.in_ok-store.was c.has_base_marking.ensures c.flag_if-2.ensures c.in_err-adaptive.was in
    rw (p.1, p.2) (record { value = all.0; words_after = all.1 })

pub returns-in_err-count : goal.returns-in_err-count
returns-in_err-count c =
    let g = c.args in
    let p = err_from_is_err_and c.from_residual-in_err-count.result c.from_residual-in_err-count.ensures.1 in
    let all = marking-refused g.kind (bits_of g.s.now) g.c.at c.clear_list.ensures c.flag_if.ensures c.in_ok-store.was c.has_base_marking.ensures c.flag_if-2.ensures c.in_ok-adaptive.was c.base_marking_kind.ensures c.operations_into.ensures.value c.operations_into.ensures.words_after c.in_err-count.was in
    rw (p.1, p.2) (record { value = all.0; words_after = all.1 })

pub returns-in_default : goal.returns-in_default
returns-in_default c =
    let g = c.args in
    let all = more-refused g.kind (bits_of g.s.now) g.c.at c.clear_list.ensures c.flag_if.ensures c.in_ok-store.was c.has_base_marking.ensures c.flag_if-2.ensures c.in_ok-adaptive.was c.base_marking_kind.ensures c.operations_into.ensures.value c.operations_into.ensures.words_after c.in_ok-count.was c.flag_if-a4.ensures c.in_default.is c.clear_list-in_default.ensures in
    rw (c.why.ensures, c.in_default.is) (record { value = all.0; words_after = all.1 })

pub returns : goal.returns
returns c =
    let g = c.args in
    let all = prefix-read g.kind (bits_of g.s.now) g.c.at c.clear_list.ensures c.flag_if.ensures c.in_ok-store.was c.has_base_marking.ensures c.flag_if-2.ensures c.in_ok-adaptive.was c.base_marking_kind.ensures c.operations_into.ensures.value c.operations_into.ensures.words_after c.in_ok-count.was c.flag_if-a4.ensures c.in-Ok.is in
    record { value = all.0; words_after = all.1 }
