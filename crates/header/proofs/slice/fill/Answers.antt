use borrow.Author.Rules.{rules}
use mathlib.Core.Path.{refl, sym, ap, ◌∙◌}
use Rattle.bits.specs.Bits.{bits_of}
use Rattle.header.specs.Lead.{table_in}
use Rattle.header.specs.Short.{words_in}
use Rattle.header.proofs.Told.{front-got, front-refused, filled-no, filled-as, filled-over}
use Rattle.header.proofs.Parts.{lead-no, front-no, front_read, front-in}
use Rattle.header.proofs.Kept.{kept-front, each-front, kept-behind}
use Rattle.header.proofs.slice.fill.Goals as goal
use Rattle.bits.specs.Answers.{as_read}

pub returns-in_default : goal.returns-in_default
returns-in_default c =
    let a = c.args in
    let hl = sym c.lead-a1.ensures ∙ ap as_read c.in_default.is in
    record { filled = filled-no _ _ (lead-no (table_in a.sets) a.kind (bits_of a.s.now) hl) (rw (c.why.ensures, c.in_default.is)); kept = kept-front _ _ _ _; same = search rules }

pub returns-in_default-a2 : goal.returns-in_default-a2
returns-in_default-a2 c =
    let a = c.args in
    let hl = sym c.lead-a1.ensures ∙ ap as_read c.in-Ok.is in
    let hf = front-refused _ _ _ _ _ c.front-a2.ensures c.in_default-a2.is in
    record { filled = filled-no _ _ (front-no (table_in a.sets) a.kind (bits_of a.s.now) hl hf) (rw (c.why-in_default-a2.ensures, c.in_default-a2.is)); kept = kept-front _ _ _ _; same = search rules }

pub returns : goal.returns
returns c =
    let a = c.args in
    let t = table_in a.sets in
    let s = bits_of a.s.now in
    let hl = sym c.lead-a1.ensures ∙ ap as_read c.in-Ok.is in
    let lf = front-got _ _ _ _ _ c.front-a2.ensures c.in-Ok-a2.is in
    let i = front-in _ lf.value (words_in a.w.now) _ c.long_numbers.ensures c.long_signed.ensures c.lay_lead.ensures lf.holds.1.0 lf.holds.1.1 in record { filled = filled-as _ _ _ (front_read t a.kind s hl lf.read) (filled-over _ _ _ _ (λ h. refl) _ (each-front _ lf.value lf.holds.0 c.behind.ensures.each_front i)); kept = kept-behind t a.kind s hl lf.read _ _ _ (λ h. refl) (each-front _ lf.value lf.holds.0 c.behind.ensures.each_front_2); same = search rules }
