use native.Mathlib.Omega.{arith}
use mathlib.Core.Path.{◌≡◌, ap, ◌∙◌}
use Prim.Native.Nat.{ℕ}
use mathlib.Core.Bool.{Bool}
use lib.ListN.{drop}
use Rattle.bits.specs.Refusals.{pick}
use Rattle.bits.specs.Bits.{bytes_bits}
use Rattle.escape.specs.Body.{body}
use Rattle.syntax.specs.SliceHeader.{any_set}
use Rattle.cut.specs.Seam.{behind_bits, far}
use Rattle.cut.proofs.Firsts.{first-few, far-more, far-short}
use borrow.Author.Rules.{rules}
use Rattle.cut.proofs.part.far_body.Goals as goal

pub returns-then-n-le-FAR : goal.returns-then-n-le-FAR
returns-then-n-le-FAR c = rw (← far-short c.args.unit.now c.args.from c.if-n-le-FAR.true) c.first_bytes.ensures

pub any_kept-requires : goal.any_kept-requires
any_kept-requires c = c.zeros_before.ensures.1

pub bounds-local-k : goal.bounds-local-k
bounds-local-k c = let l = first-few c.args.unit.now c.args.from far in let e = c.first_bytes-k.ensures.value in search rules

pub overflow_add-result : goal.overflow_add-result
overflow_add-result c = let l = first-few c.args.unit.now c.args.from far in let e = c.first_bytes-k.ensures.value in search rules

pub returns : goal.returns
returns c =
    let u = c.args.unit.now in
    let f = c.args.from in
    let b : c.any_kept.result ≡ any_set (behind_bits u f far) = c.any_kept.ensures ∙ ap (λ (z : ℕ). any_set (bytes_bits (body z (drop far u)))) c.zeros_before.ensures.0 in
    let e : c.set_byte.result ≡ pick (any_set (behind_bits u f far)) 1 0 = c.set_byte.ensures ∙ ap (λ (t : Bool). pick t 1 0) b in
    let m = far-more u f c.args.local.now (omega arith) (search rules) c.first_bytes-k.ensures.value c.first_bytes-k.ensures.local_after e in
    record { value = m.0; local_after = m.1 }
