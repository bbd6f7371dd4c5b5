use native.Mathlib.Omega.{arith}
use Rattle.lines.specs.Kinds.{extension_text}
use Rattle.lines.proofs.Texts.{then}
use Rattle.lines.proofs.kinds.extension_words.Goals as goal

pub returns : goal.returns
unfolding extension_text
returns c =
    let n = rw (c.is_svc-svc.ensures, c.from_bytes.ensures) at c.extension_name-a.ensures.0 in
    (then (then (then n c.hex-b.ensures) c.hex-c.ensures) c.hex.ensures, omega arith)
