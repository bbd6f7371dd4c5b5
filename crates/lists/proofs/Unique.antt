-- A list's syntax determines the code's description of it: so the contract of each kind allows one answer only.
use mathlib.Core.Path.{◌≡◌, refl, sym, ap, ◌∙◌}
use mathlib.Core.Bool.{Bool, true, false}
use Rattle.bits.specs.Refusals.{pick}
use Rattle.syntax.specs.Lists.{Kind}
use Rattle.lists.specs.declared.operations.ListKind.{ListKind}
use Rattle.lists.specs.Kinds.{kind_of}

-- marking is told by code 3, which has a second operand there alone
abbrev to_kind : Kind → ListKind
to_kind k = record { closing = k.closing; greatest = k.greatest; number = k.number; marking = k.has_second 3 }

itself : (b : Bool) → pick b true false ≡ b
itself true = refl
itself false = refl

kind-back : (k : ListKind) → to_kind (kind_of k) ≡ k
kind-back k = ap (λ (b : Bool). record { closing = k.closing; greatest = k.greatest; number = k.number; marking = b }) (itself k.marking)

pub kind-one : (k l : ListKind) → kind_of k ≡ kind_of l → k ≡ l
kind-one k l e = sym (kind-back k) ∙ ap to_kind e ∙ kind-back l
