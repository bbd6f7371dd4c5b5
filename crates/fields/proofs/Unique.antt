-- What an answer of the code says determines it: so the contract of each read allows one answer only.
use mathlib.Core.Path.{◌≡◌, refl}
use Rattle.std.specs.Prelude.{Result, Ok, Err}
use Rattle.bits.specs.declared.read.Cursor.{Cursor}
use Rattle.bits.specs.declared.refusals.Refusal.{Refusal}
use Rattle.bits.specs.Refusals.{Res, got, no}
use Rattle.bits.proofs.Unique.{back_one}
use Rattle.fields.specs.Steps.{as_end}

-- the end alone; what stands beside it is said by the part's own contract
abbrev to_end : {A : Type 0} → Res A → Result Cursor Refusal
to_end (got a e) = Ok (record { at = e })
to_end (no r) = Err r

end_back : {A : Type 0} (a : A) (r : Result Cursor Refusal) → to_end (as_end r a) ≡ r
end_back a (Ok c) = refl
end_back a (Err r) = refl

pub end-one : {A : Type 0} (a : A) (r q : Result Cursor Refusal) → as_end r a ≡ as_end q a → r ≡ q
end-one a = back_one (λ r. as_end r a) to_end (end_back a)
