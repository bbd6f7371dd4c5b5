-- The rules' refusals: the numbers that this crate, nal, escape and fmt give, what a refusal is, and what reading at a place gives.
use Rattle.std.specs.Prelude.{ℕ, Bool, true, false, ℤ}
use Rattle.bits.specs.declared.refusals.Refusal.{Refusal}

abbrev pub no_byte : ℕ
no_byte = 1

abbrev pub forbidden_zero_bit : ℕ
forbidden_zero_bit = 2

abbrev pub no_extension : ℕ
no_extension = 4

abbrev pub ran_out : ℕ
ran_out = 5

abbrev pub too_many_zeros : ℕ
too_many_zeros = 6

abbrev pub list_full : ℕ
list_full = 14

abbrev pub no_bits : ℕ
no_bits = 25

abbrev pub buffer_too_short : ℕ
buffer_too_short = 26

abbrev pub too_large : ℕ
too_large = 27

-- the size limit of a unit or a recording, in bytes
abbrev pub limit : ℕ
limit = 268435456

-- number and value of a refusal that does not arise in a body: it has no bit place
abbrev pub refusal : ℕ → ℤ → Refusal
refusal n v = record { number = n; value = v; has_bit = false; bit = 0 }

-- and of one that arises while a body is read: the bit place in it where the refused field begins
abbrev pub refusal_at : ℕ → ℤ → ℕ → Refusal
refusal_at n v at = record { number = n; value = v; has_bit = true; bit = at }

-- what reading at a place gives: a value and the place after it, or the refusal
pub data Res (A : Type 0) : Type 0 where
  got : A → ℕ → Res A
  no : Refusal → Res A

-- reading on after a value; a refusal is passed on
abbrev pub bind : {A B : Type 0} → Res A → (A → ℕ → Res B) → Res B
bind (got a e) k = k a e
bind (no r) k = no r

-- by a test
abbrev pub pick {ℓ} : {A : Type ℓ} → Bool → A → A → A
pick true a b = a
pick false a b = b
