-- Fixed-width fields and Exp-Golomb codes at a bit place: what reading finds (H.264, 7.2 and 9.1; docs/RULES.md, 'Codes'), the bits of a value, and which
-- values have bits.
use Rattle.std.specs.Prelude.{ℕ, zero, suc, ◌+◌, ◌-◌, ◌*◌, ◌/◌, ◌%◌, ◌^◌, [], ◌∷◌, ◌++◌, Bool, true, false, eqb, leb, ltb, ℤ, pos, negsuc, neg_ℤ, nat_abs, length, take, drop, replicate}
use Rattle.std.specs.Int.Count.{count_leading_zeros}
use Rattle.bits.specs.Refusals.{Res, got, no, bind, pick, refusal_at, ran_out, too_many_zeros}
use Rattle.bits.specs.Bits.{Bits, digits, number_of, field}

-- ---- u(n): no field is wider than 32 bits, and a wider n counts as 32

abbrev pub width_of : ℕ → ℕ
width_of n = pick (leb n 32) n 32

unfoldable pub fixed_at : ℕ → Bits → ℕ → Res ℕ
fixed_at n s p = pick (leb (p + n) (length s)) (got (field p n s) (p + n)) (no (refusal_at ran_out (pos 0) p))

abbrev pub u_at : ℕ → Bits → ℕ → Res ℕ
u_at n = fixed_at (width_of n)

abbrev pub u_bits : ℕ → ℕ → Bits
u_bits n v = digits (width_of n) v

abbrev pub u_good : ℕ → ℕ → Bool
u_good n v = ltb v (2 ^ width_of n)

-- a flag is u(1)

abbrev pub is_set : ℕ → Bool
is_set v = eqb v 1

abbrev pub flag_at : Bits → ℕ → Res Bool
flag_at s p = bind (u_at 1 s p) (λ v e. got (is_set v) e)

abbrev pub bit_of : Bool → ℕ
bit_of b = pick b 1 0

abbrev pub flag_bits : Bool → Bits
flag_bits b = u_bits 1 (bit_of b)

-- ---- ue(v)

-- after z zeros and a one: the z bits that stand in l
unfoldable pub suffix_at : ℕ → Bits → ℕ → Res ℕ
suffix_at z l p = pick (leb z (length l)) (got (2 ^ z - 1 + number_of (take z l)) (p + (2 * z + 1))) (no (refusal_at ran_out (pos 0) p))

-- a code that starts at p: z zeros have been passed, l is what follows them, and n more zeros are too many
unfoldable pub code_at : ℕ → ℕ → Bits → ℕ → Res ℕ
code_at zero z l p = no (refusal_at too_many_zeros (pos 0) p)
code_at (suc n) z [] p = no (refusal_at ran_out (pos 0) p)
code_at (suc n) z (false ∷ l) p = code_at n (suc z) l p
code_at (suc n) z (true ∷ l) p = suffix_at z l p

unfoldable pub ue_at : Bits → ℕ → Res ℕ
ue_at s p = code_at 32 0 (drop p s) p

-- the zeros in front of v's code: z, where v + 1 has z + 1 binary digits
unfoldable pub ue_zeros : ℕ → ℕ
ue_zeros v = 31 - count_leading_zeros 32 (v + 1)

-- z zeros, a one, and the other z digits of v + 1
unfoldable pub ue_bits : ℕ → Bits
ue_bits v = replicate (ue_zeros v) false ++ (true ∷ digits (ue_zeros v) (v + 1))

abbrev pub ue_good : ℕ → Bool
ue_good v = ltb v 4294967295

-- ---- se(v)

-- the number of code k: (k + 1) / 2 for odd k, -(k / 2) for even k
unfoldable pub se_of : ℕ → ℤ
se_of k = pick (eqb (k % 2) 1) (pos ((k + 1) / 2)) (neg_ℤ (pos (k / 2)))

-- the code of a number: 0, 1, -1, 2, -2, .. in a row
unfoldable pub se_code : ℤ → ℕ
se_code (pos zero) = 0
se_code (pos (suc n)) = 2 * n + 1
se_code (negsuc n) = 2 * n + 2

abbrev pub se_at : Bits → ℕ → Res ℤ
se_at s p = bind (ue_at s p) (λ k e. got (se_of k) e)

abbrev pub se_bits : ℤ → Bits
se_bits z = ue_bits (se_code z)

abbrev pub se_good : ℤ → Bool
se_good z = ltb (nat_abs z) 2147483648
