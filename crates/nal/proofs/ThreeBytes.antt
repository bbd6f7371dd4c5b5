-- The fields of three bytes as the code computes them, by one law, and the cases of reading an extension.
use mathlib.Core.Path.{◌≡◌, refl, sym, ◌∙◌}
use mathlib.Core.Bool.{Bool, true, false}
use mathlib.Core.List.{List, append-nil}
use Prim.Native.Nat.{ℕ, ◌+◌, ◌-◌, ◌*◌, ◌/◌, ◌%◌, ◌^◌, ◌≤◌, ◌<◌}
use native.Mathlib.Omega.{arith}
use borrow.Author.Tests.{eq-eqb, ne_eqb, le-leb, lt-leb}
use lib.Dec.{lit≤}
use lib.IntN.{pos}
use lib.ListN.{length, get_or}
use Rattle.bits.specs.Refusals.{refusal, no_extension}
use Rattle.bits.specs.Bits.{digits, field, bytes_bits}
use Rattle.bits.specs.Codes.{is_set}
use Rattle.bits.proofs.Digits.{digits_append}
use Rattle.bits.proofs.Fields.{field-digits}
use Rattle.nal.specs.declared.extension.NalHeaderExtension.{NalHeaderExtension}
use Rattle.nal.specs.Extension.{three_bytes, extension_from, extension_of}
use Rattle.std.specs.Prelude.{Ok, Err}

module _ (b1 b2 b3 : ℕ) (h2 : b2 < 256) (h3 : b3 < 256) where
  three-digits : three_bytes b1 b2 b3 ≡ digits 24 (b1 * 65536 + (b2 * 256 + b3))
  unfolding bytes_bits
  three-digits =
      rw (append-nil (digits 8 b3), ← (digits_append 8 8 b2 b3 h3)) (sym (digits_append 8 16 b1 (b2 * 256 + b3) (omega arith)))

  -- the number in the n bits from the k-th on
  pub three-field : (k n : ℕ) → k + n ≤ 24 → field k n (three_bytes b1 b2 b3) ≡ (b1 * 65536 + (b2 * 256 + b3)) / 2 ^ (24 - k - n) % 2 ^ n
  three-field k n h = rw three-digits (field-digits k n 24 (b1 * 65536 + (b2 * 256 + b3)) h)

  -- a flag: t is the bit, where t says that the bit is 1 and not t that it is not
  pub three-flag : (k : ℕ) (t : Bool) → k + 1 ≤ 24
      → (t ≡ true → (b1 * 65536 + (b2 * 256 + b3)) / 2 ^ (24 - k - 1) % 2 ≡ 1)
      → (t ≡ false → (b1 * 65536 + (b2 * 256 + b3)) / 2 ^ (24 - k - 1) % 2 ≡ 1 → ⊥)
      → t ≡ is_set (field k 1 (three_bytes b1 b2 b3))
  three-flag k true h on off = sym (eq-eqb (field k 1 (three_bytes b1 b2 b3)) 1 (three-field k 1 h ∙ on refl))
  three-flag k false h on off = sym (ne_eqb (field k 1 (three_bytes b1 b2 b3)) 1 (λ e. off refl (sym (three-field k 1 h) ∙ e)))

  -- svc_extension_flag set, and clear
  pub is-svc : 127 < b1 → b1 < 256 → extension_from b1 b2 b3 ≡ NalHeaderExtension.Svc (record { b1 = b1; b2 = b2; b3 = b3 })
  unfolding extension_from
  is-svc h l = rw (eq-eqb (field 0 1 (three_bytes b1 b2 b3)) 1 (omega (arith, three-field 0 1 (lit≤ tt))))

  pub is-mvc : b1 < 128 → extension_from b1 b2 b3 ≡ NalHeaderExtension.Mvc (record { b1 = b1; b2 = b2; b3 = b3 })
  unfolding extension_from
  is-mvc h = rw (ne_eqb (field 0 1 (three_bytes b1 b2 b3)) 1 (λ e. omega (arith, three-field 0 1 (lit≤ tt))))

pub no-extension : (s : List ℕ) → length s < 4 → extension_of s ≡ Err (refusal no_extension (pos 0))
unfolding extension_of
no-extension s h = rw (lt-leb 4 (length s) h)

pub with-extension : (s : List ℕ) → 4 ≤ length s → extension_of s ≡ Ok (extension_from (get_or s 1 0) (get_or s 2 0) (get_or s 3 0))
unfolding extension_of
with-extension s h = rw (le-leb 4 (length s) h)
