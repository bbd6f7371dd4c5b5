-- The cases of the two converters.
use mathlib.Core.Path.{◌≡◌, sym, ap, ◌∙◌}
use mathlib.Core.List.{List}
use Prim.Native.Nat.{ℕ, ◌≤◌, ◌<◌}
use native.Mathlib.Omega.{arith}
use borrow.Author.Tests.{le-leb, lt-leb, lt-ltb, le-ltb}
use lib.ListN.{length}
use Rattle.bits.specs.Refusals.{buffer_too_short, too_large, limit}
use Rattle.escape.specs.Body.{start_with}
use Rattle.walk.specs.Units.{units}
use Rattle.framed.specs.Framed.{framed_units, end_of, broken_length}
use Rattle.framed.specs.Convert.{not_carried, first_uncarried, start_code, length_bytes, joined, bytes_of, refuses, puts, to_start_codes, to_lengths}
use Rattle.framed.proofs.Joins.{codes-length}
use Rattle.framed.proofs.Never.{never-35}
use Rattle.std.specs.Prelude.{Ok, Some, None}

-- ---- the result

module _ (result out : List ℕ) where
  puts-over : limit < length result → puts result out ≡ refuses too_large 0 out
  puts-over h = rw (lt-leb (length result) limit h)

  puts-short : length result ≤ limit → length out < length result → puts result out ≡ refuses buffer_too_short (length result) out
  puts-short h g = rw (le-leb (length result) limit h, lt-leb (length result) (length out) g)

  puts-done : length result ≤ limit → length result ≤ length out → puts result out ≡ record { answer = Ok (length result); left = start_with result out }
  puts-done h g = rw (le-leb (length result) limit h, le-leb (length result) (length out) g)

-- ---- from lengths

module _ (s out : List ℕ) where
  codes : List ℕ
  codes = joined start_code (bytes_of (framed_units s))

  pub codes-over : limit < length s → to_start_codes s out ≡ refuses too_large 0 out
  unfolding to_start_codes
  codes-over h = rw (lt-leb (length s) limit h)

  module _ (small : length s ≤ limit) where
    pub codes-broken : end_of 0 (framed_units s) < length s → to_start_codes s out ≡ refuses broken_length (end_of 0 (framed_units s)) out
    unfolding to_start_codes
    codes-broken h = rw (le-leb (length s) limit small, lt-ltb (end_of 0 (framed_units s)) (length s) h)

    module _ (whole : length s ≤ end_of 0 (framed_units s)) where
      pub codes-uncarried : {p : ℕ} → first_uncarried (framed_units s) ≡ Some p → to_start_codes s out ≡ refuses not_carried p out
      unfolding to_start_codes
      codes-uncarried e = rw (le-leb (length s) limit small, le-ltb (end_of 0 (framed_units s)) (length s) whole, e)

      module _ (none : first_uncarried (framed_units s) ≡ None) where
        codes-puts : to_start_codes s out ≡ puts (joined start_code (bytes_of (framed_units s))) out
        unfolding to_start_codes
        codes-puts = rw (le-leb (length s) limit small, le-ltb (end_of 0 (framed_units s)) (length s) whole, none)

        pub codes-short : length out < length s → to_start_codes s out ≡ refuses buffer_too_short (length s) out
        codes-short h =
            let e : length (joined start_code (bytes_of (framed_units s))) ≡ length s = codes-length s whole in
            codes-puts ∙ puts-short (joined start_code (bytes_of (framed_units s))) out (omega arith) (omega arith) ∙ ap (λ (n : ℕ). refuses buffer_too_short n out) e

        pub codes-done : length s ≤ length out
            → to_start_codes s out ≡ record { answer = Ok (length (joined start_code (bytes_of (framed_units s)))); left = start_with (joined start_code (bytes_of (framed_units s))) out }
        codes-done h =
            let e : length (joined start_code (bytes_of (framed_units s))) ≡ length s = codes-length s whole in
            codes-puts ∙ puts-done (joined start_code (bytes_of (framed_units s))) out (omega arith) (omega arith)

-- ---- from start codes

module _ (s out : List ℕ) where
  pub lengths-over : limit < length s → to_lengths s out ≡ refuses too_large 0 out
  unfolding to_lengths
  lengths-over h = rw (lt-leb (length s) limit h)

  module _ (small : length s ≤ limit) where
    pub lengths-puts : to_lengths s out ≡ puts (joined length_bytes (bytes_of (units s))) out
    unfolding to_lengths
    lengths-puts = rw (le-leb (length s) limit small, never-35 s)

    module _ (n : ℕ) (is : n ≡ length (joined length_bytes (bytes_of (units s)))) where
      pub lengths-large : limit < n → to_lengths s out ≡ refuses too_large 0 out
      lengths-large h = lengths-puts ∙ puts-over (joined length_bytes (bytes_of (units s))) out (omega arith)

      module _ (fits : n ≤ limit) where
        pub lengths_short : length out < n → to_lengths s out ≡ refuses buffer_too_short n out
        lengths_short h = lengths-puts ∙ puts-short (joined length_bytes (bytes_of (units s))) out (omega arith) (omega arith) ∙ ap (λ (k : ℕ). refuses buffer_too_short k out) (sym is)

        pub lengths-done : n ≤ length out
            → to_lengths s out ≡ record { answer = Ok (length (joined length_bytes (bytes_of (units s)))); left = start_with (joined length_bytes (bytes_of (units s))) out }
        lengths-done h = lengths-puts ∙ puts-done (joined length_bytes (bytes_of (units s))) out (omega arith) (omega arith)
