-- Lists of operations are lawful: three arrays beside a count hold a list, and the list is read up to its closing code.
use Prim.Native.Nat.{ℕ, suc, ◌≤◌}
use mathlib.Core.Path.{◌≡◌, refl, ap, sym, ◌∙◌}
use mathlib.Core.List.{List, [], ◌∷◌, map}
use mathlib.Core.Bool.{Bool, true, ◌&&◌}
use native.Mathlib.Omega.{arith}
use lib.Dec.{T, leb}
use lib.IntN.{pos}
use lib.ListN.{length, take, length-map}
use Rattle.fmt.specs.Fmt.{until}
use Rattle.fmt.specs.Leaves.{ue}
use Rattle.fmt.specs.Arrays.{pad, padded}
use Rattle.fmt.proofs.Lawful.{Lawful, both-0, both-1, T_true}
use Rattle.fmt.proofs.Combinators.{seq-lawful, shaped-lawful, test-lawful}
use Rattle.fmt.proofs.Leaves.{ue-lawful}
use Rattle.fmt.proofs.Lists.{until-lawful, until-length}
use Rattle.fmt.proofs.Arrays.{unpad-pad, padded-le, length-unpad, pad-padded, pad-unpad}
use Rattle.syntax.specs.Marks.{is_zero, given}
use Rattle.syntax.specs.Lists.{entries, Operation, joined, to_operations, of_operations, ok_operations, Kind, code, operands, operations, no_operations, is_no_operations, operations_if}
use Rattle.syntax.specs.declared.record.Operations.{Operations}
use Rattle.syntax.proofs.Absent.{zero_is, given-lawful}

-- ---- three columns and a list of entries

abbrev code_of : Operation → ℕ
code_of o = o.0

abbrev first_of : Operation → ℕ
first_of o = o.1.0

abbrev second_of : Operation → ℕ
second_of o = o.1.1

joined-columns : (l : List Operation) → joined (map code_of l) (map first_of l) (map second_of l) ≡ l
joined-columns [] = refl
joined-columns (o ∷ l) = ap (λ (m : List Operation). o ∷ m) (joined-columns l)

-- three columns of n entries each
record Columns (xs ys zs : List ℕ) (l : List Operation) : Type 0 where
  count : length l ≡ length xs
  codes : map code_of l ≡ xs
  first : map first_of l ≡ ys
  second : map second_of l ≡ zs

columns : (xs ys zs : List ℕ) → length ys ≡ length xs → length zs ≡ length xs → Columns xs ys zs (joined xs ys zs)
columns [] [] [] p q = record { count = refl; codes = refl; first = refl; second = refl }
columns [] (y ∷ ys) zs p q = absurd (omega arith)
columns [] [] (z ∷ zs) p q = absurd (omega arith)
columns (x ∷ xs) [] zs p q = absurd (omega arith)
columns (x ∷ xs) (y ∷ ys) [] p q = absurd (omega arith)
columns (x ∷ xs) (y ∷ ys) (z ∷ zs) p q =
    let c = columns xs ys zs (omega arith) (omega arith) in
    record {
      count = ap suc c.count;
      codes = ap (λ (l : List ℕ). x ∷ l) c.codes;
      first = ap (λ (l : List ℕ). y ∷ l) c.first;
      second = ap (λ (l : List ℕ). z ∷ l) c.second;
    }

-- ---- the arrays

-- a column in its array, and out of it
column-out : (f : Operation → ℕ) (l : List Operation) → take (length l) (pad 0 entries (map f l)) ≡ map f l
column-out f l = ap (λ (n : ℕ). take n (pad 0 entries (map f l))) (sym (length-map l f)) ∙ unpad-pad 0 entries (map f l)

column-padded : (f : Operation → ℕ) (l : List Operation) → length l ≤ entries → padded is_zero entries (length l) (pad 0 entries (map f l)) ≡ true
column-padded f l h =
    rw (length-map l f) at
    (T_true (padded is_zero entries (length (map f l)) (pad 0 entries (map f l))) (pad-padded 0 is_zero tt entries (map f l) (omega (arith, length-map l f))))

pub of-to-operations : (l : List Operation) → of_operations (to_operations l) ≡ l
unfolding of_operations to_operations
of-to-operations l = rw (column-out code_of l, column-out first_of l, column-out second_of l) (joined-columns l)

pub ok-to-operations : (l : List Operation) → length l ≤ entries → T (ok_operations (to_operations l))
unfolding ok_operations to_operations
ok-to-operations l h = rw (column-padded code_of l h, column-padded first_of l h, column-padded second_of l h) tt

-- each array of good operations is padded
module _ (o : Operations) (t : T (ok_operations o)) where
  abbrev is_padded : List ℕ → Bool
  is_padded xs = padded is_zero entries o.count xs

  codes-padded : T (is_padded o.codes)
  unfolding ok_operations
  codes-padded = both-0 (is_padded o.codes) (is_padded o.first && is_padded o.second) t

  operands-padded : T (is_padded o.first && is_padded o.second)
  unfolding ok_operations
  operands-padded = both-1 (is_padded o.codes) (is_padded o.first && is_padded o.second) t

  first-padded : T (is_padded o.first)
  first-padded = both-0 (is_padded o.first) (is_padded o.second) operands-padded

  second-padded : T (is_padded o.second)
  second-padded = both-1 (is_padded o.first) (is_padded o.second) operands-padded

  pub few-operations : o.count ≤ entries
  few-operations = (padded-le is_zero entries o.count o.codes codes-padded).0

  cut : (xs : List ℕ) → T (is_padded xs) → length (take o.count xs) ≡ o.count
  cut xs = length-unpad is_zero entries o.count xs

  filled : (xs : List ℕ) → T (is_padded xs) → pad 0 entries (take o.count xs) ≡ xs
  filled xs = pad-unpad 0 is_zero zero_is entries o.count xs

  whole : Columns (take o.count o.codes) (take o.count o.first) (take o.count o.second) (of_operations o)
  unfolding of_operations
  whole =
      let k = cut o.codes codes-padded in
      columns (take o.count o.codes) (take o.count o.first) (take o.count o.second)
      (cut o.first first-padded ∙ sym k) (cut o.second second-padded ∙ sym k)

  pub length-of-operations : length (of_operations o) ≡ o.count
  length-of-operations = whole.count ∙ cut o.codes codes-padded

  pub to-of-operations : to_operations (of_operations o) ≡ o
  unfolding to_operations
  to-of-operations =
      λ i.
      record {
        count = length-of-operations i;
        codes = (ap (pad 0 entries) whole.codes ∙ filled o.codes codes-padded) i;
        first = (ap (pad 0 entries) whole.first ∙ filled o.first first-padded) i;
        second = (ap (pad 0 entries) whole.second ∙ filled o.second second-padded) i;
      }

-- ---- the formats

pub code-lawful : (k : Kind) → Lawful (code k)
unfolding code
code-lawful k = test-lawful (λ c. leb c k.greatest) k.number pos ue ue-lawful

pub given-ue : (b : Bool) → Lawful (given b 0 is_zero ue)
given-ue b = given-lawful b 0 is_zero ue tt zero_is ue-lawful

pub operands-lawful : (k : Kind) (c : ℕ) → Lawful (operands k c)
unfolding operands
operands-lawful k c = search (seq-lawful, given-ue)

pub operations-lawful : (k : Kind) → Lawful (operations k)
unfolding operations
operations-lawful k =
    shaped-lawful to_operations of_operations ok_operations (until (code k) k.closing (operands k) entries) to-of-operations
    (λ l g. (of-to-operations l, ok-to-operations l (until-length (code k) k.closing (operands k) entries l g)))
    (until-lawful (code k) k.closing (operands k) (code-lawful k) (operands-lawful k) entries)

-- ---- none at all

empty : (l : List Operation) → length l ≡ 0 → l ≡ []
empty [] h = refl
empty (o ∷ l) h = absurd (omega arith)

none_made : to_operations [] ≡ no_operations
unfolding to_operations pad
none_made = refl

pub none-good : T (is_no_operations no_operations)
unfolding ok_operations padded
none-good = tt

pub none_is : (o : Operations) → T (is_no_operations o) → o ≡ no_operations
none_is o t =
    let k = both-1 (is_zero o.count) (ok_operations o) t in
    let z = length-of-operations o k ∙ zero_is o.count (both-0 (is_zero o.count) (ok_operations o) t) in
    sym (to-of-operations o k) ∙ ap to_operations (empty (of_operations o) z) ∙ none_made

-- there only if b
pub operations_if-lawful : (b : Bool) (k : Kind) → Lawful (operations_if b k)
unfolding operations_if
operations_if-lawful b k = given-lawful b no_operations is_no_operations (operations k) none-good none_is (operations-lawful k)
