-- Lists in arrays beside a count: operations up to a closing code.
use Rattle.std.specs.Prelude.{ℕ, List, [], ◌∷◌, map, Bool, ◌&&◌, leb, pos, length, take, replicate}
use Rattle.fmt.specs.Fmt.{Fmt, seq, shaped, test, until}
use Rattle.fmt.specs.Leaves.{ue}
use Rattle.fmt.specs.Arrays.{pad, padded}
use Rattle.syntax.specs.Marks.{is_zero, given}
use Rattle.syntax.specs.declared.record.Operations.{Operations}

-- the capacity of a list of operations
abbrev pub entries : ℕ
entries = 66

-- an operation: a code, and its two operands, zero where it has fewer
abbrev pub Operation : Type 0
Operation = ℕ × (ℕ × ℕ)

abbrev pub joined : List ℕ → List ℕ → List ℕ → List Operation
joined [] ys zs = []
joined (x ∷ xs) [] zs = []
joined (x ∷ xs) (y ∷ ys) [] = []
joined (x ∷ xs) (y ∷ ys) (z ∷ zs) = (x, (y, z)) ∷ joined xs ys zs

unfoldable pub to_operations : List Operation → Operations
to_operations l =
    record {
      count = length l;
      codes = pad 0 entries (map (λ (o : Operation). o.0) l);
      first = pad 0 entries (map (λ (o : Operation). o.1.0) l);
      second = pad 0 entries (map (λ (o : Operation). o.1.1) l);
    }

unfoldable pub of_operations : Operations → List Operation
of_operations o = joined (take o.count o.codes) (take o.count o.first) (take o.count o.second)

-- unused entries are zero
unfoldable pub ok_operations : Operations → Bool
ok_operations o = padded is_zero entries o.count o.codes && (padded is_zero entries o.count o.first && padded is_zero entries o.count o.second)

-- What tells one list's syntax from another's: the closing code, the greatest code and the refusal of a greater one, and which codes have operands.
pub record Kind : Type 0 where
  pub closing : ℕ
  pub greatest : ℕ
  pub number : ℕ
  pub has_first : ℕ → Bool
  pub has_second : ℕ → Bool

unfoldable pub code : Kind → Fmt ℕ
code k = test (λ c. leb c k.greatest) k.number pos ue

unfoldable pub operands : Kind → ℕ → Fmt (ℕ × ℕ)
operands k c = seq (given (k.has_first c) 0 is_zero ue) (λ a. given (k.has_second c) 0 is_zero ue)

unfoldable pub operations : Kind → Fmt Operations
operations k = shaped to_operations of_operations ok_operations (until (code k) k.closing (operands k) entries)

-- no operation at all
abbrev pub no_operations : Operations
no_operations = record { count = 0; codes = replicate 66 0; first = replicate 66 0; second = replicate 66 0 }

abbrev pub is_no_operations : Operations → Bool
is_no_operations o = is_zero o.count && ok_operations o

-- there only if b
unfoldable pub operations_if : Bool → Kind → Fmt Operations
operations_if b k = given b no_operations is_no_operations (operations k)
