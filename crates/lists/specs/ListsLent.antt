-- A list in lent words: what reading it answers, and what it leaves in them.
use Rattle.std.specs.Prelude.{ℕ, ◌*◌, Bool, leb, replicate}
use mathlib.Core.List.{List, [], ◌∷◌, flat_map}
use Rattle.std.proofs.lemmas.List.Edits.{sets}
use Rattle.bits.specs.Refusals.{Res, got, no, pick}
use Rattle.bits.specs.Bits.{Bits}
use Rattle.syntax.specs.declared.record.Operations.{Operations}
use Rattle.syntax.specs.declared.record.Prefix.{Prefix}
use Rattle.syntax.specs.Lists.{Operation, Kind, entries, code, operands, of_operations}
use Rattle.lists.specs.Begun.{until_begun}
use Rattle.lists.specs.Leaves.{leaves}
use Rattle.lists.specs.declared.list_words.PrefixShort.{PrefixShort}
use Rattle.std.specs.Prelude.{Ok, Err}
use Rattle.bits.specs.Answers.{Read}

-- three words an entry: its code and its two operands
abbrev pub operation_words : Operation → List ℕ
operation_words p = p.0 ∷ p.1.0 ∷ p.1.1 ∷ []

-- the words of the entries in use
unfoldable pub list_words : Operations → List ℕ
list_words o = flat_map operation_words (of_operations o)

unfoldable pub list_step : Res Operations → Read ℕ
list_step (got o e) = Ok (o.count, record { at = e })
list_step (no r) = Err r

abbrev pub list_left : Res Operations → List ℕ → List ℕ
list_left = leaves (replicate 198 0) list_words

-- the words of the entries that are read before the list ends or is refused, of a list that is there only if b
unfoldable pub list_begun : Bool → Kind → Bits → ℕ → List ℕ
list_begun b k s at = flat_map operation_words (pick b (until_begun (code k) k.closing (operands k) entries s at) [])

-- a count over 66, the most that a list holds, counts as 66
unfoldable pub at_most66 : ℕ → ℕ
at_most66 n = pick (leb n 66) n 66

-- the entries that a count says are in use are zeroed, and no more
unfoldable pub emptied_list : ℕ → List ℕ → List ℕ
emptied_list count words = sets words 0 (replicate (3 * at_most66 count) 0)

-- a prefix without its list
abbrev pub prefix_short : Prefix → PrefixShort
prefix_short p =
    record {
      store_ref_base_pic_flag = p.store_ref_base_pic_flag;
      adaptive_ref_base_pic_marking_mode_flag = p.adaptive_ref_base_pic_marking_mode_flag;
      base_markings = p.base_marking.count;
      additional_prefix_nal_unit_extension_flag = p.additional_prefix_nal_unit_extension_flag;
    }

unfoldable pub prefix_step : Res Prefix → Read PrefixShort
prefix_step (got p e) = Ok ((prefix_short p), record { at = e })
prefix_step (no r) = Err r

-- its list stands over zeros, whatever the words were: no word says how many of them were in use
abbrev pub prefix_left : Res Prefix → List ℕ
prefix_left m = leaves (replicate 198 0) (λ p. list_words p.base_marking) m (replicate 198 0)
