-- How many bits the header that words hold has at most.
use Rattle.std.specs.Prelude.{ℕ, List, []}
use Rattle.table.specs.Tables as tables
use Rattle.syntax.specs.declared.record.SliceHeader.{SliceHeader}
use Rattle.syntax.specs.Context.{picture_in}
use Rattle.header.specs.Short.{HeaderWords}
use Rattle.record.specs.Record.{header_from}
use Rattle.size.specs.Size.{bound_of}

-- of a record, by the table's array of picture sets
abbrev pub bound_by : List ℕ → SliceHeader → ℕ
bound_by pictures h = bound_of (picture_in (tables.picture_in pictures h.pic_parameter_set_id)) h

-- words of which the numbers alone are told: the formula asks for no other
abbrev pub numbered : List ℕ → HeaderWords
numbered n = record { numbers = n; signed = []; l0 = []; l1 = []; marking = []; w0 = []; w1 = [] }

unfoldable pub bound_in : List ℕ → List ℕ → ℕ
bound_in pictures numbers = bound_by pictures (header_from (numbered numbers))
