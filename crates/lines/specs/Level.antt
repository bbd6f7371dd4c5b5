-- QP and QS of a slice (H.264, 7.4.3: SliceQPY and QSY). `pictures` is the table's array of picture sets; a set that it does not have counts as zeros.
use Rattle.std.specs.Prelude.{ℕ, List, ℤ}
use Rattle.table.specs.Tables as tables
use Rattle.syntax.specs.Context.{picture_in, level}

unfoldable pub init_qp : List ℕ → ℕ → ℤ
init_qp pictures id = (picture_in (tables.picture_in pictures id)).pic_init_qp_minus26

unfoldable pub init_qs : List ℕ → ℕ → ℤ
init_qs pictures id = (picture_in (tables.picture_in pictures id)).pic_init_qs_minus26

-- by the picture set's id and slice_qp_delta
unfoldable pub final_qp : List ℕ → ℕ → ℤ → ℤ
final_qp pictures id delta = level (init_qp pictures id) delta

-- by the picture set's id and slice_qs_delta
unfoldable pub final_qs : List ℕ → ℕ → ℤ → ℤ
final_qs pictures id delta = level (init_qs pictures id) delta
