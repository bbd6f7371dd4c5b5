-- What a look-up says of the numbers that QP and QS begin with.
use mathlib.Core.Path.{◌≡◌, ap}
use mathlib.Core.List.{List}
use Prim.Native.Nat.{ℕ}
use Rattle.table.specs.Tables as tables
use Rattle.syntax.specs.Context.{picture_in}
use Rattle.lines.specs.Level.{init_qp, init_qs}
use Rattle.std.specs.Prelude.{Option}
use Rattle.table.specs.declared.sets.Picture.{Picture}

module _ (pictures : List ℕ) (id : ℕ) (f : Option (Picture × ℕ)) (e : f ≡ tables.picture_in pictures id) where
  pub init-qp : (picture_in f).pic_init_qp_minus26 ≡ init_qp pictures id
  unfolding init_qp
  init-qp = ap (λ (x : Option (Picture × ℕ)). (picture_in x).pic_init_qp_minus26) e

  pub init-qs : (picture_in f).pic_init_qs_minus26 ≡ init_qs pictures id
  unfolding init_qs
  init-qs = ap (λ (x : Option (Picture × ℕ)). (picture_in x).pic_init_qs_minus26) e
