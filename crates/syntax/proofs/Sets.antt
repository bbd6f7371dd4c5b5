-- What the picture set of a context says of its counts of references: a set that was found is within the rules' ranges, and one that was not has counts of 0.
use Prim.Native.Nat.{ℕ, ◌≤◌}
use mathlib.Core.Path.{◌≡◌, refl}
use native.Mathlib.Omega.{arith}
use Rattle.table.specs.declared.sets.Picture.{Picture}
use Rattle.table.specs.declared.table.Table.{Table}
use Rattle.table.specs.Tables.{found_picture, picture_at}
use Rattle.table.proofs.Entries.{found-picture-ranges}
use Rattle.syntax.specs.Context.{picture_in, picture_for}
use Rattle.std.specs.Prelude.{Option, None}

-- the counts of references where the header has none of its own
pub record Few (p : Picture) : Type 0 where
  pub l0 : p.num_ref_idx_l0_default_active_minus1 ≤ 31
  pub l1 : p.num_ref_idx_l1_default_active_minus1 ≤ 31

few : (f : Option (Picture × ℕ)) → ((p : Picture) (w : ℕ) → f ≡ found_picture p w → Few p) → Few (picture_in f)
few (found_picture p w) h = h p w refl
few None h = record { l0 = omega arith; l1 = omega arith }

pub defaults-few : (t : Table) (id : ℕ) → Few (picture_for t id)
unfolding picture_for
defaults-few t id =
    few (picture_at t id)
    (λ p w e. let r = found-picture-ranges t.pictures id p w e in record { l0 = r.active0-most; l1 = r.active1-most })
