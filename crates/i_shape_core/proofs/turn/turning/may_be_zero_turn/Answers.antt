use Rattle.std.proofs.Common.{◌≡◌, ◌*ℤ◌, sym, subst₂}
use Rattle.i_shape_core.specs.Point.{Point, cross}
use Rattle.i_shape_core.proofs.Arithmetic.WholeNumbers.{equal_of_difference}
use Rattle.i_shape_core.proofs.turn.turning.may_be_zero_turn.Goals as goal

pub returns : goal.returns
unfolding cross
returns g c = λ z.
    (rw g.met.I.IntNumber.same_number at c.may_products_be_equal.ensures)
    (subst₂ (λ (v w : Point). v.x *ℤ w.y ≡ v.y *ℤ w.x) (sym c.sub-first.ensures) (sym c.sub-second.ensures) (equal_of_difference _ _ z))
