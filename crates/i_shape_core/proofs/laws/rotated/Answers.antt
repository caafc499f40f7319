use Rattle.i_shape_core.specs.IntPoint.{contour_of}
use Rattle.i_shape_core.proofs.Removal.ZeroTurns as lemmas
use Rattle.i_shape_core.proofs.laws.rotated.Goals as goal

pub returns : goal.returns
returns g c = lemmas.rotated_ends (contour_of g.I.IntNumber.value c.args._c.now) (contour_of g.I.IntNumber.value c.args._d.now)
