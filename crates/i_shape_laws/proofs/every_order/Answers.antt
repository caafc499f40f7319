use Rattle.i_shape_core.specs.IntPoint.{contour_of}
use Rattle.i_shape_core.proofs.Removal.ZeroTurns as lemmas
use Rattle.i_shape_laws.proofs.every_order.Goals as goal

pub returns : goal.returns
returns g c = lemmas.every_order (contour_of g.I.IntNumber.value c.args._c.now)
