use Rattle.i_shape_core.specs.IntPoint.{contour_of}
use Rattle.i_shape_core.proofs.Convex.Laws as lemmas
use Rattle.i_shape_core.proofs.laws.convex_kept.Goals as goal

pub returns : goal.returns
returns g c = lemmas.convex_laws (contour_of g.I.IntNumber.value c.args._c.now)
