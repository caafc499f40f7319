use Rattle.i_shape_core.specs.IntPoint.{contour_of}
use Rattle.i_shape_core.proofs.Forms.Unoriented as lemmas
use Rattle.i_shape_laws.proofs.unoriented_joined.Goals as goal

pub returns : goal.returns
returns g c = lemmas.unoriented_one (contour_of g.I.IntNumber.value c.args._c.now) (contour_of g.I.IntNumber.value c.args._d.now)
