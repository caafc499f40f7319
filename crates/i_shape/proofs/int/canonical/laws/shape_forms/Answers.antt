use Rattle.i_shape.proofs.Common.{shape_of}
use Rattle.i_shape.proofs.Shapes.Forms.{canonical_has_shape, unoriented_has_shape}
use Rattle.i_shape.proofs.int.canonical.laws.shape_forms.Goals as goal

pub returns : goal.returns
returns g c = record { canonical = canonical_has_shape (shape_of g.I.IntNumber.value c.args._s.now); unoriented = unoriented_has_shape (shape_of g.I.IntNumber.value c.args._s.now) }
