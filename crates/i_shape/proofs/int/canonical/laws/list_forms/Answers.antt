use Rattle.i_shape.proofs.Common.{shapes_of}
use Rattle.i_shape.proofs.Shapes.Forms.{canonical_has_list, unoriented_has_list}
use Rattle.i_shape.proofs.int.canonical.laws.list_forms.Goals as goal

pub returns : goal.returns
returns g c = record { canonical = canonical_has_list (shapes_of g.I.IntNumber.value c.args._s.now); unoriented = unoriented_has_list (shapes_of g.I.IntNumber.value c.args._s.now) }
