use Rattle.i_shape.proofs.Common.{shapes_of}
use Rattle.i_shape.proofs.Shapes.Forms.{canonical_lists, unoriented_lists}
use Rattle.i_shape.proofs.int.canonical.laws.same_lists.Goals as goal

pub returns : goal.returns
returns g c = record { canonical = canonical_lists (shapes_of g.I.IntNumber.value c.args._s.now) (shapes_of g.I.IntNumber.value c.args._t.now); unoriented = unoriented_lists (shapes_of g.I.IntNumber.value c.args._s.now) (shapes_of g.I.IntNumber.value c.args._t.now) }
