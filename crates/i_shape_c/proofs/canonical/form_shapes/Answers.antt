use Rattle.i_shape_c.proofs.PolygonsLeft.{polygons_refused, polygons_counted, polygons_without_memory}
use Rattle.i_shape_c.proofs.canonical.form_shapes.Goals as goal

pub returns-in-Some : goal.returns-in-Some
returns-in-Some g c = rw c.code.ensures (polygons_refused c.in-Some.refusal c.in-Some.ensures)

pub returns-in-Ok : goal.returns-in-Ok
returns-in-Ok g c = polygons_counted c.in_default.ensures c.in-Ok.count c.requires c.in-Ok.ensures.ok

pub returns-in-Err : goal.returns-in-Err
returns-in-Err g c = rw c.code-in-Err.ensures (polygons_without_memory c.in_default.ensures c.in-Err.ensures.err c.in-Err.ensures.memory)
