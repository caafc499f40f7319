use Rattle.i_shape_c.proofs.PolygonsLeft.{room_for_polygons, polygons_refused, polygons_counted, polygons_without_memory}
use Rattle.i_shape_c.proofs.polygons.clean_shapes.Goals as goal

pub returns-in-Some : goal.returns-in-Some
returns-in-Some g c = rw c.code.ensures (polygons_refused c.in-Some.refusal c.in-Some.ensures)

pub write_cleaned-requires-clause-room : goal.write_cleaned-requires-clause-room
write_cleaned-requires-clause-room g c = room_for_polygons c.args.points.now c.in_default.ensures.0 _ _ _ c.in_default.ensures.1

pub returns-in-Ok : goal.returns-in-Ok
returns-in-Ok g c = polygons_counted c.in_default.ensures c.in-Ok.count c.requires c.in-Ok.ensures.ok

pub returns-in-Err : goal.returns-in-Err
returns-in-Err g c = rw c.code-in-Err.ensures (polygons_without_memory c.in_default.ensures c.in-Err.ensures.err c.in-Err.ensures.memory)
