use Rattle.std.proofs.Common.{arith}
use Rattle.i_shape_core.proofs.Common.{Point, point_of}
use Rattle.i_shape.specs.Reading.{read}
use Rattle.i_shape.specs.Rings.{AreSafeRings}
use Rattle.i_shape_c.specs.Steps.Appended.{AreLeftOrEmpty}
use Rattle.i_shape_c.specs.Batch.{AreSpared}
use Rattle.i_shape_c.specs.Cleaned.{TakesNoMemory}
use Rattle.i_shape_c.proofs.Batches.{safe_rings, have_room, on_err}
use Rattle.i_shape_c.proofs.PolygonsLeft.{spans, rings, rings_ends, count_rings, rings_parted, rings_safe, rings_clean, left_written}
use Rattle.i_shape_c.proofs.features.clean_each.Goals as goal

pub part-rings-requires-clause-order : goal.part-rings-requires-clause-order
part-rings-requires-clause-order g c = omega (arith, spans c.requires.parted.shapes_parted)

pub part-rings-requires-clause-within : goal.part-rings-requires-clause-within
part-rings-requires-clause-within g c = omega (arith, c.requires.parted.shapes_parted.last, c.requires.parted.contours_parted.some)

pub make_room-requires-clause-parted : goal.make_room-requires-clause-parted
make_room-requires-clause-parted g c = rw c.part-rings.ensures.part (rings_parted c.args.points.now c.requires.parted)

pub write_each-requires-clause-points_room : goal.write_each-requires-clause-points_room
write_each-requires-clause-points_room g c =
    let ends = rings_ends c.args.points.now c.requires.parted in
    rw (c.part-rings.ensures.part) (omega (arith, ends.0, ends.1, c.requires.room.points_room))

pub write_each-requires-clause-contours_room : goal.write_each-requires-clause-contours_room
write_each-requires-clause-contours_room g c =
    let count = count_rings c.args.points.now c.requires.parted in
    rw (c.part-rings.ensures.part) (omega (arith, count, c.requires.room.contours_room))

pub write_each-requires-clause-parted : goal.write_each-requires-clause-parted
write_each-requires-clause-parted g c = rw c.part-rings.ensures.part (rings_parted c.args.points.now c.requires.parted)

pub make_room-requires-clause-points_safe : goal.make_room-requires-clause-points_safe
make_room-requires-clause-points_safe g c =
    let at : g.row.P.Denot → Point = λ p. point_of g.P.Coordinate.IntNumber.value (g.P.ContourPoint.point p) in
    rw (c.part-rings.ensures.part)
    (safe_rings g.P.Coordinate.IntNumber.width g.P.Coordinate.IntNumber.value g.P.ContourPoint.point g.P.ContourPoint.points g.P.ContourPoint.each c.args.points.now (rings c.args.points.now c.requires.parted) (rings_parted c.args.points.now c.requires.parted).order (rings_safe c.args.points.now c.requires.parted at g.P.Coordinate.IntNumber.width c.requires.points_safe))

pub write_each-requires-clause-ready : goal.write_each-requires-clause-ready
write_each-requires-clause-ready g c = λ k less.
    let at : g.row.P.Denot → Point = λ p. point_of g.P.Coordinate.IntNumber.value (g.P.ContourPoint.point p) in
    let safe : AreSafeRings g.P.Coordinate.IntNumber.width (read g.P.Coordinate.IntNumber.value g.P.ContourPoint.points) c.args.points.now c.part-rings.result.now = rw (c.part-rings.ensures.part)
    (safe_rings g.P.Coordinate.IntNumber.width g.P.Coordinate.IntNumber.value g.P.ContourPoint.point g.P.ContourPoint.points g.P.ContourPoint.each c.args.points.now (rings c.args.points.now c.requires.parted) (rings_parted c.args.points.now c.requires.parted).order (rings_safe c.args.points.now c.requires.parted at g.P.Coordinate.IntNumber.width c.requires.points_safe)) in
    record { safe = safe k less; clean = λ all. c.in_ok-all_clean.ensures.clean.0 all k less; reserved = c.in_ok-all_clean.ensures.memory.takes_room k less }

pub returns-in_err-all_clean-clause-memory : goal.returns-in_err-all_clean-clause-memory
returns-in_err-all_clean-clause-memory g c =
    let at : g.row.P.Denot → Point = λ p. point_of g.P.Coordinate.IntNumber.value (g.P.ContourPoint.point p) in
    let rings_now = c.part-rings.result.now in
    let Spares = TakesNoMemory g.C.ContourCleaner.meaning.fewest g.C.ContourCleaner.meaning.clean in
    on_err c.from_residual.result (λ each.
    let none : AreSpared Spares at c.args.points.now rings_now = rw (c.part-rings.ensures.part) (rings_clean c.args.points.now c.requires.parted at Spares each) in
    let told = c.in_err-all_clean.ensures.memory.reserved (have_room g.P.Coordinate.IntNumber.width g.P.Coordinate.IntNumber.value g.P.ContourPoint.point g.P.ContourPoint.points g.P.ContourPoint.each g.C.ContourCleaner.meaning.fewest g.C.ContourCleaner.meaning.clean
    (g.C.ContourCleaner.has_room c.new-cleaner.result) (g.met.C.ContourCleaner.spares c.new-cleaner.result) c.args.points.now rings_now none) in
    absurd (cc))

pub returns-clause-ok : goal.returns-clause-ok
returns-clause-ok g c =
    let at : g.row.P.Denot → Point = λ p. point_of g.P.Coordinate.IntNumber.value (g.P.ContourPoint.point p) in
    left_written c.args.points.now c.requires.parted at (AreLeftOrEmpty g.C.ContourCleaner.meaning.answers) c.part-rings.result.now
    c.args.out_points.now c.write_each.new.out_points c.args.out_contours.now c.write_each.new.out_contours c.args.out_shapes.now c.write_each.new.out_shapes c.write_each.result
    c.part-rings.ensures.part c.write_each.ensures
