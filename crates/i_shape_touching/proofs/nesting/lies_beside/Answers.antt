use Rattle.std.proofs.Common.{◌+◌, List, FitsSigned, w64, pos, All, sym, ap, subst, ◌∙◌, arith}
use Rattle.i_shape_core.specs.Point.{Point}
use Rattle.i_shape_core.specs.IntPoint.{IsSafe, point_of, contour_of}
use Rattle.i_shape_core.specs.Rings.{offset}
use Rattle.i_shape_core.proofs.Plane.PointLists.{read-length}
use Rattle.i_shape_contacts.proofs.Faults.{divides_read, All-part}
use Rattle.i_shape_contacts.proofs.Nesting.{ends_within}
use Rattle.i_shape_touching.specs.Places.{winding_at}
use Rattle.i_shape_touching.specs.Steps.Middles.{twice_middle}
use Rattle.i_shape_touching.proofs.MarkTouches.{mark_safe}
use Rattle.i_shape_touching.proofs.NestLaws.{ring_is, zero_test}
use Rattle.i_shape_touching.proofs.nesting.lies_beside.Goals as goal

pub part-requires-clause-within : goal.part-requires-clause-within
part-requires-clause-within g c =
    let value = g.P.Coordinate.IntNumber.value in
    let points = g.P.ContourPoint.points in
    let list = contour_of value (points c.args.points.now) in
    let offsets = c.args.offsets.now in
    let divides = divides_read value g.P.ContourPoint.point points g.P.ContourPoint.each c.args.points.now offsets c.requires.divides in
    let within = ends_within offsets list divides c.args.ring c.requires.is_ring in
    let count = read-length value g.P.ContourPoint.point points g.P.ContourPoint.each c.args.points.now in
    omega (arith, within, count)

pub winding_about_middle-requires-clause-ring_safe : goal.winding_about_middle-requires-clause-ring_safe
winding_about_middle-requires-clause-ring_safe g c =
    let value = g.P.Coordinate.IntNumber.value in
    let points = g.P.ContourPoint.points in
    let list = contour_of value (points c.args.points.now) in
    let offsets = c.args.offsets.now in
    let is = ring_is value g.P.ContourPoint.point points g.P.ContourPoint.each c.args.points.now c.part.result.now offsets c.args.ring c.part.ensures.part in
    subst (All (IsSafe g.P.Coordinate.IntNumber.width)) (sym is) (All-part (IsSafe g.P.Coordinate.IntNumber.width) list (offset offsets c.args.ring) (offset offsets (c.args.ring + 1)) c.requires.safe)

pub winding_about_middle-requires-clause-first_safe : goal.winding_about_middle-requires-clause-first_safe
winding_about_middle-requires-clause-first_safe g c =
    let value = g.P.Coordinate.IntNumber.value in
    let points = g.P.ContourPoint.points in
    let list = contour_of value (points c.args.points.now) in
    let offsets = c.args.offsets.now in
    let divides = divides_read value g.P.ContourPoint.point points g.P.ContourPoint.each c.args.points.now offsets c.requires.divides in
    mark_safe g.P.Coordinate.IntNumber.width offsets list divides c.requires.safe c.requires.piece.edge (point_of value c.args.piece.middle.first) c.requires.piece.piece.first

pub winding_about_middle-requires-clause-second_safe : goal.winding_about_middle-requires-clause-second_safe
winding_about_middle-requires-clause-second_safe g c =
    let value = g.P.Coordinate.IntNumber.value in
    let points = g.P.ContourPoint.points in
    let list = contour_of value (points c.args.points.now) in
    let offsets = c.args.offsets.now in
    let divides = divides_read value g.P.ContourPoint.point points g.P.ContourPoint.each c.args.points.now offsets c.requires.divides in
    mark_safe g.P.Coordinate.IntNumber.width offsets list divides c.requires.safe c.requires.piece.edge (point_of value c.args.piece.middle.second) c.requires.piece.piece.second

pub returns : goal.returns
returns g c =
    let value = g.P.Coordinate.IntNumber.value in
    let points = g.P.ContourPoint.points in
    let offsets = c.args.offsets.now in
    let fits : FitsSigned w64 c.winding_about_middle.result = record { sfits = c.winding_about_middle.type_inv } in
    let told = zero_test c.winding_about_middle.result fits in
    let is = ring_is value g.P.ContourPoint.point points g.P.ContourPoint.each c.args.points.now c.part.result.now offsets c.args.ring c.part.ensures.part in
    let same = c.winding_about_middle.ensures ∙ ap (λ (r : List Point). winding_at r (pos 2) (twice_middle value c.args.piece.middle)) is in
    (λ t. sym same ∙ told.0 t, λ e. told.1 (same ∙ e))
