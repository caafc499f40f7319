use Rattle.std.proofs.Common.{◌≡◌, ◌<◌, List, length, map, sym, subst, arith, IsPermutation}
use Rattle.std.specs.List.{All}
use Rattle.i_shape_core.proofs.Common.{point_of, contour_of, IsSafe}
use Rattle.i_shape_core.proofs.Plane.PointLists.{points-length}
use Rattle.i_shape_core.proofs.Sums.Heights.{all-safe, all-within}
use Rattle.i_shape_core.specs.declared.measure.heights.Asked.{Asked}
use Rattle.i_shape.specs.Heights.{asked_points, asks}
use Rattle.i_shape_c.specs.Locations.{IsOnContours}
use Rattle.i_shape_c.specs.Marked.{IsMarked, IsThere}
use Rattle.i_shape_c.specs.Steps.AskedFor.{IsAskedFor}
use Rattle.i_shape_c.proofs.Boundary.{copied_points, safe_contour}
use Rattle.i_shape_c.proofs.Marked.{marked_as, there_asked, asked_there}
use Rattle.i_shape_c.proofs.edges.mark_by_height.Goals as goal

pub mark_contours-requires-clause-asked_safe : goal.mark_contours-requires-clause-asked_safe
mark_contours-requires-clause-asked_safe g c =
    let value = g.P.Coordinate.IntNumber.value in
    let width = g.P.Coordinate.IntNumber.width in
    let about = c.args.about.now in
    subst (λ (qs : List (Asked _)). All (IsSafe width) (asked_points value qs)) (sym c.deref.ensures.value)
    (all-safe width value (g.P.ContourPoint.points about) c.in_ok-asked.asked.items c.in_ok-asked.ensures.all
    (safe_contour width value g.P.ContourPoint.point about (g.P.ContourPoint.points about) (g.P.ContourPoint.each about) c.requires.about_safe))

pub mark_contours-requires-clause-within : goal.mark_contours-requires-clause-within
mark_contours-requires-clause-within g c =
    let points = g.P.ContourPoint.points in
    let count = points-length g.P.ContourPoint.point points g.P.ContourPoint.each c.args.about.now in
    subst (λ (qs : List (Asked _)). All (λ q. q.place < length c.args.out.now) qs) (sym c.deref.ensures.value)
    (all-within (points c.args.about.now) c.in_ok-asked.asked.items (length c.args.out.now) (omega (arith, count, c.requires.room)) c.in_ok-asked.ensures.all)

pub returns-clause-answer : goal.returns-clause-answer
returns-clause-answer g c =
    let value = g.P.Coordinate.IntNumber.value in
    let width = g.P.Coordinate.IntNumber.width in
    let points = g.P.ContourPoint.points in
    let about = c.args.about.now in
    let at = λ (p : g.row.P.Denot). point_of value (g.P.ContourPoint.point p) in
    let On = IsOnContours at c.args.points.now c.args.offsets.now in
    let asked = c.deref.result.now in
    let list : contour_of value (points about) ≡ map at about = copied_points width value g.P.ContourPoint.point about (points about) (g.P.ContourPoint.each about) in
    let moved = subst (λ (qs : List (Asked _)). IsPermutation (asks 0 (points about)) qs) (sym c.deref.ensures.value) c.in_ok-asked.ensures.all in
    subst (λ ps. IsMarked (IsThere On ps) c.args.mark c.args.out.now c.mark_contours.new.out) list
    (marked_as c.args.mark (IsAskedFor value On asked) (IsThere On (contour_of value (points about))) c.args.out.now c.mark_contours.new.out
    (there_asked value On (points about) asked moved) (asked_there value On (points about) asked moved) c.mark_contours.ensures)
