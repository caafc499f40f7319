use Rattle.std.proofs.Common.{ℕ, ◌<◌, ◌+◌, length, map, take, All}
use Rattle.i_shape_core.specs.IntPoint.{contour_of}
use Rattle.i_shape_core.specs.Rings.{offset}
use Rattle.i_shape_touching.specs.Steps.Pieces.{mark_of}
use Rattle.i_shape_touching.proofs.MarkSteps.{Only, HasEnds, HasTouch}
use Rattle.i_shape_touching.proofs.marks.marks_of.Given as goal

abbrev pub invariant-loop-ring : goal.invariant-loop-ring
invariant-loop-ring g l =
    let value = g.P.Coordinate.IntNumber.value in
    let list = contour_of value (g.P.ContourPoint.points l.points) in
    record {
      only : Only l.offsets list (map (mark_of value) l.marks.items);
      ends : (r : ℕ) → r < l.ring → HasEnds l.offsets list (offset l.offsets r) (map (mark_of value) l.marks.items);
    }

abbrev pub invariant-loop-touch : goal.invariant-loop-touch
invariant-loop-touch g l =
    let value = g.P.Coordinate.IntNumber.value in
    let list = contour_of value (g.P.ContourPoint.points l.points) in
    record {
      only : Only l.offsets list (map (mark_of value) l.marks.items);
      ends : (r : ℕ) → r + 1 < length l.offsets → HasEnds l.offsets list (offset l.offsets r) (map (mark_of value) l.marks.items);
      touched : All (λ t. HasTouch l.offsets list value (map (mark_of value) l.marks.items) t) (take l.touch-index l.touches);
    }
