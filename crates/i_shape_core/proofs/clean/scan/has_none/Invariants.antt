use Rattle.std.proofs.Common.{ℕ, ◌+◌, ◌<◌}
use Rattle.i_shape_core.proofs.Common.{point_at, contour_of}
use Rattle.i_shape_core.proofs.clean.scan.has_none.Given as goal

-- none of the turns so far passes the test
abbrev pub invariant-loop-place : goal.invariant-loop-place
invariant-loop-place g l =
    let c = contour_of g.P.Coordinate.IntNumber.value (g.P.ContourPoint.points l.points) in
    (k : ℕ) → k < l.place → ¬ (g.T.TurnTest.test (point_at c k) (point_at c (k + 1)) (point_at c (k + 2)))
