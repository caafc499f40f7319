use Rattle.std.proofs.Common.{◌≡◌, ◌*◌, ◌≤◌, ◌++◌, length, drop}
use Rattle.std.specs.Str.{IsAscii}
use Rattle.i_shape_tool.specs.Points.{contour_of}
use Rattle.i_shape_tool.specs.Text.{spaced_points}
use Rattle.i_shape_tool.proofs.show.write_points.Given as goal

abbrev pub invariant-loop-last : goal.invariant-loop-last
invariant-loop-last l =
    (length l.left * 24 ≤ l.start) × (l.start ≤ length l.text) × IsAscii (drop l.start l.text)
    × (spaced_points (contour_of l.left) ++ drop l.start l.text ≡ spaced_points (contour_of l.points))

abbrev pub decreases-loop-last : goal.decreases-loop-last
decreases-loop-last l = length l.left
