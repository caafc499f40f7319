use Rattle.std.proofs.Common.{◌≡◌, ◌≤◌, ◌++◌, length, drop, string_bytes}
use Rattle.i_shape_tool.specs.Points.{contour_of}
use Rattle.i_shape_tool.specs.Text.{shown, spaced_points}
use Rattle.i_shape_tool.proofs.show.show_contour.Given as goal

abbrev pub invariant-loop-left : goal.invariant-loop-left
invariant-loop-left l =
    (l.skipped ≤ 1)
    × (string_bytes l.output ++ drop l.skipped (spaced_points (contour_of l.left)) ≡ string_bytes l.fn.output ++ shown (contour_of l.contour))

abbrev pub decreases-loop-left : goal.decreases-loop-left
decreases-loop-left l = length l.left
