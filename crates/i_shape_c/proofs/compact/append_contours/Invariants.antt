use Rattle.std.proofs.Common.{◌≡◌, ◌+◌, ◌≤◌, length}
use Rattle.i_shape_c.specs.Steps.Appended.{IsPut}
use Rattle.i_shape_c.specs.Compacted.{contours_left}
use Rattle.i_shape_c.proofs.compact.append_contours.Given as goal

abbrev pub invariant-loop-contour : goal.invariant-loop-contour
invariant-loop-contour l = record {
  put : IsPut l.place (contours_left l.contours l.start l.contour) l.fn.out l.out;
  count : l.next ≡ l.place + length (contours_left l.contours l.start l.contour);
  fewer : l.next + l.start ≤ l.place + l.contour;
}
