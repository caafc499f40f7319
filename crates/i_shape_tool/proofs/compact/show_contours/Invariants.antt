use Rattle.std.proofs.Common.{◌≡◌, map, string_bytes}
use Rattle.std.specs.List.{flat_map}
use Rattle.i_shape.specs.Paths.{path_of}
use Rattle.i_shape_tool.specs.Points.{contour_of}
use Rattle.i_shape_tool.specs.Run.{shown_line}
use Rattle.i_shape_tool.proofs.compact.show_contours.Given as goal

abbrev pub invariant-loop-contour : goal.invariant-loop-contour
invariant-loop-contour l = record {
  can_next : goal.iterator-loop-contour.can_next l.contour-iterator;
  is_finite : goal.iterator-loop-contour.is_finite l.contour-iterator;
  so_far : string_bytes l.output ≡ flat_map shown_line (map contour_of (map path_of l.yielded));
}
