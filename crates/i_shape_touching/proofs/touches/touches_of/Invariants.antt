use Rattle.std.proofs.Common.{◌≡◌, ◌≤◌, length, map, take, vec_len}
use Rattle.std.specs.List.{All}
use Rattle.i_shape_core.specs.IntPoint.{contour_of}
use Rattle.i_shape_touching.specs.Steps.Touches.{IsTouch}
use Rattle.i_shape_touching.proofs.touches.touches_of.Given as goal

abbrev pub invariant-loop-contact : goal.invariant-loop-contact
invariant-loop-contact g l = record {
  room : length l.contacts ≤ l.touches.cap;
  count : vec_len l.touches ≡ l.contact-index;
  contacts : map (λ t. t.contact) l.touches.items ≡ take l.contact-index l.contacts;
  each : All (IsTouch g.P.Coordinate.IntNumber.value l.offsets (contour_of g.P.Coordinate.IntNumber.value (g.P.ContourPoint.points l.points))) l.touches.items;
}
