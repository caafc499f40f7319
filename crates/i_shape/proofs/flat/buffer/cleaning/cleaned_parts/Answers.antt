use Rattle.std.proofs.Common.{ap, map}
use Rattle.i_shape.proofs.Common.{contour_of, FlatContoursBuffer}
use Rattle.i_shape.proofs.Buffers.CleanedShapes.{grown_held, held_slices}
use Rattle.i_shape.proofs.flat.buffer.cleaning.cleaned_parts.Goals as goal

pub returns-clause-cleaned : goal.returns-clause-cleaned
returns-clause-cleaned g c =
    let value = g.T.IntNumber.value in
    let more = c.in_ok-append_parts.ensures.ok in
    let kept : FlatContoursBuffer g.row.T.Denot = record { points = c.append_parts.new.points; ranges = c.append_parts.new.ranges } in
    let held = grown_held c.clear_and_reserve.new.self kept more.0 c.in_ok-clear_and_reserve.ensures.ok more.2 in
    rw (ap (map (contour_of value)) held.slices) more.1

pub returns-clause-end_to_end : goal.returns-clause-end_to_end
returns-clause-end_to_end g c =
    let more = c.in_ok-append_parts.ensures.ok in
    let kept : FlatContoursBuffer g.row.T.Denot = record { points = c.append_parts.new.points; ranges = c.append_parts.new.ranges } in
    held_slices kept more.0 (grown_held c.clear_and_reserve.new.self kept more.0 c.in_ok-clear_and_reserve.ensures.ok more.2)
