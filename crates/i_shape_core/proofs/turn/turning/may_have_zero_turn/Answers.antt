use Rattle.std.proofs.Common.{◌+◌, ◌-◌, arith}
use Rattle.i_shape_core.specs.IntPoint.{contour_of}
use Rattle.i_shape_core.proofs.Walks.Turning.{placed_in_part, counted_most, none_counted, turning_more, no_zero_turn}
use Rattle.i_shape_core.proofs.turn.turning.may_have_zero_turn.Goals as goal

pub may_be_zero_turn-may_be_zero-requires-clause-a_safe : goal.may_be_zero_turn-may_be_zero-requires-clause-a_safe
may_be_zero_turn-may_be_zero-requires-clause-a_safe g c =
    (placed_in_part g.P.ContourPoint.point g.P.ContourPoint.points g.P.ContourPoint.each g.P.Coordinate.IntNumber.width g.P.Coordinate.IntNumber.value c.args.points.now (c.args.first) (c.args.first + c.args.count - c.args.first) c.loop-at.at c.index-from-at.result c.to_point.result c.requires.safe c.to_point.ensures (omega (arith, c.loop-at-test.true)) (omega (arith, c.requires.within)) c.index-from-at.is).safe

pub may_be_zero_turn-may_be_zero-requires-clause-b_safe : goal.may_be_zero_turn-may_be_zero-requires-clause-b_safe
may_be_zero_turn-may_be_zero-requires-clause-b_safe g c =
    (placed_in_part g.P.ContourPoint.point g.P.ContourPoint.points g.P.ContourPoint.each g.P.Coordinate.IntNumber.width g.P.Coordinate.IntNumber.value c.args.points.now (c.args.first + 1) (c.args.first + 1 + c.args.count - (c.args.first + 1)) c.loop-at.at c.index-over-at.result c.to_point-in-loop-at.result c.requires.safe c.to_point-in-loop-at.ensures (omega (arith, c.loop-at-test.true)) (omega (arith, c.requires.within)) c.index-over-at.is).safe

pub may_be_zero_turn-may_be_zero-requires-clause-c_safe : goal.may_be_zero_turn-may_be_zero-requires-clause-c_safe
may_be_zero_turn-may_be_zero-requires-clause-c_safe g c =
    (placed_in_part g.P.ContourPoint.point g.P.ContourPoint.points g.P.ContourPoint.each g.P.Coordinate.IntNumber.width g.P.Coordinate.IntNumber.value c.args.points.now (c.args.first + 2) (c.args.first + 2 + c.args.count - (c.args.first + 2)) c.loop-at.at c.index-to-at.result c.to_point-in-loop-at-2.result c.requires.safe c.to_point-in-loop-at-2.ensures (omega (arith, c.loop-at-test.true)) (omega (arith, c.requires.within)) c.index-to-at.is).safe

pub loop-at-preserved : goal.loop-at-preserved
loop-at-preserved g c =
    let whole = contour_of g.P.Coordinate.IntNumber.value (g.P.ContourPoint.points c.args.points.now) in
    let a = placed_in_part g.P.ContourPoint.point g.P.ContourPoint.points g.P.ContourPoint.each g.P.Coordinate.IntNumber.width g.P.Coordinate.IntNumber.value c.args.points.now (c.args.first) (c.args.first + c.args.count - c.args.first) c.loop-at.at c.index-from-at.result c.to_point.result c.requires.safe c.to_point.ensures (omega (arith, c.loop-at-test.true)) (omega (arith, c.requires.within)) c.index-from-at.is in
    let b = placed_in_part g.P.ContourPoint.point g.P.ContourPoint.points g.P.ContourPoint.each g.P.Coordinate.IntNumber.width g.P.Coordinate.IntNumber.value c.args.points.now (c.args.first + 1) (c.args.first + 1 + c.args.count - (c.args.first + 1)) c.loop-at.at c.index-over-at.result c.to_point-in-loop-at.result c.requires.safe c.to_point-in-loop-at.ensures (omega (arith, c.loop-at-test.true)) (omega (arith, c.requires.within)) c.index-over-at.is in
    let d = placed_in_part g.P.ContourPoint.point g.P.ContourPoint.points g.P.ContourPoint.each g.P.Coordinate.IntNumber.width g.P.Coordinate.IntNumber.value c.args.points.now (c.args.first + 2) (c.args.first + 2 + c.args.count - (c.args.first + 2)) c.loop-at.at c.index-to-at.result c.to_point-in-loop-at-2.result c.requires.safe c.to_point-in-loop-at-2.ensures (omega (arith, c.loop-at-test.true)) (omega (arith, c.requires.within)) c.index-to-at.is in
    let test = c.may_be_zero_turn-may_be_zero in
    record {
      few = counted_most c.loop-at.zero_turns c.loop-at.at test.result c.loop-at.invariant.few;
      none = λ zero.
          let before = none_counted c.loop-at.zero_turns test.result zero in
          turning_more whole c.args.first (c.args.first + c.loop-at.at) (c.args.first + (c.loop-at.at + 1)) (omega arith) (c.loop-at.invariant.none before.0)
          (no_zero_turn whole (c.args.first + c.loop-at.at) (c.args.first + c.loop-at.at) (c.args.first + 1 + c.loop-at.at) (c.args.first + 2 + c.loop-at.at) _ _ _ test.result (omega arith) (omega arith) (omega arith) a.at b.at d.at test.ensures before.1);
    }
