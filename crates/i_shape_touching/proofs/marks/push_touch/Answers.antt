use Rattle.std.proofs.Common.{refl}
use Rattle.i_shape_touching.specs.Steps.Pieces.{mark_of}
use Rattle.i_shape_touching.proofs.MarkSteps.{one_pushed}
use Rattle.i_shape_touching.proofs.marks.push_touch.Goals as goal

pub returns : goal.returns
returns g c =
    let value = g.P.Coordinate.IntNumber.value in
    record {
      next = c.in_ok-push_ends.ensures.next;
      follows = c.in_ok-push_ends.ensures.follows;
      added = one_pushed (mark_of value) c.args.marks.now.items c.push_ends.new.marks.items c.push.new.self.items _ _ _ _ c.in_ok-push_ends.ensures.added c.in_ok-push.ensures.items refl;
    }
