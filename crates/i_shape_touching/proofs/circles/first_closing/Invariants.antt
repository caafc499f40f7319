use Rattle.std.proofs.Common.{MatchOption}
use Rattle.i_shape_touching.specs.Steps.Labels.{touch_contacts, NoneSame, IsFirstSame}
use Rattle.i_shape_touching.proofs.circles.first_closing.Given as goal

abbrev pub invariant-loop-touch : goal.invariant-loop-touch
invariant-loop-touch g l = MatchOption l.found (NoneSame l.offsets l.labels (touch_contacts l.group) l.touch-index) (IsFirstSame l.offsets l.labels (touch_contacts l.group) l.touch-index)
