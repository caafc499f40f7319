use Rattle.i_shape_touching.specs.Steps.Labels.{touch_contacts, AreMerged}
use Rattle.i_shape_touching.proofs.circles.join_all.Given as goal

abbrev pub invariant-loop-touch : goal.invariant-loop-touch
invariant-loop-touch g l = AreMerged l.offsets (touch_contacts l.group) l.touch-index l.fn.labels l.labels
