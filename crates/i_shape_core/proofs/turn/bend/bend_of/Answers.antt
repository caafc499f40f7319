use Rattle.std.proofs.Common.{arith}
use Rattle.std.proofs.lemmas.Grind.{common_steps}
use Rattle.i_shape_core.specs.declared.turn.bend.Bend.TheVariants.{Straight, Left, Right, Reversal}
use Rattle.i_shape_core.proofs.Convex.BendWalk.{tells_bend}
use Rattle.i_shape_core.proofs.turn.bend.bend_of.Goals as goal

pub returns-then-gt : goal.returns-then-gt
returns-then-gt g c = tells_bend _ _ Left (grind (arith, common_steps, g.met.I.Wide.WideIntNumber))

pub returns-then-lt : goal.returns-then-lt
returns-then-lt g c = tells_bend _ _ Right (grind (arith, common_steps, g.met.I.Wide.WideIntNumber))

pub returns-then-lt-2 : goal.returns-then-lt-2
returns-then-lt-2 g c = tells_bend _ _ Reversal (grind (arith, common_steps, g.met.I.Wide.WideIntNumber))

pub returns-else-lt-2 : goal.returns-else-lt-2
returns-else-lt-2 g c = tells_bend _ _ Straight (grind (arith, common_steps, g.met.I.Wide.WideIntNumber))
