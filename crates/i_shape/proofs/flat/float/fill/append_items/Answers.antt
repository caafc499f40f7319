use Rattle.std.proofs.Common.{arith}
use Rattle.std.proofs.lemmas.Grind.{common_steps}
use Rattle.i_shape.proofs.flat.float.fill.append_items.Goals as goal

pub returns-then-is_err-clause-err : goal.returns-then-is_err-clause-err
returns-then-is_err-clause-err g c = grind (arith, common_steps)

pub loop-item-preserved : goal.loop-item-preserved
loop-item-preserved g c = grind (arith, common_steps)

pub returns-then-is_err-clause-reserved : goal.returns-then-is_err-clause-reserved
returns-then-is_err-clause-reserved g c = grind (arith, common_steps)
