use Rattle.std.proofs.Common.{arith}
use Rattle.i_shape_c.proofs.holders.boxes_if_memory.Goals as goal

pub returns-in-Err : goal.returns-in-Err
returns-in-Err g c = λ k d less. absurd (omega (arith, less))
