use Rattle.std.proofs.Common.{arith}
use Rattle.i_shape_contacts.proofs.rings.blocks_if_memory.Goals as goal

pub returns-in-Err : goal.returns-in-Err
returns-in-Err g c = λ m d h l. absurd (omega (arith, l))
