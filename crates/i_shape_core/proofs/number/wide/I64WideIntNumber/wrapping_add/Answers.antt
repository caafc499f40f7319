-- By this answer a wrong body is refused at once.
use Rattle.std.proofs.Common.{rules}
use Rattle.std.proofs.lemmas.Int.{wrapping_add_is}
use Rattle.i_shape_core.proofs.number.wide.I64WideIntNumber.wrapping_add.Goals as goal

pub returns : goal.returns
returns = search (rules, wrapping_add_is)
