use Rattle.i_shape_tool.proofs.Running.TwoTexts.{first_of_first, first_of_second, first_of_both}
use Rattle.i_shape_tool.proofs.laws.fault_concatenated.Goals as goal

pub returns : goal.returns
returns c = record { first = first_of_first; second = first_of_second; one = first_of_both }
