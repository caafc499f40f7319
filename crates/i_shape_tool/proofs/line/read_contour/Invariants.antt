use Rattle.std.specs.Option.{option_copied}
use Rattle.i_shape_tool.specs.Points.{contour_of}
use Rattle.i_shape_tool.specs.Text.{words_of, words_left}
use Rattle.i_shape_tool.proofs.Reading.Words.{left_len}
use Rattle.i_shape_tool.proofs.Reading.Lines.{HasRead}
use Rattle.i_shape_tool.proofs.line.read_contour.Given as goal

abbrev pub invariant-loop-rest : goal.invariant-loop-rest
invariant-loop-rest l = HasRead (words_of l.line) (words_left (option_copied l.rest)) (contour_of l.contour.items)

abbrev pub decreases-loop-rest : goal.decreases-loop-rest
decreases-loop-rest l = left_len l.rest
