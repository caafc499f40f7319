use Rattle.i_shape_tool.specs.Text.{words_of}
use Rattle.i_shape_tool.proofs.Reading.Lines.{some_word, no_second}
use Rattle.i_shape_tool.proofs.line.first_point.Goals as goal

pub returns-in_err-y-clause-no_point : goal.returns-in_err-y-clause-no_point
returns-in_err-y-clause-no_point c =
    let left = c.in_ok-rest.field-0.now in
    rw c.from_residual-in_err-y.ensures (no_second (words_of c.args.text.now) (words_of left) c.in_ok-x.x (rw c.in_ok-rest.was at c.in_ok-x.ensures.says) (some_word left) c.in_err-y.ensures.no_decimal)
