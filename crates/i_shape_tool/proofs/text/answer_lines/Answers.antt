use Rattle.std.proofs.Common.{string_bytes, subst, rules}
use Rattle.std.proofs.lemmas.Result.{err_from_is_err_and}
use Rattle.i_shape_tool.specs.declared.fault.ToolFault.TheVariants.{OutOfMemory}
use Rattle.i_shape_tool.specs.Points.{contour_of}
use Rattle.i_shape_tool.proofs.Running.Lines.{answered_none, answer_more, answered_all, fault_after}
use Rattle.i_shape_tool.proofs.text.answer_lines.Goals as goal

pub loop-rest-init : goal.loop-rest-init
loop-rest-init g c = (c.utf8.text, answered_none c.args.command g.A.ContourAnswer.answers c.args.text.now (string_bytes c.new-output.result) c.new-output.ensures.bytes)

pub returns-in_err-read_line-clause-err : goal.returns-in_err-read_line-clause-err
returns-in_err-read_line-clause-err g c =
    let p = err_from_is_err_and c.from_residual.result c.from_residual.ensures.1 in
    rw (p.1, p.2)
    (fault_after c.args.command g.A.ContourAnswer.answers c.args.text.now c.loop-rest.rest.now c.first_line.result.1.now (string_bytes c.loop-rest.output) c.first_line.result.0.now c.loop-rest.number c.in_err-read_line.field-0.0 c.loop-rest.invariant.1 c.first_line.ensures.lines c.in_err-read_line.ensures.err)

pub returns-in_err-answer-clause-err : goal.returns-in_err-answer-clause-err
returns-in_err-answer-clause-err g c =
    let p = err_from_is_err_and c.from_residual-in_err-answer.result c.from_residual-in_err-answer.ensures.1 in
    rw (p.1, p.2, c.in_err-answer.ensures.memory)
    (fault_after c.args.command g.A.ContourAnswer.answers c.args.text.now c.loop-rest.rest.now c.first_line.result.1.now (string_bytes c.loop-rest.output) c.first_line.result.0.now c.loop-rest.number OutOfMemory c.loop-rest.invariant.1 c.first_line.ensures.lines tt)

pub loop-rest-preserved : goal.loop-rest-preserved
loop-rest-preserved g c =
    let (answer, says, grown) = c.in_ok-answer.ensures.ok in
    let line = subst (λ points. g.A.ContourAnswer.answers (contour_of points) answer) c.as_slice.ensures.value says in (
      search rules,
      answer_more c.args.command g.A.ContourAnswer.answers c.args.text.now c.loop-rest.rest.now c.first_line.result.1.now (string_bytes c.loop-rest.output) (string_bytes c.answer.new.output) c.first_line.result.0.now answer (contour_of c.read_line.new.contour.items) c.loop-rest.number c.loop-rest.invariant.1 c.first_line.ensures.lines c.first_line.ensures.shorter c.in_ok-read_line.ensures.ok line grown,
    )

pub returns-clause-ok : goal.returns-clause-ok
returns-clause-ok g c = answered_all c.args.command g.A.ContourAnswer.answers c.args.text.now c.loop-rest.rest.now (string_bytes c.loop-rest.output) c.loop-rest.number c.loop-rest.invariant.1 (search rules)
