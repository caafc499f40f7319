use Rattle.std.proofs.Common.{rules}
use Rattle.std.proofs.lemmas.Result.{err_from_is_err_and}
use Rattle.i_shape_tool.specs.declared.fault.ToolFault.TheVariants.{OutOfMemory}
use Rattle.i_shape_tool.proofs.Running.Gathering.{gathered_none, gather_more, gathered_all, fault_after_gathered}
use Rattle.i_shape_tool.proofs.compact.gather.Goals as goal

pub loop-rest-init : goal.loop-rest-init
loop-rest-init c = (c.utf8.text, gathered_none c.args.text.now c.new-buffer.result c.new-buffer.ensures)

pub returns-in_err-read_line-clause-err : goal.returns-in_err-read_line-clause-err
returns-in_err-read_line-clause-err c =
    let p = err_from_is_err_and c.from_residual.result c.from_residual.ensures.1 in
    rw (p.1, p.2)
    (fault_after_gathered c.args.text.now c.loop-rest.rest.now c.first_line.result.1.now c.first_line.result.0.now c.loop-rest.buffer c.loop-rest.number c.in_err-read_line.field-0.0 c.loop-rest.invariant.1 c.first_line.ensures.lines c.in_err-read_line.ensures.err)

pub returns-in_err-add_contour-clause-err : goal.returns-in_err-add_contour-clause-err
returns-in_err-add_contour-clause-err c =
    let p = err_from_is_err_and c.from_residual-in_err-add_contour.result c.from_residual-in_err-add_contour.ensures.1 in
    rw (p.1, p.2)
    (fault_after_gathered c.args.text.now c.loop-rest.rest.now c.first_line.result.1.now c.first_line.result.0.now c.loop-rest.buffer c.loop-rest.number OutOfMemory c.loop-rest.invariant.1 c.first_line.ensures.lines tt)

pub loop-rest-preserved : goal.loop-rest-preserved
loop-rest-preserved c = (
  search rules,
  gather_more c.args.text.now c.loop-rest.rest.now c.first_line.result.1.now c.first_line.result.0.now c.loop-rest.buffer c.add_contour.new.self c.read_line.new.contour.items c.loop-rest.number c.loop-rest.invariant.1 c.first_line.ensures.lines c.first_line.ensures.shorter c.in_ok-read_line.ensures.ok (search rules) (search rules),
)

pub returns-clause-gathered : goal.returns-clause-gathered
returns-clause-gathered c = gathered_all c.args.text.now c.loop-rest.rest.now c.loop-rest.buffer c.loop-rest.number c.loop-rest.invariant.1 (search rules)
