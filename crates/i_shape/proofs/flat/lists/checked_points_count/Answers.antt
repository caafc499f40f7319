use Rattle.std.proofs.Common.{arith}
use Rattle.i_shape.proofs.Lists.EndToEnd.{length_step, length_within}
use Rattle.i_shape.proofs.flat.lists.checked_points_count.Goals as goal

pub returns-in_err-total : goal.returns-in_err-total
returns-in_err-total g c =
    let within = length_within (λ v. v.items) c.args.contours.now c.loop-contour.contour-index c.contour-item.result c.loop-contour-test.true c.contour-item.is c.contour-item.result.len c.contour-item.result.ok.0 in
    rw c.from_residual.ensures (omega (arith, c.in_err-total.ensures))

pub loop-contour-preserved : goal.loop-contour-preserved
loop-contour-preserved g c =
    let more = length_step (λ v. v.items) c.args.contours.now c.loop-contour.contour-index c.contour-item.result c.loop-contour-test.true c.contour-item.is 0 c.loop-contour.total c.in_ok-total.total c.contour-item.result.len (omega arith) c.contour-item.result.ok.0 (omega (arith, c.in_ok-total.ensures)) in
    omega (arith, more)
