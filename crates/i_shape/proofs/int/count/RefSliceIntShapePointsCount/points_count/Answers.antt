use Rattle.std.proofs.Common.{vec_len, sum_by}
use Rattle.i_shape.proofs.Lists.WrappedSums.{count-rest}
use Rattle.i_shape.proofs.int.count.RefSliceIntShapePointsCount.points_count.Goals as goal

pub loop-shape-preserved : goal.loop-shape-preserved
loop-shape-preserved g c =
    rw (c.points_count-count.ensures, c.as_slice.ensures.value)
    (count-rest (λ shape. sum_by (λ contour. vec_len contour) shape.items) c.args.self.now.now c.loop-shape.shape-index c.loop-shape.count c.shape-item.result
    c.loop-shape-test.true c.shape-item.is c.loop-shape.invariant)
