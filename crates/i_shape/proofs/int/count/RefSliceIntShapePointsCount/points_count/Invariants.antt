use Rattle.std.proofs.Common.{vec_len, sum_by}
use Rattle.i_shape.proofs.Lists.WrappedSums.{IsCounted}
use Rattle.i_shape.proofs.int.count.RefSliceIntShapePointsCount.points_count.Given as goal

abbrev pub invariant-loop-shape : goal.invariant-loop-shape
invariant-loop-shape g l = IsCounted (λ shape. sum_by (λ contour. vec_len contour) shape.items) l.shapes l.shape-index l.count
