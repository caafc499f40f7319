use Rattle.i_shape_c.proofs.Compacted.{IndicesBegun}
use Rattle.i_shape_c.proofs.compact.write_indices.Given as goal

abbrev pub invariant-loop-shape : goal.invariant-loop-shape
invariant-loop-shape l = IndicesBegun l.contours l.shapes (record { contours = l.fn.out_contours; shapes = l.fn.out_shapes; offsets = l.fn.out_offsets }) l.shape (record { contours = l.out_contours; shapes = l.out_shapes; offsets = l.out_offsets }) l.end l.count
