use Rattle.i_shape.proofs.CallerLemmas.{safe_shapes_held}
use Rattle.callers.proofs.buffer.set_shapes.Goals as goal

pub simplify_contours-requires-clause-safe : goal.simplify_contours-requires-clause-safe
simplify_contours-requires-clause-safe g c = safe_shapes_held g.I.IntNumber.width g.I.IntNumber.value c.set_with_shapes.new.self c.args.shapes.now c.in_ok-set_with_shapes.ensures.ok (c.is_in_safe_range.ensures.safe.0 (cc)).0
