use Rattle.i_shape.proofs.CallerLemmas.{safe_named}
use Rattle.refusals.proofs.flat_buffers.test_shapes.Goals as goal

pub returns-clause-safe : goal.returns-clause-safe
returns-clause-safe g c = safe_named g.I.IntNumber.width g.I.IntNumber.value c.args.buffer.now (c.is_in_safe_range.ensures.paths.0 (cc))
