use Rattle.i_shape.proofs.CallerLemmas.{points_read}
use Rattle.callers.proofs.chain.area_by_buffer.Goals as goal

pub area_two-requires : goal.area_two-requires
area_two-requires g c = rw c.as_slice.ensures.value (points_read g.I.IntNumber.value _ c.simplify_contours.new.self c.in_ok-kept.kept.items c.in_ok-simplify_contours.ensures.gives.cleaned c.in_ok-kept.ensures.ok)
