use Rattle.std.proofs.Common.{◌≤◌, ◌+◌, ◌-◌, take, length, ap, ◌∙◌, arith}
use Rattle.i_shape_core.proofs.Walks.Gaps.{gap_from_contour_first}
use Rattle.i_shape_core.proofs.clean.place_ring.Ring.into_order.Goals as goal

pub returns-clause-places : goal.returns-clause-places
returns-clause-places c =
    let r = c.self.inside in
    let i = c.self.invariant in
    let within : r.end ≤ length r.places.items = omega (arith, i.within, r.places.ok.0) in
    rw (← c.self.view_is) (c.rotate_left.ensures.items ∙ gap_from_contour_first r.places.items c.truncate.new.self.items r.behind r.ahead r.end r.first i.gap i.some within i.start
    (c.truncate.ensures.items ∙ ap (take (r.behind + (r.end - r.ahead))) c.copy_within.ensures.items))
