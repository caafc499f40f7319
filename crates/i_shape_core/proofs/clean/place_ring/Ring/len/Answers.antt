use Rattle.std.proofs.Common.{sym, arith}
use Rattle.i_shape_core.proofs.Walks.Gaps.{length-gap}
use Rattle.i_shape_core.proofs.clean.place_ring.Ring.len.Goals as goal

pub returns : goal.returns
returns c =
    let r = c.self.inside in
    let i = c.self.invariant in
    rw (← c.self.view_is) (sym (length-gap r.places.items r.behind r.ahead r.end i.gap i.some (omega (arith, i.within, r.places.ok.0))))
