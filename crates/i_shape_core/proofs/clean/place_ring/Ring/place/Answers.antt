use Rattle.std.proofs.Common.{sym, ◌∙◌, arith}
use Rattle.std.proofs.lemmas.List.{get_or_read}
use Rattle.i_shape_core.proofs.Walks.Gaps.{gap_first}
use Rattle.i_shape_core.proofs.clean.place_ring.Ring.place.Goals as goal

pub returns : goal.returns
returns c =
    let r = c.self.inside in
    let i = c.self.invariant in
    rw (← c.self.view_is) (get_or_read r.places.items r.ahead c.index.result.now (omega (arith, i.some, i.within, r.places.ok.0)) c.index.ensures 0
    ∙ sym (gap_first r.places.items r.behind r.ahead r.end i.some (omega (arith, i.within, r.places.ok.0))))
