use Rattle.std.proofs.Common.{◌≡◌, ◌<◌, ◌≤◌, ◌-◌, length, sym, ◌∙◌, get_or, arith}
use Rattle.std.proofs.lemmas.List.{get_or_read}
use Rattle.i_shape_core.specs.Steps.Walks.{around_gap}
use Rattle.i_shape_core.proofs.Walks.Gaps.{gap_last-behind, gap_last-end}
use Rattle.i_shape_core.proofs.clean.place_ring.Ring.before.Goals as goal
use Rattle.i_shape_core.proofs.clean.place_ring.Ring.before.Goals.{then-self-gt0, else-self-gt0}

pub returns : goal.returns
returns c =
    let r = c.self.inside in
    let i = c.self.invariant in
    let end = c.if-self-gt0.end in
    let ring = around_gap r.places.items r.behind r.ahead r.end in
    let within : r.end ≤ length r.places.items = omega (arith, i.within, r.places.ok.0) in
    let inside : end - 1 < length r.places.items = elim c.if-self-gt0.branch [
      | then-self-gt0 w ↦ omega (arith, w.end-is, w.if-self-gt0.true, i.gap, i.some, within)
      | else-self-gt0 w ↦ omega (arith, w.end-is, i.some, within)
    ] in
    let last : get_or ring (length ring - 1) 0 ≡ get_or r.places.items (end - 1) 0 = elim c.if-self-gt0.branch [
      | then-self-gt0 w ↦ rw w.end-is (gap_last-behind r.places.items r.behind r.ahead r.end i.some within w.if-self-gt0.true i.gap)
      | else-self-gt0 w ↦ rw w.end-is (gap_last-end r.places.items r.behind r.ahead r.end i.some within (omega (arith, w.if-self-gt0.false)))
    ] in
    rw (← c.self.view_is) (get_or_read r.places.items (end - 1) c.index.result.now inside c.index.ensures 0 ∙ sym last)
