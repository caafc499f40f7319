use Rattle.std.proofs.Common.{◌≡◌, ◌<◌, ◌≤◌, length, sym, ◌∙◌, get_or, arith}
use Rattle.std.proofs.lemmas.List.{get_or_read}
use Rattle.i_shape_core.specs.Steps.Walks.{around_gap}
use Rattle.i_shape_core.proofs.Walks.Gaps.{gap_second, gap_second-behind, length-gap}
use Rattle.i_shape_core.proofs.clean.place_ring.Ring.after.Goals as goal
use Rattle.i_shape_core.proofs.clean.place_ring.Ring.after.Goals.{then-next-self, else-next-self}

pub returns : goal.returns
returns c =
    let r = c.self.inside in
    let i = c.self.invariant in
    let at = c.if-next-self.index in
    let ring = around_gap r.places.items r.behind r.ahead r.end in
    let within : r.end ≤ length r.places.items = omega (arith, i.within, r.places.ok.0) in
    let more : 1 < length ring = rw (← c.self.view_is) at c.requires in
    let inside : at < length r.places.items = elim c.if-next-self.branch [
      | then-next-self w ↦ omega (arith, w.index-is, w.if-next-self.true, within)
      | else-next-self w ↦ omega (arith, w.index-is, i.some, within)
    ] in
    let second : get_or ring 1 0 ≡ get_or r.places.items at 0 = elim c.if-next-self.branch [
      | then-next-self w ↦ rw w.index-is (gap_second r.places.items r.behind r.ahead r.end w.if-next-self.true within)
      | else-next-self w ↦ rw w.index-is (gap_second-behind r.places.items r.behind r.ahead r.end
          (omega (arith, more, length-gap r.places.items r.behind r.ahead r.end i.gap i.some within, w.if-next-self.false)) (omega (arith, i.some, w.if-next-self.false)) within)
    ] in
    rw (← c.self.view_is) (get_or_read r.places.items at c.index.result.now inside c.index.ensures 0 ∙ sym second)
