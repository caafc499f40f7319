use Rattle.std.proofs.Common.{◌≤◌, ◌+◌, ◌-◌, set, length, ◌∙◌, inl, inr, refl, arith}
use Rattle.std.proofs.lemmas.List.{get_or_read}
use Rattle.i_shape_core.specs.Steps.Walks.{around_gap}
use Rattle.i_shape_core.proofs.Walks.Gaps.{gap_kept, gap_rotated, kept_lead, length-gap}
use Rattle.i_shape_core.proofs.clean.place_ring.Ring.keep.Goals as goal

pub returns-then-self-clause-places : goal.returns-then-self-clause-places
returns-then-self-clause-places c =
    let r = c.self.inside in
    let i = c.self.invariant in
    let within : r.end ≤ length r.places.items = omega (arith, i.within, r.places.ok.0) in
    let read = get_or_read r.places.items r.ahead c.index.result.now (omega (arith, i.some, within)) c.index.ensures 0 in
    rw (← c.self.view_is) (gap_rotated (set r.places.items r.behind c.index.result.now) (r.behind + 1) (r.ahead + 1) r.end c.if-self.true
    ∙ gap_kept r.places.items r.behind r.ahead r.end c.index.result.now i.gap i.some within read)

pub returns-else-self-clause-places : goal.returns-else-self-clause-places
returns-else-self-clause-places c =
    let r = c.self.inside in
    let i = c.self.invariant in
    let within : r.end ≤ length r.places.items = omega (arith, i.within, r.places.ok.0) in
    let read = get_or_read r.places.items r.ahead c.index.result.now (omega (arith, i.some, within)) c.index.ensures 0 in
    rw (← c.self.view_is) (gap_kept r.places.items r.behind r.ahead r.end c.index.result.now i.gap i.some within read)

pub returns-then-self-clause-lead : goal.returns-then-self-clause-lead
returns-then-self-clause-lead c =
    let r = c.self.inside in
    let i = c.self.invariant in
    let within : r.end ≤ length r.places.items = omega (arith, i.within, r.places.ok.0) in
    let long = length-gap r.places.items r.behind r.ahead r.end i.gap i.some within in
    rw (← c.self.view_is) (kept_lead (length (around_gap r.places.items r.behind r.ahead r.end)) (r.behind + (r.end - r.ahead)) (0 + (r.behind + 1 - 0)) r.first r.behind 0
    long (omega (arith, c.if-self.true)) (omega (arith, i.some)) i.start (inr (omega (arith, c.if-self.true), refl)))

pub returns-else-self-clause-lead : goal.returns-else-self-clause-lead
returns-else-self-clause-lead c =
    let r = c.self.inside in
    let i = c.self.invariant in
    let within : r.end ≤ length r.places.items = omega (arith, i.within, r.places.ok.0) in
    let long = length-gap r.places.items r.behind r.ahead r.end i.gap i.some within in
    rw (← c.self.view_is) (kept_lead (length (around_gap r.places.items r.behind r.ahead r.end)) (r.behind + (r.end - r.ahead)) (r.behind + 1 + (r.end - (r.ahead + 1))) r.first r.behind (r.behind + 1)
    long (omega (arith, i.some)) (omega (arith, i.some)) i.start (inl (omega (arith, i.some, c.if-self.false), refl)))
