use Rattle.std.proofs.Common.{◌≡◌, ◌≤◌, ◌<◌, ◌+◌, ◌-◌, length, refl, arith}
use Rattle.i_shape_core.specs.Steps.Walks.{around_gap}
use Rattle.i_shape_core.proofs.Walks.Gaps.{gap_removed-behind, gap_removed-end, length-gap, removed_told}
use Rattle.i_shape_core.proofs.clean.place_ring.Ring.remove.Goals as goal

pub first_without-self-inside-requires-clause-first : goal.first_without-self-inside-requires-clause-first
first_without-self-inside-requires-clause-first c =
    let r = c.self.inside in
    let i = c.self.invariant in
    let long : length c.args.self.now.places ≡ r.behind + (r.end - r.ahead) = rw (← c.self.view_is) (length-gap r.places.items r.behind r.ahead r.end i.gap i.some (omega (arith, i.within, r.places.ok.0))) in
    omega (arith, i.start, c.len-left.ensures, long)

pub first_without-self-inside-requires-clause-behind : goal.first_without-self-inside-requires-clause-behind
first_without-self-inside-requires-clause-behind c =
    let r = c.self.inside in
    let i = c.self.invariant in
    let long : length c.args.self.now.places ≡ r.behind + (r.end - r.ahead) = rw (← c.self.view_is) (length-gap r.places.items r.behind r.ahead r.end i.gap i.some (omega (arith, i.within, r.places.ok.0))) in
    omega (arith, i.some, c.len-left.ensures, long)

pub invariant_of-self : goal.invariant_of-self
invariant_of-self c =
    let r = c.self.inside in
    let i = c.self.invariant in
    let long : length c.args.self.now.places ≡ r.behind + (r.end - r.ahead) = rw (← c.self.view_is) (length-gap r.places.items r.behind r.ahead r.end i.gap i.some (omega (arith, i.within, r.places.ok.0))) in
    record {
      gap = omega (arith, i.gap);
      some = i.some;
      within = i.within;
      start = omega (arith, c.first_without-self-inside.ensures.within, c.len-left.ensures, long, c.if-self-gt0.true);
    }

pub invariant_of-self-else-self-gt0 : goal.invariant_of-self-else-self-gt0
invariant_of-self-else-self-gt0 c =
    let r = c.self.inside in
    let i = c.self.invariant in
    let long : length c.args.self.now.places ≡ r.behind + (r.end - r.ahead) = rw (← c.self.view_is) (length-gap r.places.items r.behind r.ahead r.end i.gap i.some (omega (arith, i.within, r.places.ok.0))) in
    record {
      gap = i.gap;
      some = omega (arith, i.some, c.requires, long, c.if-self-gt0.false);
      within = omega (arith, i.within);
      start = omega (arith, c.first_without-self-inside.ensures.within, c.len-left.ensures, long, c.if-self-gt0.false, i.some);
    }

pub returns-then-self-gt0-clause-places : goal.returns-then-self-gt0-clause-places
returns-then-self-gt0-clause-places c =
    let r = c.self.inside in
    let i = c.self.invariant in
    rw (← c.self.view_is) (gap_removed-behind r.places.items r.behind r.ahead r.end c.before-before.result c.if-self-gt0.true i.gap i.some (omega (arith, i.within, r.places.ok.0))
    (rw (← c.self.view_is) at c.before-before.ensures))

pub returns-else-self-gt0-clause-places : goal.returns-else-self-gt0-clause-places
returns-else-self-gt0-clause-places c =
    let r = c.self.inside in
    let i = c.self.invariant in
    let within : r.end ≤ length r.places.items = omega (arith, i.within, r.places.ok.0) in
    let long : length c.args.self.now.places ≡ r.behind + (r.end - r.ahead) = rw (← c.self.view_is) (length-gap r.places.items r.behind r.ahead r.end i.gap i.some within) in
    let more : r.ahead + 1 < r.end = omega (arith, i.some, c.requires, long, c.if-self-gt0.false) in
    rw (← c.self.view_is) (gap_removed-end r.places.items r.behind r.ahead r.end c.before-before.result (omega (arith, c.if-self-gt0.false)) more within
    (rw (← c.self.view_is) at c.before-before.ensures))

pub returns-then-self-gt0-clause-lead : goal.returns-then-self-gt0-clause-lead
returns-then-self-gt0-clause-lead c =
    let r = c.self.inside in
    let i = c.self.invariant in
    let within : r.end ≤ length r.places.items = omega (arith, i.within, r.places.ok.0) in
    let whole = length-gap r.places.items r.behind r.ahead r.end i.gap i.some within in
    let long : length c.args.self.now.places ≡ r.behind + (r.end - r.ahead) = rw (← c.self.view_is) whole in
    rw (← c.self.view_is) (removed_told (c.len-left.result - 1) r.first r.behind c.first_without-self-inside.result (r.behind - 1) c.first_without-self-inside.ensures.lead
    (length (around_gap r.places.items r.behind r.ahead r.end)) (r.behind + (r.end - r.ahead)) (r.behind - 1 + (r.end - r.ahead)) (r.behind - 1)
    (omega (arith, whole, c.len-left.ensures, long, i.some)) (omega (arith, c.len-left.ensures, long, i.some)) (omega (arith, c.len-left.ensures, long, c.if-self-gt0.true)) refl)

pub returns-else-self-gt0-clause-lead : goal.returns-else-self-gt0-clause-lead
returns-else-self-gt0-clause-lead c =
    let r = c.self.inside in
    let i = c.self.invariant in
    let within : r.end ≤ length r.places.items = omega (arith, i.within, r.places.ok.0) in
    let whole = length-gap r.places.items r.behind r.ahead r.end i.gap i.some within in
    let long : length c.args.self.now.places ≡ r.behind + (r.end - r.ahead) = rw (← c.self.view_is) whole in
    rw (← c.self.view_is) (removed_told (c.len-left.result - 1) r.first r.behind c.first_without-self-inside.result (r.behind - 1) c.first_without-self-inside.ensures.lead
    (length (around_gap r.places.items r.behind r.ahead r.end)) (r.behind + (r.end - r.ahead)) (r.behind + (r.end - 1 - r.ahead)) r.behind
    (omega (arith, whole, c.len-left.ensures, long, i.some)) (omega (arith, c.len-left.ensures, long, i.some)) (omega (arith, c.len-left.ensures, long, c.if-self-gt0.false, i.some)) (omega (arith, c.if-self-gt0.false)))
