use Rattle.std.proofs.Common.{◌≡◌, ◌+◌, ◌-◌, ◌≤◌, ℕ, length, get_or, vec_len, arith, ◌∙◌, ap, length-take-le}
use Rattle.i_shape_core.proofs.Walks.StackReads.{pop-read, each-within, settled-read}
use Rattle.i_shape_core.proofs.clean.simplifier.pop_zero_turns.Goals as goal

pub is_zero_at-requires-clause-previous_within : goal.is_zero_at-requires-clause-previous_within
is_zero_at-requires-clause-previous_within g c =
    let within = each-within g.P.Coordinate.IntNumber.value _ _ c.loop-stack.invariant.contour c.loop-stack.stack.items _ (c.len-top.result - 1 - 1) c.index.result.now
    c.loop-stack.invariant.walked.stacked (omega arith) in
    omega (arith, c.index.ensures, within)

pub is_zero_at-requires-clause-place_within : goal.is_zero_at-requires-clause-place_within
is_zero_at-requires-clause-place_within g c =
    let within = each-within g.P.Coordinate.IntNumber.value _ _ c.loop-stack.invariant.contour c.loop-stack.stack.items _ (c.len-top.result - 1) c.index-in-loop-stack.result.now
    c.loop-stack.invariant.walked.stacked (omega arith) in
    omega (arith, c.index-in-loop-stack.ensures, within)

pub returns-then-not-is_zero_at-clause-settled : goal.returns-then-not-is_zero_at-clause-settled
returns-then-not-is_zero_at-clause-settled g c = λ j k long next.
    let stack = c.loop-stack.stack.items in
    let top : c.len-top.result - 1 ≡ k = omega arith in
    let below : c.len-top.result - 1 - 1 ≡ j = omega arith in
    settled-read g.P.Coordinate.IntNumber.value _ _ c.loop-stack.invariant.contour stack c.args.place j k _ _ c.is_zero_at.result long next
    (c.index.ensures ∙ ap (λ (i : ℕ). get_or stack i c.index.result.now) below)
    (c.index-in-loop-stack.ensures ∙ ap (λ (i : ℕ). get_or stack i c.index-in-loop-stack.result.now) top)
    c.is_zero_at.ensures.test c.if-not-is_zero_at.true

pub loop-stack-preserved : goal.loop-stack-preserved
loop-stack-preserved g c =
    let walked = c.loop-stack.invariant.walked in
    let top : ℕ = c.len-top.result - 1 in
    let before = c.loop-stack.stack.ok.0 in
    let after = c.pop.new.self.ok.0 in
    let room : 2 ≤ length c.loop-stack.stack.items = omega arith in
    let shorter : vec_len c.pop.new.self + 1 ≡ vec_len c.loop-stack.stack = omega (arith, length-take-le (vec_len c.loop-stack.stack - 1) c.loop-stack.stack.items (omega arith), ap length c.pop.ensures.rest) in
    record {
      contour = c.is_zero_at.ensures.contour ∙ c.loop-stack.invariant.contour;
      walked = record {
        stacked = pop-read g.P.Coordinate.IntNumber.value _ _ c.loop-stack.invariant.contour c.loop-stack.stack.items _ c.args.place (top - 1) top _ _
            c.is_zero_at.result walked.stacked (omega arith) (omega arith) c.requires.within
            c.index.ensures c.index-in-loop-stack.ensures c.is_zero_at.ensures.test c.if-not-is_zero_at.false (rw (← c.len-top.ensures) at c.pop.ensures.rest);
        fewer = omega (arith, walked.fewer);
        most = omega (arith, walked.most, c.is_zero_at.ensures.visits);
        least = omega (arith, walked.least, c.is_zero_at.ensures.visits);
      };
      room = c.pop.ensures.capacity ∙ c.loop-stack.invariant.room;
      counted = omega (arith, shorter, c.is_zero_at.ensures.visits, c.loop-stack.invariant.counted);
    }
