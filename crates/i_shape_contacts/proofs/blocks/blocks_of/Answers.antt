use Rattle.std.proofs.Common.{◌≡◌, ◌+◌, ◌-◌, ◌/◌, ℕ, length, arith, rules, subst, sym, length-set}
use Rattle.i_shape_contacts.specs.Steps.Boxes.{CountsChunks}
use Rattle.i_shape_contacts.proofs.BlockSteps.{one_block}
use Rattle.i_shape_contacts.proofs.blocks.blocks_of.Goals as goal

pub loop-chunk-init : goal.loop-chunk-init
loop-chunk-init g c =
    let many : length c.in_ok-blocks.blocks.items ≡ (length c.args.points.now - 1) / 8 + 1 = search rules in
    record {
      count = record { enough = omega (arith, many); few = omega (arith, many) };
      within = omega (arith, many);
      blocks = λ m d h l. absurd (omega (arith, h, l, many));
    }

pub loop-chunk-preserved : goal.loop-chunk-preserved
loop-chunk-preserved g c =
    let some = c.loop-chunk-test.true in
    let most = c.loop-chunk.invariant.within in
    let same = length-set c.loop-chunk.blocks.items (c.loop-chunk.chunk - 1) c.block_at.result in
    record {
      count = subst (λ (n : ℕ). CountsChunks n (length c.args.points.now)) (sym same) c.loop-chunk.invariant.count;
      within = omega (arith, most, same);
      blocks = one_block _ _ _ _ c.loop-chunk.chunk (c.loop-chunk.chunk - 1) c.loop-chunk.blocks.items c.block_at.result (omega (arith, some)) (omega (arith, some, most)) c.loop-chunk.invariant.blocks c.block_at.ensures;
    }

pub block_at-requires-clause-later : goal.block_at-requires-clause-later
block_at-requires-clause-later g c =
    let some = c.loop-chunk-test.true in
    λ m d h l. rw c.deref.ensures.value (c.loop-chunk.invariant.blocks m d (omega (arith, h, some)) (rw c.deref.ensures.value at l))

pub block_at-requires-clause-within : goal.block_at-requires-clause-within
block_at-requires-clause-within g c =
    let some = c.loop-chunk-test.true in
    let most = c.loop-chunk.invariant.within in
    let few = c.loop-chunk.invariant.count.few in
    omega (arith, some, most, few)

pub returns-clause-blocks : goal.returns-clause-blocks
returns-clause-blocks g c = λ m d h l. c.loop-chunk.invariant.blocks m d (let none = c.loop-chunk-test.false in omega (arith, none)) l
