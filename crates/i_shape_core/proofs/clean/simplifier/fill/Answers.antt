use Rattle.std.proofs.Common.{◌-◌, arith, rules}
use Rattle.i_shape_core.proofs.Walks.Prefixes.{range_more}
use Rattle.i_shape_core.proofs.clean.simplifier.fill.Goals as goal

pub loop-place-preserved : goal.loop-place-preserved
loop-place-preserved c =
    let before = c.loop-place.stack.ok.0 in
    record {
      items = range_more c.loop-place.stack.items c.push_reserved.new.self.items c.args.first (c.loop-place.place - c.args.first) _ c.loop-place.place
          c.loop-place.invariant.items (omega (arith, c.loop-place.auto.place)) (omega (arith, c.loop-place.auto.place)) c.push_reserved.ensures.items;
      len = omega (arith, c.push_reserved.ensures.len, c.loop-place.invariant.len);
      room = omega (arith, c.push_reserved.ensures.capacity, c.loop-place.invariant.room);
    }

pub loop-place-init : goal.loop-place-init
loop-place-init = search rules
