use Rattle.std.proofs.Common.{◌≡◌, ◌∙◌, ◌-◌, arith}
use Rattle.i_shape_core.proofs.Walks.Gaps.{full_more, starting_ring}
use Rattle.i_shape_core.proofs.clean.place_ring.Ring.starting_at.Goals as goal

pub loop-each-preserved : goal.loop-each-preserved
loop-each-preserved c = record {
  places = full_more c.loop-each.places.items c.push_reserved.new.self.items c.loop-each.each c.loop-each.invariant.places c.push_reserved.ensures.items;
  len = omega (arith, c.push_reserved.ensures.len, c.loop-each.invariant.len);
  room = omega (arith, c.push_reserved.ensures.capacity, c.loop-each.invariant.room);
  kept = omega (arith, c.push_reserved.ensures.capacity, c.loop-each.invariant.kept);
}

pub returns : goal.returns
returns c =
    let all : c.loop-each.each ≡ c.args.count = omega (arith, c.loop-each.auto.each-end, c.loop-each-test.false) in
    starting_ring c.loop-each.places.items c.args.count c.loop-each.each c.args.place (c.args.count - c.args.place) _ _ c.loop-each.invariant.places
    (omega (arith, c.loop-each.invariant.len, c.loop-each.places.ok.0)) (omega (arith, all)) c.requires.within (c.loop-each.invariant.kept ∙ c.clear.ensures.capacity)
