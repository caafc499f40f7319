use Rattle.std.proofs.Common.{◌≡◌, ℕ, length, arith, refl, ap, subst, ◌∙◌}
use Rattle.i_shape_core.proofs.Common.{contour_of, IsZeroTurn, IsWalked}
use Rattle.i_shape_core.proofs.Plane.Contours.{length-contour}
use Rattle.i_shape_core.proofs.Walks.StackReads.{push-read}
use Rattle.i_shape_core.proofs.clean.simplifier.stack_places.Goals as goal

pub fill-requires-clause-room : goal.fill-requires-clause-room
fill-requires-clause-room g c = omega (arith, c.requires.room, c.requires.start.end_within, length-contour g.P.Coordinate.IntNumber.value c.args.probe.contour)

pub loop-place-init : goal.loop-place-init
loop-place-init g c = record {
  contour = refl;
  walked = rw c.fill.ensures.items c.requires.start.walked;
  room = omega (arith, c.requires.room, c.fill.ensures.room);
  same_room = refl;
}

pub loop-place-preserved : goal.loop-place-preserved
loop-place-preserved g c =
    let popped = c.pop_zero_turns-probe.ensures in
    let before = c.pop_zero_turns-probe.new.stack.ok.0 in
    let after = c.push_reserved.new.self.ok.0 in
    let longer = c.push_reserved.ensures.len in
    record {
      contour = popped.contour ∙ c.loop-place.invariant.contour;
      walked = record {
        stacked = push-read g.P.Coordinate.IntNumber.value _ _ c.loop-place.invariant.contour _ _ c.loop-place.place popped.stacked
            (omega (arith, ap length c.loop-place.invariant.contour, c.len-place-end.ensures)) popped.settled c.push_reserved.ensures.items;
        fewer = omega (arith, popped.fewer);
        most = omega (arith, popped.most);
        least = omega (arith, popped.least);
      };
      room = rw (← popped.room, ← c.push_reserved.ensures.capacity) at c.loop-place.invariant.room;
      same_room = omega (arith, popped.room, c.push_reserved.ensures.capacity, c.loop-place.invariant.same_room);
    }

pub returns : goal.returns
returns g c =
    let walked = c.loop-place.invariant.walked in
    let all : c.loop-place.place ≡ length (contour_of g.P.Coordinate.IntNumber.value c.args.probe.contour) =
    omega (arith, length-contour g.P.Coordinate.IntNumber.value c.args.probe.contour, c.len-place-end.ensures, c.loop-place.auto.place-end, c.loop-place-test.false, c.requires.start.place_within) in record {
      contour = c.loop-place.invariant.contour;
      walked = subst (λ (k : ℕ). IsWalked IsZeroTurn (contour_of g.P.Coordinate.IntNumber.value c.args.probe.contour) c.loop-place.stack.items k c.loop-place.probe.visits) all walked;
      room = omega (arith, c.loop-place.invariant.same_room, c.fill.ensures.room);
    }
