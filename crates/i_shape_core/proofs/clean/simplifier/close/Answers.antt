use Rattle.std.proofs.Common.{◌≡◌, ◌-◌, ℕ, List, length, arith, refl, ap, ◌∙◌}
use Rattle.std.proofs.lemmas.List.{length-take, length-drop, length-map, length-append}
use Rattle.i_shape_core.proofs.Common.{points_left, contour_of, point_at, Point}
use Rattle.i_shape_core.proofs.Plane.Contours.{length-contour}
use Rattle.i_shape_core.proofs.Walks.StackReads.{place-within, first-read, last-read, end-read}
use Rattle.i_shape_core.proofs.clean.simplifier.close.Goals as goal

pub loop-left-init : goal.loop-left-init
loop-left-init g c = record {
  contour = refl;
  stacked = c.requires.walked.stacked;
  fewer = omega arith;
  most = omega (arith, c.requires.walked.fewer, c.requires.walked.most);
  least = omega (arith, c.requires.walked.least);
}

pub is_zero_at-requires-clause-previous_within : goal.is_zero_at-requires-clause-previous_within
is_zero_at-requires-clause-previous_within g c =
    place-within g.P.Coordinate.IntNumber.value _ _ c.loop-left.invariant.contour c.loop-left.left.now _ _ c.loop-left.invariant.stacked (omega arith)

pub is_zero_at-requires-clause-place_within : goal.is_zero_at-requires-clause-place_within
is_zero_at-requires-clause-place_within g c =
    place-within g.P.Coordinate.IntNumber.value _ _ c.loop-left.invariant.contour c.loop-left.left.now _ _ c.loop-left.invariant.stacked (omega arith)

pub is_zero_at-requires-clause-next_within : goal.is_zero_at-requires-clause-next_within
is_zero_at-requires-clause-next_within g c =
    place-within g.P.Coordinate.IntNumber.value _ _ c.loop-left.invariant.contour c.loop-left.left.now _ _ c.loop-left.invariant.stacked (omega arith)

pub is_zero_at-requires-clause-room : goal.is_zero_at-requires-clause-room
is_zero_at-requires-clause-room g c =
    grind (arith, c.requires.room, c.loop-left.invariant.most, length-contour g.P.Coordinate.IntNumber.value c.args.probe.contour)

pub loop-left-preserved-then-is_zero_at : goal.loop-left-preserved-then-is_zero_at
loop-left-preserved-then-is_zero_at g c =
    let inv = c.loop-left.invariant in
    let rest = c.without_first-left.ensures in
    let shorter : length c.without_first-left.result.now ≡ length c.loop-left.left.now - 1 = ap length rest ∙ length-drop 1 c.loop-left.left.now in
    record {
      contour = c.is_zero_at.ensures.contour ∙ inv.contour;
      stacked = first-read g.P.Coordinate.IntNumber.value _ _ inv.contour c.loop-left.left.now c.without_first-left.result.now (length c.loop-left.left.now - 1)
          c.is_zero_at.result inv.stacked (omega arith) (omega arith) c.is_zero_at.ensures.test c.if-is_zero_at.true rest;
      fewer = omega (arith, inv.fewer);
      most = omega (arith, inv.most, c.is_zero_at.ensures.visits);
      least = omega (arith, inv.least, c.is_zero_at.ensures.visits);
    }

pub is_zero_at-requires-else-is_zero_at-clause-previous_within : goal.is_zero_at-requires-else-is_zero_at-clause-previous_within
is_zero_at-requires-else-is_zero_at-clause-previous_within g c =
    place-within g.P.Coordinate.IntNumber.value _ _ (c.is_zero_at.ensures.contour ∙ c.loop-left.invariant.contour) c.loop-left.left.now _ _ c.loop-left.invariant.stacked (omega arith)

pub is_zero_at-requires-else-is_zero_at-clause-place_within : goal.is_zero_at-requires-else-is_zero_at-clause-place_within
is_zero_at-requires-else-is_zero_at-clause-place_within g c =
    place-within g.P.Coordinate.IntNumber.value _ _ (c.is_zero_at.ensures.contour ∙ c.loop-left.invariant.contour) c.loop-left.left.now _ _ c.loop-left.invariant.stacked (omega arith)

pub is_zero_at-requires-else-is_zero_at-clause-next_within : goal.is_zero_at-requires-else-is_zero_at-clause-next_within
is_zero_at-requires-else-is_zero_at-clause-next_within g c =
    place-within g.P.Coordinate.IntNumber.value _ _ (c.is_zero_at.ensures.contour ∙ c.loop-left.invariant.contour) c.loop-left.left.now _ _ c.loop-left.invariant.stacked (omega arith)

pub is_zero_at-requires-else-is_zero_at-clause-room : goal.is_zero_at-requires-else-is_zero_at-clause-room
is_zero_at-requires-else-is_zero_at-clause-room g c =
    grind (arith, c.requires.room, c.loop-left.invariant.most, c.is_zero_at.ensures.visits, length-contour g.P.Coordinate.IntNumber.value c.args.probe.contour)

pub loop-left-preserved : goal.loop-left-preserved
loop-left-preserved g c =
    let inv = c.loop-left.invariant in
    let rest = c.without_last-left.ensures in
    let shorter = ap length rest ∙ length-take (length c.loop-left.left.now - 1) c.loop-left.left.now in
    record {
      contour = c.is_zero_at-else-is_zero_at.ensures.contour ∙ (c.is_zero_at.ensures.contour ∙ inv.contour);
      stacked = last-read g.P.Coordinate.IntNumber.value _ _ (c.is_zero_at.ensures.contour ∙ inv.contour) c.loop-left.left.now c.without_last-left.result.now
          (length c.loop-left.left.now - 1 - 1) (length c.loop-left.left.now - 1) c.is_zero_at-else-is_zero_at.result inv.stacked
          (omega arith) (omega arith) (omega arith) c.is_zero_at-else-is_zero_at.ensures.test c.if-is_zero_at-2.true rest;
      fewer = omega (arith, inv.fewer, shorter);
      most = omega (arith, inv.most, c.is_zero_at.ensures.visits, c.is_zero_at-else-is_zero_at.ensures.visits, shorter);
      least = omega (arith, inv.least, c.is_zero_at.ensures.visits, c.is_zero_at-else-is_zero_at.ensures.visits);
    }

pub returns-else-is_zero_at-2-clause-rising : goal.returns-else-is_zero_at-2-clause-rising
returns-else-is_zero_at-2-clause-rising g c = rw (length-contour g.P.Coordinate.IntNumber.value c.args.probe.contour) at c.loop-left.invariant.stacked.rising

pub returns-else-is_zero_at-2-clause-answer : goal.returns-else-is_zero_at-2-clause-answer
returns-else-is_zero_at-2-clause-answer g c =
    let inv = c.loop-left.invariant in
    let left : List ℕ = c.loop-left.left.now in
    let second = c.is_zero_at.ensures.contour ∙ inv.contour in
    let whole : List Point = contour_of g.P.Coordinate.IntNumber.value c.args.probe.contour in
    record {
      ended = end-read g.P.Coordinate.IntNumber.value c.args.probe.contour c.loop-left.probe.contour inv.contour c.is_zero_at.new.probe.contour second left (length left - 1 - 1) (length left - 1)
          c.is_zero_at.result c.is_zero_at-else-is_zero_at.result inv.stacked (omega arith) (omega arith) (omega arith)
          c.is_zero_at.ensures.test c.if-is_zero_at.false c.is_zero_at-else-is_zero_at.ensures.test c.if-is_zero_at-2.false;
      enough = omega (arith, length-map left (point_at whole));
      least = omega (arith, inv.least, c.is_zero_at.ensures.visits, c.is_zero_at-else-is_zero_at.ensures.visits);
      most = omega (arith, inv.most, c.is_zero_at.ensures.visits, c.is_zero_at-else-is_zero_at.ensures.visits);
    }

pub returns-clause-answer : goal.returns-clause-answer
returns-clause-answer g c =
    let inv = c.loop-left.invariant in
    let whole : List Point = contour_of g.P.Coordinate.IntNumber.value c.args.probe.contour in
    record {
      rest = points_left whole c.loop-left.left.now (length whole);
      reached = inv.stacked.reached;
      few = simp (length-append, length-map, length-drop) (omega arith);
      least = omega (arith, inv.least);
      most = omega (arith, inv.most);
    }
