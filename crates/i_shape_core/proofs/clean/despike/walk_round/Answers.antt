use Rattle.std.proofs.Common.{◌≡◌, ◌∙◌, ◌<◌, List, map, length, refl, sym, ap, subst, arith}
use Rattle.std.proofs.lemmas.List.{length-map, length-append, length-drop, length-take}
use Rattle.i_shape_core.proofs.Common.{contour_of, Point, IsBack, point_at, Falls, IsRingState, from_contour_first}
use Rattle.i_shape_core.proofs.Plane.Contours.{refuted_by_test, length-contour}
use Rattle.i_shape_core.proofs.Walks.RingStates.{state_keeps, state_removes, state_collapses, state_ends, removed_last, held_kept, held_removed}
use Rattle.i_shape_core.proofs.clean.despike.walk_round.Goals as goal

pub is_back_over-requires : goal.is_back_over-requires
is_back_over-requires g c =
    grind (arith, c.requires.room, c.loop-before.invariant.state.at_most, c.loop-before.invariant.state.walk.enough, length-contour g.P.Coordinate.IntNumber.value c.args.probe.contour)

pub loop-before-smaller-then-not-is_back_over : goal.loop-before-smaller-then-not-is_back_over
loop-before-smaller-then-not-is_back_over g c =
    let whole : List Point = contour_of g.P.Coordinate.IntNumber.value c.args.probe.contour in
    let same = simp (length-append, length-drop) at (ap length c.keep.ensures.places) in
    omega (arith, c.loop-before.invariant.state.walk.enough, length-map c.loop-before.ring.places (point_at whole), same, c.keep.ensures.untested)

pub loop-before-preserved-then-not-is_back_over : goal.loop-before-preserved-then-not-is_back_over
loop-before-preserved-then-not-is_back_over g c =
    let value = g.P.Coordinate.IntNumber.value in
    let whole : List Point = contour_of value c.args.probe.contour in
    let inv = c.loop-before.invariant in
    let ring = c.loop-before.ring in
    let test = rw (inv.held.before, inv.held.here, inv.held.after) at c.is_back_over.ensures.test in
    let contour = c.is_back_over.ensures.contour ∙ inv.contour in
    let next = rw (contour, c.after-then-not-is_back_over.ensures) at c.hold-after-then-not-is_back_over.ensures in
    record {
      contour = contour;
      state = subst (IsRingState IsBack whole c.keep.new.self) (sym c.is_back_over.ensures.visits)
          (state_keeps whole ring.places c.keep.new.self.places ring.untested c.keep.new.self.untested ring.lead c.keep.new.self.lead c.loop-before.probe.visits inv.state
          (omega (arith, c.loop-before-test.true, c.untested.ensures)) (refuted_by_test c.is_back_over.result test (λ h. h, λ h. h) c.if-not-is_back_over.true)
          c.keep.ensures.places c.keep.ensures.untested c.keep.ensures.lead);
      held = held_kept whole ring.places c.keep.new.self.places _ _ _ _ inv.held (omega (arith, inv.state.walk.enough, length-map ring.places (point_at whole))) c.keep.ensures.places next;
      room = c.keep.ensures.room ∙ inv.room;
    }

pub loop-before-smaller : goal.loop-before-smaller
loop-before-smaller g c =
    let shorter = simp (length-drop, length-take) at (ap length c.remove.ensures.places) in
    omega (arith, shorter, c.remove.ensures.untested)

pub hold-before-requires-then-len-gt3 : goal.hold-before-requires-then-len-gt3
hold-before-requires-then-len-gt3 g c =
    let value = g.P.Coordinate.IntNumber.value in
    let whole : List Point = contour_of value c.args.probe.contour in
    let inv = c.loop-before.invariant in
    let ring = c.loop-before.ring in
    let long : length whole ≡ length c.is_back_over.new.probe.contour = length-contour value c.args.probe.contour ∙ ap length (sym (c.is_back_over.ensures.contour ∙ inv.contour)) in
    let last = removed_last whole ring.places c.remove.new.self.places inv.state.below (omega (arith, c.if-len-gt3.true, c.len.ensures)) c.remove.ensures.places in
    omega (arith, last, long, c.before-then-len-gt3.ensures)

pub loop-before-preserved : goal.loop-before-preserved
loop-before-preserved g c =
    let value = g.P.Coordinate.IntNumber.value in
    let whole : List Point = contour_of value c.args.probe.contour in
    let inv = c.loop-before.invariant in
    let ring = c.loop-before.ring in
    let test = rw (inv.held.before, inv.held.here, inv.held.after) at c.is_back_over.ensures.test in
    let contour = c.is_back_over.ensures.contour ∙ inv.contour in
    let next = rw (contour, c.before-then-len-gt3.ensures) at c.hold-before-then-len-gt3.ensures in
    let long : 3 < length ring.places = omega (arith, c.if-len-gt3.true, c.len.ensures) in
    record {
      contour = contour;
      state = subst (IsRingState IsBack whole c.remove.new.self) (sym c.is_back_over.ensures.visits)
          (state_removes whole ring.places c.remove.new.self.places ring.untested c.remove.new.self.untested ring.lead c.remove.new.self.lead c.loop-before.probe.visits inv.state
          (omega (arith, c.loop-before-test.true, c.untested.ensures)) (test.0 c.if-not-is_back_over.false) long
          c.remove.ensures.places c.remove.ensures.untested c.remove.ensures.lead);
      held = held_removed whole ring.places c.remove.new.self.places _ _ _ _ inv.held long c.remove.ensures.places next;
      room = c.remove.ensures.room ∙ inv.room;
    }

pub returns-else-len-gt3-clause-falls : goal.returns-else-len-gt3-clause-falls
returns-else-len-gt3-clause-falls g c = λ no.
    let whole : List Point = contour_of g.P.Coordinate.IntNumber.value c.args.probe.contour in
    let inv = c.loop-before.invariant in
    let ring = c.loop-before.ring in
    let test = rw (inv.held.before, inv.held.here, inv.held.after) at c.is_back_over.ensures.test in
    let three : length ring.places ≡ 3 = omega (arith, c.if-len-gt3.false, c.len.ensures, inv.state.walk.enough, length-map ring.places (point_at whole)) in
    subst (Falls IsBack whole) (sym c.is_back_over.ensures.visits)
    (state_collapses whole ring.places ring.untested ring.lead c.loop-before.probe.visits inv.state (test.0 c.if-not-is_back_over.false) three)

pub returns-clause-rising : goal.returns-clause-rising
returns-clause-rising g c = λ yes. rw (length-contour g.P.Coordinate.IntNumber.value c.args.probe.contour) at c.loop-before.invariant.state.rising

pub returns-clause-left : goal.returns-clause-left
returns-clause-left g c = λ yes.
    let whole : List Point = contour_of g.P.Coordinate.IntNumber.value c.args.probe.contour in
    let ring = c.loop-before.ring in
    state_ends whole (map (point_at whole) (from_contour_first ring.places ring.lead)) ring.places ring.untested ring.lead c.loop-before.probe.visits c.loop-before.invariant.state
    (omega (arith, c.loop-before-test.false, c.untested.ensures)) refl
