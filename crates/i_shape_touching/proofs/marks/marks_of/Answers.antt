use Rattle.std.proofs.Common.{◌+◌, ◌<◌, List, length, map, All, arith, rules, sym, subst, take_all}
use Rattle.std.proofs.lemmas.Fn.{always_returns_same}
use Rattle.std.proofs.lemmas.List.Sorted.{All-permutation, Contains-permutation, IsPermutation-map}
use Rattle.i_shape_core.specs.IntPoint.{contour_of}
use Rattle.i_shape_core.specs.Rings.{offset}
use Rattle.i_shape_core.proofs.Plane.PointLists.{read-length}
use Rattle.i_shape_contacts.proofs.Faults.{divides_read}
use Rattle.i_shape_touching.specs.Steps.Touches.{IsTouch}
use Rattle.i_shape_touching.specs.Steps.Pieces.{mark_of, IsMark, IsListed}
use Rattle.i_shape_touching.specs.declared.marks.Mark.{Mark}
use Rattle.i_shape_touching.proofs.MarkSteps.{mark, Only, none_only, adds_only, ring_within, ring_marked, first_listed, touch_marked, HasTouch, all_marked}
use Rattle.i_shape_touching.proofs.MarkOrder.{sorted_marks}
use Rattle.i_shape_touching.proofs.marks.marks_of.Goals as goal

pub push_ends-requires-clause-within : goal.push_ends-requires-clause-within
push_ends-requires-clause-within g c =
    let value = g.P.Coordinate.IntNumber.value in
    let points = g.P.ContourPoint.points in
    let list = contour_of value (points c.args.points.now) in
    let divides = divides_read value g.P.ContourPoint.point points g.P.ContourPoint.each c.args.points.now c.args.offsets.now c.requires.divides in
    let count = read-length value g.P.ContourPoint.point points g.P.ContourPoint.each c.args.points.now in
    let open_ = c.loop-ring-test.true in
    let within = ring_within c.args.offsets.now list divides c.requires.whole c.loop-ring.ring (omega (arith, open_)) in
    omega (arith, count, within)

pub loop-ring-init : goal.loop-ring-init
loop-ring-init g c =
    let value = g.P.Coordinate.IntNumber.value in
    let list = contour_of value (g.P.ContourPoint.points c.args.points.now) in
    record {
      only = subst (λ (items : List (Mark _)). Only c.args.offsets.now list (map (mark_of value) items)) (sym c.new-marks.ensures.items) (none_only c.args.offsets.now list);
      ends = λ r h. absurd (omega (arith, h));
    }

pub loop-ring-preserved : goal.loop-ring-preserved
loop-ring-preserved g c =
    let value = g.P.Coordinate.IntNumber.value in
    let points = g.P.ContourPoint.points in
    let list = contour_of value (points c.args.points.now) in
    let offsets = c.args.offsets.now in
    let divides = divides_read value g.P.ContourPoint.point points g.P.ContourPoint.each c.args.points.now offsets c.requires.divides in
    let ring = c.loop-ring.ring in
    let open_ = c.loop-ring-test.true in
    let is_ring : ring + 1 < length offsets = omega (arith, open_) in
    let within = ring_within offsets list divides c.requires.whole ring is_ring in
    let old = map (mark_of value) c.loop-ring.marks.items in
    let new = map (mark_of value) c.push_ends.new.marks.items in
    record {
      only = adds_only offsets list (offset offsets ring) old new c.in_ok-push_ends.ensures within (first_listed offsets list divides ring is_ring) c.loop-ring.invariant.only;
      ends = ring_marked offsets list divides ring old new c.loop-ring.invariant.ends c.in_ok-push_ends.ensures;
    }

pub loop-touch-init : goal.loop-touch-init
loop-touch-init g c =
    let past = c.loop-ring-test.false in
    record {
      only = c.loop-ring.invariant.only;
      ends = λ r h. c.loop-ring.invariant.ends r (omega (arith, h, past));
      touched = λ k d h. absurd (omega (arith, h));
    }

pub push_touch-requires-clause-within : goal.push_touch-requires-clause-within
push_touch-requires-clause-within g c =
    let value = g.P.Coordinate.IntNumber.value in
    let points = g.P.ContourPoint.points in
    let list = contour_of value (points c.args.points.now) in
    let offsets = c.args.offsets.now in
    let t = c.touch-item.result in
    let is = subst (IsTouch value offsets list) (sym c.touch-item.is) (c.requires.touches.each c.loop-touch.touch-index t c.loop-touch-test.true) in
    let count = read-length value g.P.ContourPoint.point points g.P.ContourPoint.each c.args.points.now in
    let within = is.contact.within in
    let order = is.contact.order in
    omega (arith, count, within, order)

pub push_touch-requires-in-loop-touch-clause-within : goal.push_touch-requires-in-loop-touch-clause-within
push_touch-requires-in-loop-touch-clause-within g c =
    let value = g.P.Coordinate.IntNumber.value in
    let points = g.P.ContourPoint.points in
    let list = contour_of value (points c.args.points.now) in
    let offsets = c.args.offsets.now in
    let t = c.touch-item.result in
    let is = subst (IsTouch value offsets list) (sym c.touch-item.is) (c.requires.touches.each c.loop-touch.touch-index t c.loop-touch-test.true) in
    let count = read-length value g.P.ContourPoint.point points g.P.ContourPoint.each c.args.points.now in
    let within = is.contact.within in
    omega (arith, count, within)

pub loop-touch-preserved : goal.loop-touch-preserved
loop-touch-preserved g c =
    let value = g.P.Coordinate.IntNumber.value in
    let points = g.P.ContourPoint.points in
    let list = contour_of value (points c.args.points.now) in
    let offsets = c.args.offsets.now in
    let t = c.touch-item.result in
    let is = subst (IsTouch value offsets list) (sym c.touch-item.is) (c.requires.touches.each c.loop-touch.touch-index t c.loop-touch-test.true) in
    let divides = divides_read value g.P.ContourPoint.point points g.P.ContourPoint.each c.args.points.now offsets c.requires.divides in
    let known = c.loop-touch.invariant in
    let more = touch_marked offsets list divides c.requires.clear value c.args.touches.now c.loop-touch.touch-index t
    (map (mark_of value) c.loop-touch.marks.items) (map (mark_of value) c.push_touch.new.marks.items) (map (mark_of value) c.push_touch-in-loop-touch.new.marks.items)
    c.loop-touch-test.true c.touch-item.is is c.in_ok-push_touch.ensures c.in_ok-push_touch-2.ensures known.only known.ends known.touched in
    record { only = more.only; ends = more.ends; touched = more.touched }

pub returns : goal.returns
returns g c =
    let value = g.P.Coordinate.IntNumber.value in
    let points = g.P.ContourPoint.points in
    let list = contour_of value (points c.args.points.now) in
    let offsets = c.args.offsets.now in
    let divides = divides_read value g.P.ContourPoint.point points g.P.ContourPoint.each c.args.points.now offsets c.requires.divides in
    let known = c.loop-touch.invariant in
    let items = c.loop-touch.marks.items in
    let sorted = c.sort_unstable_by_key.new.self.items in
    let moved = IsPermutation-map (mark_of value) items sorted c.sort_unstable_by_key.ensures.permutation in
    let touched : All (HasTouch offsets list value (map (mark_of value) items)) c.args.touches.now =
    subst (All (HasTouch offsets list value (map (mark_of value) items))) (take_all c.loop-touch.touch-index c.args.touches.now (omega (arith, c.loop-touch-test.false))) known.touched in
    record {
      each = All-permutation (λ m. IsMark offsets list m.edge m.point) (map (mark_of value) items) (map (mark_of value) sorted) moved known.only.each;
      listed = All-permutation (λ m. IsListed offsets list m.edge) (map (mark_of value) items) (map (mark_of value) sorted) moved known.only.listed;
      all = λ k p l m. Contains-permutation (map (mark_of value) items) (map (mark_of value) sorted) (mark k p) moved
          (all_marked offsets list divides c.requires.clear value c.args.touches.now c.requires.touches (map (mark_of value) items) known.ends touched k p l m);
      order = sorted_marks value g.P.Coordinate.Ord.cmp g.met.P.Coordinate.IntNumber.order sorted
          (λ k d h. c.sort_unstable_by_key.ensures.sorted (λ q. (q.edge, q.point.x, q.point.y)) (always_returns_same _ _ _ (λ a r f k. search rules)) k d (omega arith) h);
    }
