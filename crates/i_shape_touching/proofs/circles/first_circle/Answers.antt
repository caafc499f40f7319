use Rattle.std.proofs.Common.{rules, ◌∙◌, ◌≤◌, ℕ, ℤ, List, length, drop, slice_range, sym, subst, arith}
use Rattle.std.proofs.lemmas.Fn.{always_returns_same}
use Rattle.i_shape_core.specs.Reading.{read}
use Rattle.i_shape_core.specs.IntPoint.{point_of}
use Rattle.i_shape_core.proofs.Lists.Appended.{front_taken}
use Rattle.std.proofs.lemmas.List.{length-map}
use Rattle.i_shape_contacts.proofs.Faults.{divides_read}
use Rattle.i_shape_core.specs.Point.{Point}
use Rattle.i_shape_contacts.specs.Courses.{DividesPoints}
use Rattle.i_shape_touching.specs.Steps.Touches.{AreTouches}
use Rattle.i_shape_touching.specs.Steps.Labels.{touch_points, touch_contacts, AreOfRings, IsGroup, IsFirstSame, NoneSame, AreMerged}
use Rattle.i_shape_touching.specs.declared.touches.Touch.{Touch}
use Rattle.i_shape_touching.proofs.CircleTouches.{AreAscending, touches_moved, ascending}
use Rattle.i_shape_touching.proofs.CircleGroups.{IsSearched, none_searched, edges_within, all_searched, found_first, group_searched}
use Rattle.i_shape_touching.proofs.circles.first_circle.Given.{Over}
use Rattle.i_shape_touching.proofs.circles.first_circle.Goals.{After-sort_unstable_by_key}
use Rattle.i_shape_touching.proofs.circles.first_circle.Goals as goal

-- the touches of the contour, sorted
record AreSorted {I : Type 0} (value : I → ℤ) (offsets : List ℕ) (contour : List Point) (ts : List (Touch I)) : Type 0 where
  divides : DividesPoints (length contour) offsets
  are : AreTouches value offsets contour ts
  sorted : AreAscending (touch_points value ts)

-- the sort leaves such touches
sorted_touches : (g : Over) → (c : After-sort_unstable_by_key g)
    → AreSorted g.P.Coordinate.IntNumber.value c.args.offsets.now (read g.P.Coordinate.IntNumber.value g.P.ContourPoint.points c.args.points.now) c.sort_unstable_by_key.new.self.items
sorted_touches g c =
    let value = g.P.Coordinate.IntNumber.value in
    let points = g.P.ContourPoint.points in
    let offsets = c.args.offsets.now in
    let ts = c.sort_unstable_by_key.new.self.items in
    record {
      divides = divides_read value g.P.ContourPoint.point points g.P.ContourPoint.each c.args.points.now offsets c.requires.divides;
      are = touches_moved value offsets (read value points c.args.points.now) c.args.touches.items ts c.sort_unstable_by_key.ensures.permutation c.requires.touches;
      sorted = ascending value g.P.Coordinate.Ord.cmp g.met.P.Coordinate.IntNumber.order ts (c.sort_unstable_by_key.ensures.sorted (λ t. t.point) (always_returns_same _ _ _ (λ a r f k. search rules)));
    }

pub loop-from-init : goal.loop-from-init
loop-from-init g c = none_searched c.args.offsets.now (read g.P.Coordinate.IntNumber.value g.P.ContourPoint.points c.args.points.now) _ c.in_ok-labels.labels.items c.requires.divides.divides.some c.in_ok-labels.ensures

pub first_closing-requires-clause-within : goal.first_closing-requires-clause-within
first_closing-requires-clause-within g c =
    let value = g.P.Coordinate.IntNumber.value in
    let offsets = c.args.offsets.now in
    let contour = read value g.P.ContourPoint.points c.args.points.now in
    let ts = c.sort_unstable_by_key.new.self.items in
    let known = sorted_touches g (goal.at.first_closing-requires-clause-within g c).After-sort_unstable_by_key in
    let from = c.loop-from.from in
    let to = c.end_of_group-to.result in
    let group = subst (λ (l : List (Touch _)). IsGroup (touch_points value l) from to) c.deref.ensures.value c.end_of_group-to.ensures in
    let most = group.within in
    let count = length-map ts (λ t. point_of value t.point) in
    subst (λ (l : List (Touch _)). AreOfRings offsets (touch_contacts (slice_range l from to))) (sym c.deref-in-loop-from.ensures.value)
    (edges_within value offsets contour known.divides c.requires.clear ts known.are known.sorted from to (omega (arith, most, count)))

pub join_all-requires-clause-within : goal.join_all-requires-clause-within
join_all-requires-clause-within g c =
    let value = g.P.Coordinate.IntNumber.value in
    let offsets = c.args.offsets.now in
    let contour = read value g.P.ContourPoint.points c.args.points.now in
    let ts = c.sort_unstable_by_key.new.self.items in
    let known = sorted_touches g (goal.at.join_all-requires-clause-within g c).After-sort_unstable_by_key in
    let from = c.loop-from.from in
    let to = c.end_of_group-to.result in
    let group = subst (λ (l : List (Touch _)). IsGroup (touch_points value l) from to) c.deref.ensures.value c.end_of_group-to.ensures in
    let most = group.within in
    let count = length-map ts (λ t. point_of value t.point) in
    subst (λ (l : List (Touch _)). AreOfRings offsets (touch_contacts (slice_range l from to))) (sym c.deref-in-loop-from.ensures.value)
    (edges_within value offsets contour known.divides c.requires.clear ts known.are known.sorted from to (omega (arith, most, count)))

pub returns-in-Some : goal.returns-in-Some
returns-in-Some g c =
    let value = g.P.Coordinate.IntNumber.value in
    let offsets = c.args.offsets.now in
    let contour = read value g.P.ContourPoint.points c.args.points.now in
    let ts = c.sort_unstable_by_key.new.self.items in
    let known = sorted_touches g (goal.at.returns-in-Some g c).After-sort_unstable_by_key in
    let from = c.loop-from.from in
    let to = c.end_of_group-to.result in
    let group = subst (λ (l : List (Touch _)). IsGroup (touch_points value l) from to) c.deref.ensures.value c.end_of_group-to.ensures in
    let first = subst (λ (l : List ℕ). IsFirstSame offsets l (touch_contacts (slice_range ts from to)) (length (slice_range ts from to)) c.in-Some.contact) c.deref-in-loop-from-2.ensures.value
    (subst (λ (l : List (Touch _)). IsFirstSame offsets c.deref-in-loop-from-2.result.now (touch_contacts (slice_range l from to)) (length (slice_range l from to)) c.in-Some.contact) c.deref-in-loop-from.ensures.value c.in-Some.ensures) in
    found_first value offsets contour known.divides c.requires.clear ts known.are known.sorted c.loop-from.labels.items from to c.loop-from.invariant group c.in-Some.contact first

pub loop-from-preserved : goal.loop-from-preserved
loop-from-preserved g c =
    let value = g.P.Coordinate.IntNumber.value in
    let offsets = c.args.offsets.now in
    let contour = read value g.P.ContourPoint.points c.args.points.now in
    let ts = c.sort_unstable_by_key.new.self.items in
    let known = sorted_touches g (goal.at.loop-from-preserved g c).After-sort_unstable_by_key in
    let from = c.loop-from.from in
    let to = c.end_of_group-to.result in
    let group = subst (λ (l : List (Touch _)). IsGroup (touch_points value l) from to) c.deref.ensures.value c.end_of_group-to.ensures in
    let old = c.loop-from.labels.items in
    let new = c.join_all.new.labels in
    let nothing = subst (λ (l : List ℕ). NoneSame offsets l (touch_contacts (slice_range ts from to)) (length (slice_range ts from to))) c.deref-in-loop-from-2.ensures.value
    (subst (λ (l : List (Touch _)). NoneSame offsets c.deref-in-loop-from-2.result.now (touch_contacts (slice_range l from to)) (length (slice_range l from to))) c.deref-in-loop-from.ensures.value c.in_default.ensures) in
    let merged = subst (λ (l : List ℕ). AreMerged offsets (touch_contacts (slice_range ts from to)) (length (slice_range ts from to)) l new) c.deref_mut.ensures.value
    (subst (λ (l : List (Touch _)). AreMerged offsets (touch_contacts (slice_range l from to)) (length (slice_range l from to)) c.deref_mut.result.now new) c.deref-in-loop-from.ensures.value c.join_all.ensures) in
    let kept = front_taken c.loop-from.labels.len new (drop (length new) old) (c.join_all.ensures.count ∙ c.deref_mut.ensures.len) in
    subst (λ (l : List ℕ). IsSearched offsets contour (touch_points value ts) l to) (sym kept)
    (group_searched value offsets contour known.divides c.requires.clear ts known.are known.sorted old from to c.loop-from.invariant group new nothing merged)

pub returns : goal.returns
returns g c =
    let value = g.P.Coordinate.IntNumber.value in
    let offsets = c.args.offsets.now in
    let contour = read value g.P.ContourPoint.points c.args.points.now in
    let ts = c.sort_unstable_by_key.new.self.items in
    let known = sorted_touches g (goal.at.returns g c).After-sort_unstable_by_key in
    all_searched value offsets contour known.divides c.requires.clear ts known.are known.sorted c.loop-from.labels.items c.loop-from.from c.loop-from.invariant (let e : length ts ≤ c.loop-from.from = search rules in e)
