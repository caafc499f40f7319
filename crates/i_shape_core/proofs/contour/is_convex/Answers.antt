use Rattle.std.proofs.Common.{◌≡◌, ◌≢◌, ◌↔◌, ◌∙◌, sym, ap, inl, inr, IsTrue, false, rules, arith}
use Rattle.i_shape_core.specs.declared.turn.bend.Bend.TheVariants.{Straight, Reversal}
use Rattle.i_shape_core.proofs.Common.{point_of, is_same}
use Rattle.i_shape_core.proofs.Plane.PointLists.{points-length, item_read, last_read}
use Rattle.i_shape_core.proofs.Arithmetic.Coordinates.{safe_points-apart, safe_vector-above}
use Rattle.i_shape_core.proofs.Plane.SafeParts.{item_safe}
use Rattle.i_shape_core.proofs.Walks.Spikes.{found_safe}
use Rattle.i_shape_core.proofs.Convex.BendWalk.{bending_begins, bending_repeat, bending_item, bending_over, clash_item, few_tells, convex_without, convex_alike}
use Rattle.i_shape_core.proofs.contour.is_convex.Goals as goal
use Rattle.i_shape_core.proofs.contour.is_convex.Goals.{else-eq-via-then-eq+else-are_same, else-eq-via-else-eq}

pub returns-in_default : goal.returns-in_default
returns-in_default g c =
    let count = points-length g.P.ContourPoint.point g.P.ContourPoint.points g.P.ContourPoint.each c.args.points.now in
    convex_without g.P.Coordinate.IntNumber.value (g.P.ContourPoint.points c.args.points.now) (omega (arith, count, c.in_default.ensures.item.3))

pub returns-in_default-last_other : goal.returns-in_default-last_other
returns-in_default-last_other g c =
    let last = last_read g.P.ContourPoint.point g.P.ContourPoint.points g.P.ContourPoint.each c.args.points.now c.in-Some.last.now c.to_point-here.result c.to_point-here.ensures c.in-Some.ensures.item.1 (omega (arith, c.in-Some.ensures.item.3.0)) in
    convex_alike g.P.Coordinate.IntNumber.value (g.P.ContourPoint.points c.args.points.now) c.to_point-here.result last.0 last.1 c.in_default-last_other.ensures

pub sub-edge-requires : goal.sub-edge-requires
sub-edge-requires g c =
    let here = item_safe g.P.Coordinate.IntNumber.width g.P.Coordinate.IntNumber.value g.P.ContourPoint.point g.P.ContourPoint.points g.P.ContourPoint.each _ _ _ _ c.requires c.to_point-here.ensures (omega (arith, c.in-Some.ensures.item.3.0)) c.in-Some.ensures.item.1 in
    let behind = found_safe g.P.Coordinate.IntNumber.width g.P.Coordinate.IntNumber.value (g.P.ContourPoint.points c.args.points.now) c.to_point-here.result c.in-Some-last_other.behind c.requires c.in-Some-last_other.ensures in
    safe_points-apart g.P.Coordinate.IntNumber.width g.met.P.Coordinate.IntNumber.some_bits g.met.P.Coordinate.IntNumber.bits_split _ _ here behind

pub loop-given-init : goal.loop-given-init
loop-given-init g c =
    let last = last_read g.P.ContourPoint.point g.P.ContourPoint.points g.P.ContourPoint.each c.args.points.now c.in-Some.last.now c.to_point-here.result c.to_point-here.ensures c.in-Some.ensures.item.1 (omega (arith, c.in-Some.ensures.item.3.0)) in
    record {
      here_safe = item_safe g.P.Coordinate.IntNumber.width g.P.Coordinate.IntNumber.value g.P.ContourPoint.point g.P.ContourPoint.points g.P.ContourPoint.each _ _ _ _ c.requires c.to_point-here.ensures (omega (arith, c.in-Some.ensures.item.3.0)) c.in-Some.ensures.item.1;
      bending = bending_begins g.P.Coordinate.IntNumber.value (g.P.ContourPoint.points c.args.points.now) c.to_point-here.result c.in-Some-last_other.behind _ last.0 last.1 c.in-Some-last_other.ensures c.sub-edge.ensures;
    }

pub sub-next-requires : goal.sub-next-requires
sub-next-requires g c =
    let next = item_safe g.P.Coordinate.IntNumber.width g.P.Coordinate.IntNumber.value g.P.ContourPoint.point g.P.ContourPoint.points g.P.ContourPoint.each _ _ _ _ c.requires c.to_point-point.ensures c.loop-given-test.true c.given-item.is in
    safe_points-apart g.P.Coordinate.IntNumber.width g.met.P.Coordinate.IntNumber.some_bits g.met.P.Coordinate.IntNumber.bits_split _ _ next c.loop-given.invariant.here_safe

pub bend_of-bent-requires : goal.bend_of-bent-requires
bend_of-bent-requires g c =
    let next = item_safe g.P.Coordinate.IntNumber.width g.P.Coordinate.IntNumber.value g.P.ContourPoint.point g.P.ContourPoint.points g.P.ContourPoint.each _ _ _ _ c.requires c.to_point-point.ensures c.loop-given-test.true c.given-item.is in
    λ least. safe_vector-above g.P.Coordinate.IntNumber.width g.met.P.Coordinate.IntNumber.some_bits g.met.P.Coordinate.IntNumber.bits_split _ _ _ _ next c.loop-given.invariant.here_safe g.met.P.Coordinate.IntNumber.min_value c.sub-next.ensures (ap g.P.Coordinate.IntNumber.value least)

pub loop-given-preserved-then-are_same : goal.loop-given-preserved-then-are_same
loop-given-preserved-then-are_same g c =
    let item = item_read g.P.ContourPoint.point g.P.ContourPoint.points g.P.ContourPoint.each c.args.points.now c.loop-given.given-index c.given-item.result c.to_point-point.result c.to_point-point.ensures c.loop-given-test.true c.given-item.is in
    record {
      here_safe = c.loop-given.invariant.here_safe;
      bending = bending_repeat g.P.Coordinate.IntNumber.value (g.P.ContourPoint.points c.args.points.now) c.loop-given.bend c.loop-given.repeats c.loop-given.given-index (point_of g.P.Coordinate.IntNumber.value c.loop-given.edge) c.loop-given.here c.to_point-point.result
          item.0 item.1 (sym c.are_same.ensures ∙ c.if-are_same.true) c.loop-given.invariant.bending;
    }

pub returns-in_default-followed_by : goal.returns-in_default-followed_by
returns-in_default-followed_by g c =
    let item = item_read g.P.ContourPoint.point g.P.ContourPoint.points g.P.ContourPoint.each c.args.points.now c.loop-given.given-index c.given-item.result c.to_point-point.result c.to_point-point.ensures c.loop-given-test.true c.given-item.is in
    let told : IsTrue c.eq.result ↔ (c.bend_of-bent.result ≡ Straight) = search rules in
    let moved : c.bend_of-bent.result ≡ Straight → is_same (point_of g.P.Coordinate.IntNumber.value c.loop-given.here) (point_of g.P.Coordinate.IntNumber.value c.to_point-point.result) ≡ false = elim c.else-eq.branch [
      | else-eq-via-then-eq+else-are_same w ↦ λ s. sym w.are_same.ensures ∙ w.if-are_same.false
      | else-eq-via-else-eq w ↦ λ s. let t = told.1 s in let f = w.if-eq.false in absurd (cc)
    ] in
    clash_item g.P.Coordinate.IntNumber.value (g.P.ContourPoint.points c.args.points.now) c.loop-given.bend c.bend_of-bent.result c.loop-given.repeats c.loop-given.given-index
    (point_of g.P.Coordinate.IntNumber.value c.loop-given.edge) (point_of g.P.Coordinate.IntNumber.value c.sub-next.result) c.loop-given.here c.to_point-point.result
    item.0 item.1 moved c.bend_of-bent.ensures c.sub-next.ensures (sym c.in_default-followed_by.ensures) c.loop-given.invariant.bending

pub loop-given-preserved : goal.loop-given-preserved
loop-given-preserved g c =
    let item = item_read g.P.ContourPoint.point g.P.ContourPoint.points g.P.ContourPoint.each c.args.points.now c.loop-given.given-index c.given-item.result c.to_point-point.result c.to_point-point.ensures c.loop-given-test.true c.given-item.is in
    let told : IsTrue c.eq.result ↔ (c.bend_of-bent.result ≡ Straight) = search rules in
    let moved : c.bend_of-bent.result ≡ Straight → is_same (point_of g.P.Coordinate.IntNumber.value c.loop-given.here) (point_of g.P.Coordinate.IntNumber.value c.to_point-point.result) ≡ false = elim c.else-eq.branch [
      | else-eq-via-then-eq+else-are_same w ↦ λ s. sym w.are_same.ensures ∙ w.if-are_same.false
      | else-eq-via-else-eq w ↦ λ s. let t = told.1 s in let f = w.if-eq.false in absurd (cc)
    ] in
    record {
      here_safe = item_safe g.P.Coordinate.IntNumber.width g.P.Coordinate.IntNumber.value g.P.ContourPoint.point g.P.ContourPoint.points g.P.ContourPoint.each _ _ _ _ c.requires c.to_point-point.ensures c.loop-given-test.true c.given-item.is;
      bending = bending_item g.P.Coordinate.IntNumber.value (g.P.ContourPoint.points c.args.points.now) c.loop-given.bend c.bend_of-bent.result c.in-Some-followed_by.both c.loop-given.repeats c.loop-given.given-index
          (point_of g.P.Coordinate.IntNumber.value c.loop-given.edge) (point_of g.P.Coordinate.IntNumber.value c.sub-next.result) c.loop-given.here c.to_point-point.result
          item.0 item.1 moved c.bend_of-bent.ensures c.sub-next.ensures (sym c.in-Some-followed_by.ensures) c.loop-given.invariant.bending;
    }

pub returns-then-ne : goal.returns-then-ne
returns-then-ne g c =
    let count = points-length g.P.ContourPoint.point g.P.ContourPoint.points g.P.ContourPoint.each c.args.points.now in
    let over = bending_over g.P.Coordinate.IntNumber.value (g.P.ContourPoint.points c.args.points.now) c.loop-given.bend c.loop-given.repeats c.loop-given.given-index (point_of g.P.Coordinate.IntNumber.value c.loop-given.edge) (point_of g.P.Coordinate.IntNumber.value c.loop-given.here)
    (omega (arith, count, c.loop-given-test.false, c.loop-given.auto.given-index-end)) c.loop-given.invariant.bending in
    let told : IsTrue c.ne.result ↔ (c.loop-given.bend ≢ Reversal) = search rules in
    (λ t. over.1.0 (inr (told.0 t)), λ k. c.if-ne.true)

pub returns-else-ne : goal.returns-else-ne
returns-else-ne g c =
    let count = points-length g.P.ContourPoint.point g.P.ContourPoint.points g.P.ContourPoint.each c.args.points.now in
    let over = bending_over g.P.Coordinate.IntNumber.value (g.P.ContourPoint.points c.args.points.now) c.loop-given.bend c.loop-given.repeats c.loop-given.given-index (point_of g.P.Coordinate.IntNumber.value c.loop-given.edge) (point_of g.P.Coordinate.IntNumber.value c.loop-given.here)
    (omega (arith, count, c.loop-given-test.false, c.loop-given.auto.given-index-end)) c.loop-given.invariant.bending in
    let few = rw count at over in
    let told : IsTrue c.ne.result ↔ (c.loop-given.bend ≢ Reversal) = search rules in (
      λ t. few.1.0 (inl ((few_tells _).0 t)),
      λ k. elim (few.1.1 k) [ inl least ↦ (few_tells _).1 least | inr n ↦ let t = told.1 n in let f = c.if-ne.false in absurd (cc) ],
    )
