use Rattle.std.proofs.Common.{◌≡◌, ◌∙◌, sym, ap, arith}
use Rattle.i_shape_core.proofs.Arithmetic.Coordinates.{safe_points-apart, safe_vector-above}
use Rattle.i_shape_core.proofs.Plane.Contours.{rest-read, rest-none}
use Rattle.i_shape_core.proofs.Plane.PointLists.{points-length, item_read, last_read}
use Rattle.i_shape_core.proofs.Plane.SafeParts.{item_safe}
use Rattle.i_shape_core.proofs.Walks.Spikes.{walking_begins, walking_skip, walking_on, spike_found, no_spike_found, none_differs, found_safe, nothing_told}
use Rattle.i_shape_core.proofs.clean.despike.has_no_spikes.Goals as goal
use Rattle.i_shape_core.proofs.clean.despike.has_no_spikes.Goals.{then-not-are_same+else-goes_back, else-not-are_same}

pub returns-in_default : goal.returns-in_default
returns-in_default g c =
    let count = points-length g.P.ContourPoint.point g.P.ContourPoint.points g.P.ContourPoint.each c.args.points.now in
    nothing_told g.P.Coordinate.IntNumber.value (g.P.ContourPoint.points c.args.points.now) (omega (arith, count, c.in_default.ensures.item.3))

pub returns-in_default-last_other : goal.returns-in_default-last_other
returns-in_default-last_other g c =
    let last = last_read g.P.ContourPoint.point g.P.ContourPoint.points g.P.ContourPoint.each c.args.points.now c.in-Some.last.now c.to_point-here.result c.to_point-here.ensures c.in-Some.ensures.item.1 (omega (arith, c.in-Some.ensures.item.3.0)) in
    none_differs g.P.Coordinate.IntNumber.value (g.P.ContourPoint.points c.args.points.now) c.to_point-here.result last.0 last.1 c.in_default-last_other.ensures

pub sub-edge-requires : goal.sub-edge-requires
sub-edge-requires g c =
    let here = item_safe g.P.Coordinate.IntNumber.width g.P.Coordinate.IntNumber.value g.P.ContourPoint.point g.P.ContourPoint.points g.P.ContourPoint.each _ _ _ _ c.requires c.to_point-here.ensures (omega (arith, c.in-Some.ensures.item.3.0)) c.in-Some.ensures.item.1 in
    let behind = found_safe g.P.Coordinate.IntNumber.width g.P.Coordinate.IntNumber.value (g.P.ContourPoint.points c.args.points.now) c.to_point-here.result c.in-Some-last_other.behind c.requires c.in-Some-last_other.ensures in
    safe_points-apart g.P.Coordinate.IntNumber.width g.met.P.Coordinate.IntNumber.some_bits g.met.P.Coordinate.IntNumber.bits_split _ _ here behind

pub loop-given-init : goal.loop-given-init
loop-given-init g c =
    let last = last_read g.P.ContourPoint.point g.P.ContourPoint.points g.P.ContourPoint.each c.args.points.now c.in-Some.last.now c.to_point-here.result c.to_point-here.ensures c.in-Some.ensures.item.1 (omega (arith, c.in-Some.ensures.item.3.0)) in
    record {
      here_safe = item_safe g.P.Coordinate.IntNumber.width g.P.Coordinate.IntNumber.value g.P.ContourPoint.point g.P.ContourPoint.points g.P.ContourPoint.each _ _ _ _ c.requires c.to_point-here.ensures (omega (arith, c.in-Some.ensures.item.3.0)) c.in-Some.ensures.item.1;
      walking = walking_begins g.P.Coordinate.IntNumber.value (g.P.ContourPoint.points c.args.points.now) c.to_point-here.result c.in-Some-last_other.behind _ last.0 last.1 c.in-Some-last_other.ensures c.sub-edge.ensures;
    }

pub sub-next-requires : goal.sub-next-requires
sub-next-requires g c =
    let next = item_safe g.P.Coordinate.IntNumber.width g.P.Coordinate.IntNumber.value g.P.ContourPoint.point g.P.ContourPoint.points g.P.ContourPoint.each _ _ _ _ c.requires c.to_point-point.ensures c.loop-given-test.true c.given-item.is in
    safe_points-apart g.P.Coordinate.IntNumber.width g.met.P.Coordinate.IntNumber.some_bits g.met.P.Coordinate.IntNumber.bits_split _ _ next c.loop-given.invariant.here_safe

pub goes_back-requires : goal.goes_back-requires
goes_back-requires g c =
    let next = item_safe g.P.Coordinate.IntNumber.width g.P.Coordinate.IntNumber.value g.P.ContourPoint.point g.P.ContourPoint.points g.P.ContourPoint.each _ _ _ _ c.requires c.to_point-point.ensures c.loop-given-test.true c.given-item.is in
    λ least. safe_vector-above g.P.Coordinate.IntNumber.width g.met.P.Coordinate.IntNumber.some_bits g.met.P.Coordinate.IntNumber.bits_split _ _ _ _ next c.loop-given.invariant.here_safe g.met.P.Coordinate.IntNumber.min_value c.sub-next.ensures (ap g.P.Coordinate.IntNumber.value least)

pub returns-then-goes_back : goal.returns-then-goes_back
returns-then-goes_back g c =
    let item = item_read g.P.ContourPoint.point g.P.ContourPoint.points g.P.ContourPoint.each c.args.points.now c.loop-given.given-index c.given-item.result c.to_point-point.result c.to_point-point.ensures c.loop-given-test.true c.given-item.is in
    spike_found _ _ _ _ _ _ _ (sym c.are_same.ensures ∙ c.if-not-are_same.true) c.sub-next.ensures c.goes_back.ensures c.if-goes_back.true (rw (rest-read g.P.Coordinate.IntNumber.value (g.P.ContourPoint.points c.args.points.now) _ c.to_point-point.result item.0 item.1) at c.loop-given.invariant.walking)

pub loop-given-preserved : goal.loop-given-preserved
loop-given-preserved g c =
    let item = item_read g.P.ContourPoint.point g.P.ContourPoint.points g.P.ContourPoint.each c.args.points.now c.loop-given.given-index c.given-item.result c.to_point-point.result c.to_point-point.ensures c.loop-given-test.true c.given-item.is in
    let walking = rw (rest-read g.P.Coordinate.IntNumber.value (g.P.ContourPoint.points c.args.points.now) _ c.to_point-point.result item.0 item.1) at c.loop-given.invariant.walking in
    let here : c.if-not-are_same.here ≡ c.to_point-point.result = elim c.if-not-are_same.branch [
      | then-not-are_same+else-goes_back w ↦ w.here-is
      | else-not-are_same w ↦ w.here-is
    ] in
    rw here (record {
      here_safe = item_safe g.P.Coordinate.IntNumber.width g.P.Coordinate.IntNumber.value g.P.ContourPoint.point g.P.ContourPoint.points g.P.ContourPoint.each _ _ _ _ c.requires c.to_point-point.ensures c.loop-given-test.true c.given-item.is;
      walking = elim c.if-not-are_same.branch [
        | then-not-are_same+else-goes_back w ↦ rw w.edge-is (walking_on _ _ _ _ _ _ _ (sym c.are_same.ensures ∙ w.if-not-are_same.true) w.sub-next.ensures w.goes_back.ensures w.if-goes_back.false walking)
        | else-not-are_same w ↦ rw w.edge-is (walking_skip _ _ _ _ _ (sym c.are_same.ensures ∙ w.if-not-are_same.false) walking)
      ];
    })

pub returns : goal.returns
returns g c =
    let count = points-length g.P.ContourPoint.point g.P.ContourPoint.points g.P.ContourPoint.each c.args.points.now in
    no_spike_found _ _ _ (rw (rest-none g.P.Coordinate.IntNumber.value (g.P.ContourPoint.points c.args.points.now) c.loop-given.given-index (omega (arith, count, c.loop-given-test.false))) at c.loop-given.invariant.walking)
