use Rattle.std.proofs.Common.{◌≡◌, ◌<◌, ◌≤◌, ◌+◌, ◌∙◌, ◌++◌, List, length, map, slice_range, sym, ap₂, arith, None, Some}
use Rattle.std.proofs.lemmas.List.{take-append-drop, length-map}
use Rattle.i_shape_core.proofs.Common.{Point, point_of, contour_of}
use Rattle.i_shape_core.proofs.CleanerAnswers.Written.{slot_some}
use Rattle.i_shape_c.proofs.Appended.{rings_none, ring_put, put_between}
use Rattle.i_shape_c.proofs.Batches.{same}
use Rattle.i_shape_c.proofs.Parts.{nothing_between}
use Rattle.i_shape_c.proofs.polygons.append_ring.Goals as goal

pub returns-then-end-counts-clause-left : goal.returns-then-end-counts-clause-left
returns-then-end-counts-clause-left g c =
    let at : g.row.P.Denot → Point = λ p. point_of g.P.Coordinate.IntNumber.value (g.P.ContourPoint.point p) in
    let read : (list : List g.row.P.Denot) → contour_of g.P.Coordinate.IntNumber.value (g.P.ContourPoint.points list) ≡ map at list = same g.P.Coordinate.IntNumber.width g.P.Coordinate.IntNumber.value g.P.ContourPoint.point g.P.ContourPoint.points g.P.ContourPoint.each in
    let start = c.args.counts.points in
    let old = c.args.out_points.now in
    let new = c.clean_at-end.new.out in
    let end : c.clean_at-end.result ≡ start = c.if-end-counts.true in
    let whole : new ≡ old = sym (take-append-drop start new) ∙ ap₂ (λ a b. a ++ b) c.clean_at-end.ensures.before (rw end at c.clean_at-end.ensures.after) ∙ take-append-drop start old in
    let left = rw (read c.args.ring.now, read (slice_range new start c.clean_at-end.result)) at c.clean_at-end.ensures.left.cleaned.answer in
    record { left = None; answer = rw (end, nothing_between new start) at left; appended = rw whole (rings_none old c.args.out_contours.now c.args.counts) }

pub returns-clause-left : goal.returns-clause-left
returns-clause-left g c =
    let at : g.row.P.Denot → Point = λ p. point_of g.P.Coordinate.IntNumber.value (g.P.ContourPoint.point p) in
    let read : (list : List g.row.P.Denot) → contour_of g.P.Coordinate.IntNumber.value (g.P.ContourPoint.points list) ≡ map at list = same g.P.Coordinate.IntNumber.width g.P.Coordinate.IntNumber.value g.P.ContourPoint.point g.P.ContourPoint.points g.P.ContourPoint.each in
    let start = c.args.counts.points in
    let end = c.clean_at-end.result in
    let old = c.args.out_points.now in
    let new = c.clean_at-end.new.out in
    let done = c.clean_at-end.ensures in
    let part = slice_range new start end in
    let within : end ≤ length new = omega (arith, done.under, done.len, c.requires.points_room) in
    let put = put_between start end old new done.above within done.before done.after in
    let long : start + length part ≡ end = put.0 in
    let differ = c.if-end-counts.false in
    let some : 0 < length (map at part) = omega (arith, length-map part at, long, done.above, differ) in
    let left = rw (read c.args.ring.now, read part) at done.left.cleaned.answer in
    record {
      left = Some part;
      answer = rw (slot_some (map at part) some) at left;
      appended = rw long at (ring_put part old new c.args.out_contours.now c.args.counts put.1 done.len c.requires.contours_room);
    }
