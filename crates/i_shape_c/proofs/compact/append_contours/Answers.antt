use Rattle.std.proofs.Common.{◌∙◌, ◌∷◌, [], sym, arith, length-append}
use Rattle.i_shape_c.specs.Compacted.{contours_left}
use Rattle.i_shape_c.proofs.Appended.{put_one, put_more}
use Rattle.i_shape_c.proofs.Compacted.{contour_left, contour_collapsed}
use Rattle.i_shape_c.proofs.compact.append_contours.Goals as goal
use Rattle.i_shape_c.proofs.compact.append_contours.Goals.{then-has_points, else-has_points}

pub loop-contour-preserved : goal.loop-contour-preserved
loop-contour-preserved c =
    let contours = c.args.contours.now in
    let k = c.loop-contour.contour in
    let inv = c.loop-contour.invariant in
    let before = contours_left contours c.args.start k in
    elim c.if-has_points.branch [
      | then-has_points w ↦ (
          let left = contour_left contours c.args.start k (omega (arith, c.loop-contour.auto.contour)) (sym c.has_points.ensures ∙ w.if-has_points.true) in
          let long = length-append before (k ∷ []) in
          rw (w.out-is, w.next-is, left) (record {
            put = put_more c.args.place c.loop-contour.next before (k ∷ []) c.args.out.now c.loop-contour.out _ inv.put (put_one c.loop-contour.out c.loop-contour.next k (omega (arith, inv.fewer, c.requires.room, c.loop-contour-test.true, c.loop-contour.auto.out))) inv.count (omega (arith, c.requires.room));
            count = omega (arith, inv.count, long);
            fewer = omega (arith, inv.fewer);
          }))
      | else-has_points w ↦ (
          let left = contour_collapsed contours c.args.start k (omega (arith, c.loop-contour.auto.contour)) (sym c.has_points.ensures ∙ w.if-has_points.false) in
          rw (w.out-is, w.next-is, left) (record { put = inv.put; count = inv.count; fewer = omega (arith, inv.fewer) }))
    ]
