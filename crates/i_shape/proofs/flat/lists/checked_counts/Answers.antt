use Rattle.std.proofs.Common.{arith, length, ap, inl, inr, refl, ◌∙◌}
use Rattle.i_shape.proofs.Common.{paths_of_shape, concatenated}
use Rattle.i_shape.proofs.Lists.EndToEnd.{all_length_step, all_length_within, length_step, length_within, as_contours}
use Rattle.i_shape.proofs.flat.lists.checked_counts.Goals as goal

pub returns-in_err-checked_points_count : goal.returns-in_err-checked_points_count
returns-in_err-checked_points_count g c =
    let within = all_length_within (λ s. paths_of_shape s.items) c.args.shapes.now c.loop-shape.shape-index c.shape-item.result c.loop-shape-test.true c.shape-item.is _ (ap (λ s. length (concatenated (paths_of_shape s))) c.as_slice.ensures.value) in
    rw c.from_residual.ensures (inl (omega (arith, within, c.in_err-checked_points_count.ensures)))

pub returns-in_err-points : goal.returns-in_err-points
returns-in_err-points g c =
    let within = all_length_within (λ s. paths_of_shape s.items) c.args.shapes.now c.loop-shape.shape-index c.shape-item.result c.loop-shape-test.true c.shape-item.is _ (ap (λ s. length (concatenated (paths_of_shape s))) c.as_slice.ensures.value) in
    rw c.from_residual-in_err-points.ensures (inl (omega (arith, within, c.in_err-points.ensures, c.in_ok-checked_points_count.ensures)))

pub returns-in_err-contours : goal.returns-in_err-contours
returns-in_err-contours g c =
    let within = length_within (λ s. paths_of_shape s.items) c.args.shapes.now c.loop-shape.shape-index c.shape-item.result c.loop-shape-test.true c.shape-item.is c.shape-item.result.len (c.shape-item.result.ok.0 ∙ as_contours _ _ refl) in
    rw c.from_residual-in_err-contours.ensures (inr (omega (arith, within, c.in_err-contours.ensures)))

pub loop-shape-preserved : goal.loop-shape-preserved
loop-shape-preserved g c =
    let points_more = all_length_step (λ s. paths_of_shape s.items) c.args.shapes.now c.loop-shape.shape-index c.shape-item.result c.loop-shape-test.true c.shape-item.is 0 c.loop-shape.points c.in_ok-points.points c.in_ok-checked_points_count.field-0
    (omega arith) (omega (arith, c.in_ok-checked_points_count.ensures, ap (λ s. length (concatenated (paths_of_shape s))) c.as_slice.ensures.value)) (omega (arith, c.in_ok-points.ensures)) in
    let contours_more = length_step (λ s. paths_of_shape s.items) c.args.shapes.now c.loop-shape.shape-index c.shape-item.result c.loop-shape-test.true c.shape-item.is 0 c.loop-shape.contours c.in_ok-contours.contours c.shape-item.result.len
    (omega arith) (c.shape-item.result.ok.0 ∙ as_contours _ _ refl) (omega (arith, c.in_ok-contours.ensures)) in
    record { points = omega (arith, points_more); contours = omega (arith, contours_more) }
