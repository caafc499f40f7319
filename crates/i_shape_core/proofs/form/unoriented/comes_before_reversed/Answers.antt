use Rattle.std.proofs.Common.{◌≡◌, ◌∙◌, length, ap, sym, arith}
use Rattle.i_shape_core.specs.IntPoint.{contour_of}
use Rattle.i_shape_core.proofs.Plane.Contours.{length-contour}
use Rattle.i_shape_core.proofs.Plane.PointLists.{points-length}
use Rattle.i_shape_core.proofs.Forms.LesserWay.{is_pair, agree_longer, started_first, reversed_first, agree_throughout}
use Rattle.i_shape_core.proofs.form.unoriented.comes_before_reversed.Goals as goal

pub returns-in-Less-clause-before : goal.returns-in-Less-clause-before
returns-in-Less-clause-before g c =
    let value = g.P.Coordinate.IntNumber.value in
    let points = g.P.ContourPoint.points c.args.contour.now in
    let long = points-length g.P.ContourPoint.point g.P.ContourPoint.points g.P.ContourPoint.each c.args.contour.now in
    let many : c.len-count.result ≡ length (contour_of value points) = c.len-count.ensures ∙ ap length c.new-comparer.ensures.contour ∙ sym (length-contour value points) in
    let pair = is_pair (contour_of value points) c.len-count.result c.args.start c.loop-step.step c.place_at_step.result many
    (omega (arith, c.requires, long, many, length-contour value points)) c.loop-step-test.true c.place_at_step.ensures.within c.place_at_step.ensures.value in
    λ told. started_first _ _ _ _ _ pair c.loop-step.invariant.agree (rw c.loop-step.invariant.contour at c.in-Less.ensures.order)

pub returns-in-Greater-clause-not_before : goal.returns-in-Greater-clause-not_before
returns-in-Greater-clause-not_before g c =
    let value = g.P.Coordinate.IntNumber.value in
    let points = g.P.ContourPoint.points c.args.contour.now in
    let long = points-length g.P.ContourPoint.point g.P.ContourPoint.points g.P.ContourPoint.each c.args.contour.now in
    let many : c.len-count.result ≡ length (contour_of value points) = c.len-count.ensures ∙ ap length c.new-comparer.ensures.contour ∙ sym (length-contour value points) in
    let pair = is_pair (contour_of value points) c.len-count.result c.args.start c.loop-step.step c.place_at_step.result many
    (omega (arith, c.requires, long, many, length-contour value points)) c.loop-step-test.true c.place_at_step.ensures.within c.place_at_step.ensures.value in
    λ told. reversed_first _ _ _ _ _ pair c.loop-step.invariant.agree (rw c.loop-step.invariant.contour at c.in-Greater.ensures.order)

pub loop-step-preserved : goal.loop-step-preserved
loop-step-preserved g c =
    let value = g.P.Coordinate.IntNumber.value in
    let points = g.P.ContourPoint.points c.args.contour.now in
    let long = points-length g.P.ContourPoint.point g.P.ContourPoint.points g.P.ContourPoint.each c.args.contour.now in
    let many : c.len-count.result ≡ length (contour_of value points) = c.len-count.ensures ∙ ap length c.new-comparer.ensures.contour ∙ sym (length-contour value points) in
    let pair = is_pair (contour_of value points) c.len-count.result c.args.start c.loop-step.step c.place_at_step.result many
    (omega (arith, c.requires, long, many, length-contour value points)) c.loop-step-test.true c.place_at_step.ensures.within c.place_at_step.ensures.value in
    record {
      contour = c.compare.ensures.contour ∙ c.loop-step.invariant.contour;
      agree = agree_longer _ _ _ _ _ pair c.loop-step.invariant.agree (rw c.loop-step.invariant.contour at c.in-Equal.ensures.order);
      counted = omega (arith, c.compare.ensures.comparisons, c.loop-step.invariant.counted);
    }

pub returns-clause-not_before : goal.returns-clause-not_before
returns-clause-not_before g c =
    let value = g.P.Coordinate.IntNumber.value in
    let points = g.P.ContourPoint.points c.args.contour.now in
    let long = points-length g.P.ContourPoint.point g.P.ContourPoint.points g.P.ContourPoint.each c.args.contour.now in
    let many : c.len-count.result ≡ length (contour_of value points) = c.len-count.ensures ∙ ap length c.new-comparer.ensures.contour ∙ sym (length-contour value points) in
    λ told. agree_throughout (contour_of value points) c.args.start c.loop-step.step (omega (arith, c.requires, long, length-contour value points))
    (omega (arith, many, c.loop-step-test.false, c.loop-step.auto.step-end)) c.loop-step.invariant.agree
