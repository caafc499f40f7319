use Rattle.std.proofs.Common.{◌≡◌, ◌∙◌, ◌+◌, ◌-◌, ◌++◌, ◌≤◌, length, map, take, drop, slice_range, ap, refl, sym, arith, take_all}
use Rattle.std.proofs.lemmas.List.{take_rest}
use Rattle.i_shape.specs.IntPoint.{point_of}
use Rattle.i_shape_c.specs.Windings.{contours_winding}
use Rattle.i_shape_core.proofs.Lists.Rings.{anew}
use Rattle.i_shape_c.proofs.Windings.{batch_more}
use Rattle.i_shape_c.proofs.winding.wind_in_batches.Goals as goal

pub loop-start-preserved : goal.loop-start-preserved
loop-start-preserved g c =
    let value = g.P.Coordinate.IntNumber.value in
    let at = λ (p : g.row.P.Denot). point_of value (g.P.ContourPoint.point p) in
    let f = λ (q : g.row.P.Denot). contours_winding at c.args.points.now c.args.offsets.now (at q) in
    let about = c.args.about.now in
    let start = c.loop-start.start in
    let end = start + c.min-count.result in
    let out = c.loop-start.out in
    let less = c.min-count.ensures in
    let test = c.loop-start-test.true in
    let within : end ≤ length about = omega (arith, less, test) in
    let room : start ≤ length out = omega (arith, c.loop-start.auto.out, c.requires.room, test) in
    let is = c.wind_batch.ensures ∙ ap (λ ys. map f ys ++ drop (length ys) (take (length out - start) (drop start out))) c.part.ensures.part
    ∙ ap (λ rest. map f (slice_range about start end) ++ drop (length (slice_range about start end)) rest) (take_rest out start) in
    let many = ap (λ ys. length ys + start) (sym c.part.ensures.part) ∙ c.part.ensures.len in
    record {
      within = within;
      told = batch_more f about start end c.args.out.now out c.wind_batch.new.out _ (omega arith) within c.loop-start.invariant.told is many (anew out _ c.wind_batch.new.out start room refl);
    }

pub returns : goal.returns
returns g c =
    let value = g.P.Coordinate.IntNumber.value in
    let at = λ (p : g.row.P.Denot). point_of value (g.P.ContourPoint.point p) in
    let f = λ (q : g.row.P.Denot). contours_winding at c.args.points.now c.args.offsets.now (at q) in
    let about = c.args.about.now in
    let within = c.loop-start.invariant.within in
    let all : c.loop-start.start ≡ length about = omega (arith, within, c.loop-start-test.false) in
    c.loop-start.invariant.told ∙ ap (λ n. map f (take n about) ++ drop n c.args.out.now) all
    ∙ ap (λ qs. map f qs ++ drop (length about) c.args.out.now) (take_all (length about) about (omega arith))
