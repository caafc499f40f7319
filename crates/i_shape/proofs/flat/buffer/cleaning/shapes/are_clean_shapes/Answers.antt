use Rattle.std.proofs.Common.{rules, refl, IsTrue, All}
use Rattle.i_shape.proofs.Common.{IsSafe}
use Rattle.i_shape.proofs.Buffers.CleanedShapes.{shape-read, shapes-more, shapes-all}
use Rattle.i_shape.proofs.flat.buffer.cleaning.shapes.are_clean_shapes.Goals as goal

pub are_clean-requires-clause-safe : goal.are_clean-requires-clause-safe
are_clean-requires-clause-safe g c =
    rw c.named_ranges.ensures (shape-read g.T.IntNumber.value c.args.points.now c.args.contour_ranges.now c.args.shape_ranges.now c.loop-range.range-index (record { start = 0; end = 0 }) c.loop-range-test.true (All (All (IsSafe g.T.IntNumber.width))) c.requires.safe)

pub returns-then-not-are_clean : goal.returns-then-not-are_clean
returns-then-not-are_clean g c =
    let here = shape-read g.T.IntNumber.value c.args.points.now c.args.contour_ranges.now c.args.shape_ranges.now c.loop-range.range-index (record { start = 0; end = 0 }) c.loop-range-test.true (All g.C.ContourCleaner.meaning.clean) in
    (λ f. absurd (cc), λ all. let told = c.are_clean.ensures.1 (rw c.named_ranges.ensures (here all)) in search rules)

pub loop-range-preserved : goal.loop-range-preserved
loop-range-preserved g c =
    let told : IsTrue c.are_clean.result = search rules in
    shapes-more g.T.IntNumber.value c.args.points.now c.args.contour_ranges.now c.args.shape_ranges.now c.loop-range.range-index (record { start = 0; end = 0 }) c.loop-range-test.true (All g.C.ContourCleaner.meaning.clean) c.loop-range.invariant
    (rw c.named_ranges.ensures at (c.are_clean.ensures.0 told))

pub returns : goal.returns
returns g c =
    let all = shapes-all g.T.IntNumber.value c.args.points.now c.args.contour_ranges.now c.args.shape_ranges.now c.loop-range.range-index (All (All g.C.ContourCleaner.meaning.clean)) c.loop-range-test.false c.loop-range.invariant in
    (λ t. all, λ a. refl)
