use Rattle.std.proofs.Common.{rules, refl, IsTrue, All}
use Rattle.i_shape.proofs.Common.{IsSafe}
use Rattle.i_shape.proofs.Buffers.CleanedContours.{contour-read, contours-more, contours-all}
use Rattle.i_shape.proofs.flat.buffer.cleaning.parts.are_clean.Goals as goal

pub is_clean-requires : goal.is_clean-requires
is_clean-requires g c =
    rw c.part.ensures (contour-read g.T.IntNumber.value c.args.points.now c.args.ranges.now c.loop-range.range-index (record { start = 0; end = 0 }) c.loop-range-test.true (All (IsSafe g.T.IntNumber.width)) c.requires.safe)

pub returns-then-not-is_clean : goal.returns-then-not-is_clean
returns-then-not-is_clean g c =
    let here = contour-read g.T.IntNumber.value c.args.points.now c.args.ranges.now c.loop-range.range-index (record { start = 0; end = 0 }) c.loop-range-test.true g.C.ContourCleaner.meaning.clean in
    (λ f. absurd (cc), λ all. let told = c.is_clean.ensures.1 (rw c.part.ensures (here all)) in search rules)

pub loop-range-preserved : goal.loop-range-preserved
loop-range-preserved g c =
    let told : IsTrue c.is_clean.result = search rules in
    contours-more g.T.IntNumber.value c.args.points.now c.args.ranges.now c.loop-range.range-index (record { start = 0; end = 0 }) c.loop-range-test.true g.C.ContourCleaner.meaning.clean c.loop-range.invariant
    (rw c.part.ensures at (c.is_clean.ensures.0 told))

pub returns : goal.returns
returns g c =
    let all = contours-all g.T.IntNumber.value c.args.points.now c.args.ranges.now c.loop-range.range-index (All g.C.ContourCleaner.meaning.clean) c.loop-range-test.false c.loop-range.invariant in
    (λ t. all, λ a. refl)
