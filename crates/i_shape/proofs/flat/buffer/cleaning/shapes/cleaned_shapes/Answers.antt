use Rattle.std.proofs.Common.{ap, All}
use Rattle.i_shape.proofs.Common.{slices, IsSafe, ListClean, named_shapes}
use Rattle.i_shape.proofs.Buffers.CleanedShapes.{shape-read, shapes-all, held-more, clean-more, held-none, clean-none, named_there}
use Rattle.i_shape.proofs.flat.buffer.cleaning.shapes.cleaned_shapes.Goals as goal

pub loop-range-init : goal.loop-range-init
loop-range-init g c = record { held = held-none _ c.in_ok-kept.ensures.ok; clean = clean-none g.C.ContourCleaner.meaning.answers g.T.IntNumber.value _ c.in_ok-kept.ensures.ok }

pub append_cleaned_shape-requires-clause-safe : goal.append_cleaned_shape-requires-clause-safe
append_cleaned_shape-requires-clause-safe g c =
    rw c.named_ranges.ensures (shape-read g.T.IntNumber.value c.args.points.now c.args.contour_ranges.now c.args.shape_ranges.now c.loop-range.range-index (record { start = 0; end = 0 }) c.loop-range-test.true (All (All (IsSafe g.T.IntNumber.width))) c.requires.safe)

pub loop-range-preserved : goal.loop-range-preserved
loop-range-preserved g c =
    let value = g.T.IntNumber.value in
    let step = c.in_ok-append_cleaned_shape.ensures.ok in
    let points = c.args.points.now in
    record {
      held = held-more value _ c.loop-range.kept c.append_cleaned_shape.new.kept c.loop-range.invariant.held step;
      clean = clean-more value points c.args.contour_ranges.now c.args.shape_ranges.now c.loop-range.range-index (record { start = 0; end = 0 }) c.loop-range-test.true _ c.loop-range.kept c.append_cleaned_shape.new.kept c.loop-range.invariant.held step
          (ap (slices points) c.named_ranges.ensures) c.loop-range.invariant.clean;
    }

pub returns-clause-cleaned : goal.returns-clause-cleaned
returns-clause-cleaned g c =
    shapes-all g.T.IntNumber.value c.args.points.now c.args.contour_ranges.now c.args.shape_ranges.now c.loop-range.range-index (λ w. ListClean g.C.ContourCleaner.meaning.answers w (named_shapes g.T.IntNumber.value c.loop-range.kept)) c.loop-range-test.false c.loop-range.invariant.clean

pub checked_named-requires : goal.checked_named-requires
checked_named-requires g c = named_there _ c.args.contour_ranges.now c.args.shape_ranges.now c.requires.readable
