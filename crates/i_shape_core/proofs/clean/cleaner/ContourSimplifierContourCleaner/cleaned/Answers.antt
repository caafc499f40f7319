use Rattle.std.proofs.Common.{Some}
use Rattle.i_shape_core.specs.IntPoint.{contour_of}
use Rattle.i_shape_core.proofs.Walks.Found.{simple_stays}
use Rattle.i_shape_core.proofs.CleanerAnswers.Kept.{simple_kept}
use Rattle.i_shape_core.proofs.clean.cleaner.ContourSimplifierContourCleaner.cleaned.Goals as goal

pub returns-then-is_simple-clause-answer : goal.returns-then-is_simple-clause-answer
returns-then-is_simple-clause-answer g c =
    let points = contour_of g.I.IntNumber.value c.args.contour.now in
    let stays = simple_stays points (c.is_simple.ensures.0 c.if-is_simple.true) in
    rw (c.in_ok-from_slice.ensures.items) (record { answer = stays; kept = simple_kept points (Some points) stays; safe = c.requires })
