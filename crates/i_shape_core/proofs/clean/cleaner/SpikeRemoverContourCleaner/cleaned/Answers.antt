use Rattle.std.proofs.Common.{arith}
use Rattle.i_shape_core.specs.IntPoint.{contour_of}
use Rattle.i_shape_core.proofs.Plane.Contours.{length-contour}
use Rattle.i_shape_core.proofs.CleanerAnswers.Kept.{spikeless_long}
use Rattle.i_shape_core.proofs.clean.cleaner.SpikeRemoverContourCleaner.cleaned.Goals as goal

pub returns-in_err-from_slice-clause-short : goal.returns-in_err-from_slice-clause-short
returns-in_err-from_slice-clause-short g c = λ few.
    absurd (omega (arith, few, length-contour g.I.IntNumber.value c.args.contour.now, spikeless_long (contour_of g.I.IntNumber.value c.args.contour.now) (c.has_no_spikes.ensures.0 c.if-has_no_spikes.true)))

pub returns-then-has_no_spikes-clause-short : goal.returns-then-has_no_spikes-clause-short
returns-then-has_no_spikes-clause-short g c = λ few.
    absurd (omega (arith, few, length-contour g.I.IntNumber.value c.args.contour.now, spikeless_long (contour_of g.I.IntNumber.value c.args.contour.now) (c.has_no_spikes.ensures.0 c.if-has_no_spikes.true)))
