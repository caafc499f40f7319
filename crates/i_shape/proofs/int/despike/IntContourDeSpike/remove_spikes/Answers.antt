use Rattle.std.proofs.Common.{arith, ap}
use Rattle.i_shape.proofs.Common.{contour_of}
use Rattle.i_shape_core.proofs.Plane.Contours.{refuted_by_test}
use Rattle.i_shape.proofs.InPlace.Spikes.{spikeless_stays_in_place, spikes_collapse}
use Rattle.i_shape.proofs.int.despike.IntContourDeSpike.remove_spikes.Goals as goal

pub returns-then-has_no_spikes-clause-gives : goal.returns-then-has_no_spikes-clause-gives
returns-then-has_no_spikes-clause-gives g c = spikeless_stays_in_place (contour_of g.I.IntNumber.value c.args.self.now.items) (c.has_no_spikes.ensures.0 c.if-has_no_spikes.true)

pub returns-in-None-clause-gives : goal.returns-in-None-clause-gives
returns-in-None-clause-gives g c = spikes_collapse (contour_of g.I.IntNumber.value c.args.self.now.items) (contour_of g.I.IntNumber.value c.clear.new.self.items)
    (refuted_by_test c.has_no_spikes.result c.has_no_spikes.ensures (λ h. h, λ h. h) c.if-has_no_spikes.false) (rw c.in-None.is at c.in_ok-contour.ensures.answer).cleaned.answer (ap (contour_of g.I.IntNumber.value) c.clear.ensures.items)

pub returns-in-Some : goal.returns-in-Some
returns-in-Some g c = grind arith
