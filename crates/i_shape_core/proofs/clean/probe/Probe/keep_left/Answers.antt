use Rattle.std.proofs.Common.{Some, ap}
use Rattle.i_shape_core.proofs.Plane.Contours.{kept-contour}
use Rattle.i_shape_core.proofs.clean.probe.Probe.keep_left.Goals as goal

pub returns-clause-kept : goal.returns-clause-kept
returns-clause-kept g c =
    (rw c.in-Some.is (ap Some (kept-contour g.I.IntNumber.value _ (g.P.ContourPoint.points c.in_ok-kept.kept.items) c.in-Some.places.now c.in_ok-kept.ensures.points)), c.in_ok-kept.ensures.visits)
