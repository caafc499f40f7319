use Rattle.std.proofs.Common.{Some, arith}
use Rattle.i_shape_core.proofs.Common.{contour_of, IsSafe, IsCanonical}
use Rattle.i_shape_core.proofs.Plane.Contours.{length-contour}
use Rattle.i_shape_core.proofs.Removal.Rotations.{rotation_length}
use Rattle.i_shape_core.proofs.LeastRotation.Readings.{lesser-written}
use Rattle.i_shape_core.proofs.Forms.Unoriented.{unoriented_lesser_way, unoriented_kept, unoriented_left}
use Rattle.i_shape_core.proofs.clean.simplifier.ContourSimplifier.canonical_unoriented.Goals as goal

pub returns-clause-answer : goal.returns-clause-answer
returns-clause-answer g c =
    let value = g.I.IntNumber.value in
    let points = contour_of value c.args.contour.now in
    let form : IsCanonical points (contour_of value c.in-Some.kept.items) = (rw c.in-Some.is at c.in_ok-kept.ensures.answer).answer in
    let answer = unoriented_lesser_way points (contour_of value c.in-Some.kept.items) _ form
    (lesser-written value c.in-Some.kept _ _ c.as_mut_slice.ensures.value c.rotate_to_lesser.ensures.len c.rotate_to_lesser.ensures.lesser) in
    record { answer = answer; kept = unoriented_kept points (Some _) answer; safe = unoriented_left (IsSafe g.I.IntNumber.width) points _ answer c.requires }

pub rotate_to_lesser-requires : goal.rotate_to_lesser-requires
rotate_to_lesser-requires g c =
    let form = (rw c.in-Some.is at c.in_ok-kept.ensures.answer).answer in
    omega (arith, form.ends.enough, rotation_length form.least.rotation, length-contour g.I.IntNumber.value c.in-Some.kept.items, c.in-Some.kept.ok.0)
