use Rattle.std.proofs.Common.{arith}
use Rattle.i_shape_core.specs.IntPoint.{IsSafe, contour_of}
use Rattle.i_shape_core.proofs.Plane.Contours.{length-contour}
use Rattle.i_shape_core.proofs.Removal.Rotations.{all_rotated}
use Rattle.i_shape_core.proofs.Walks.Found.{kept_by_rotation}
use Rattle.i_shape_core.proofs.LeastRotation.Readings.{least-written}
use Rattle.i_shape_core.proofs.clean.simplifier.ContourSimplifier.canonical.Goals as goal

pub rotate_to_least-requires : goal.rotate_to_least-requires
rotate_to_least-requires g c =
    let simple = (rw c.in-Some.is at c.in_ok-kept.ensures.answer).cleaned in
    omega (arith, simple.answer.enough, length-contour g.I.IntNumber.value c.in-Some.kept.items, c.in-Some.kept.ok.0)

pub returns-clause-answer : goal.returns-clause-answer
returns-clause-answer g c =
    let simple = (rw c.in-Some.is at c.in_ok-kept.ensures.answer).cleaned in
    let least = least-written g.I.IntNumber.value c.in-Some.kept _ _ c.as_mut_slice.ensures.value c.rotate_to_least.ensures.len c.rotate_to_least.ensures.least in
    record {
      answer = record { end = contour_of g.I.IntNumber.value c.in-Some.kept.items; ends = simple.answer; least = least };
      kept = kept_by_rotation _ _ _ simple.kept least.rotation;
      safe = all_rotated (IsSafe g.I.IntNumber.width) least.rotation simple.safe;
    }
