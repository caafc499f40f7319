use Rattle.std.proofs.Common.{ℤ}
use Rattle.std.proofs.lemmas.Bool.Decides.{Decides-at}
use Rattle.i_shape.specs.IntPoint.{point_of}
use Rattle.i_shape_core.proofs.Plane.Contours.{points_decided}
use Rattle.callers.proofs.SamePoints.{lists_decided}
use Rattle.callers.proofs.store.is_same.Goals as goal

pub returns : goal.returns
returns g c =
    let value : g.row.I.Denot → ℤ = g.I.IntNumber.value in
    rw c.as_slice.ensures.value at
    (Decides-at c.eq.result _ c.eq.ensures
    (lists_decided _ (point_of value) (points_decided value _ g.met.I.IntNumber.equality) c.as_slice.result.now c.args.points.now))
