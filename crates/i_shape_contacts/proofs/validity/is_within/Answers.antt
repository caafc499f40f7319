use Rattle.std.proofs.Common.{◌≡◌, ℕ, not, eqb, IsTrue, length, ap, subst, arith}
use Rattle.std.proofs.lemmas.Bool.{eq-eqb}
use Rattle.i_shape_core.specs.IntPoint.{contour_of}
use Rattle.i_shape_core.proofs.Plane.PointLists.{read-length}
use Rattle.i_shape_contacts.proofs.Faults.{divides_read, untrue}
use Rattle.i_shape_contacts.proofs.Nesting.{within_at, some_point}
use Rattle.i_shape_contacts.proofs.validity.is_within.Goals as goal

-- a test that says that equal numbers differ
unlike : (a b : ℕ) → IsTrue (not (eqb a b)) → a ≡ b → ⊥
unlike a b t e = absurd (untrue (subst (λ x. IsTrue (not x)) (eq-eqb a b e) t))

pub is_beside-requires-clause-some : goal.is_beside-requires-clause-some
is_beside-requires-clause-some g c =
    let value = g.P.Coordinate.IntNumber.value in
    let point = g.P.ContourPoint.point in
    let points = g.P.ContourPoint.points in
    let each = g.P.ContourPoint.each in
    let list = contour_of value (points c.args.points.now) in
    let divides = divides_read value point points each c.args.points.now c.args.offsets.now c.requires.divides in
    let count = read-length value point points each c.ring_at-then-hole-other.result.now in
    let some = some_point c.args.offsets.now list divides c.requires.whole c.requires.clear c.args.hole c.requires.is_hole.is_ring in
    omega (arith, count, some, ap length c.ring_at-then-hole-other.ensures.is)

pub returns-then-hole-other : goal.returns-then-hole-other
returns-then-hole-other g c =
    let value = g.P.Coordinate.IntNumber.value in
    let points = g.P.ContourPoint.points in
    let divides = divides_read value g.P.ContourPoint.point points g.P.ContourPoint.each c.args.points.now c.args.offsets.now c.requires.divides in
    within_at c.args.offsets.now (contour_of value (points c.args.points.now)) divides c.requires.whole c.requires.clear c.args.hole c.args.other _ _ c.is_beside.result c.ring_at.ensures.is c.ring_at-then-hole-other.ensures.is c.is_beside.ensures c.requires.is_hole c.requires.other_is_hole c.if-hole-other.true

pub returns-else-hole-other : goal.returns-else-hole-other
returns-else-hole-other g c = (λ t. absurd (unlike c.args.hole c.args.other t c.if-hole-other.false), λ w. absurd (w.differ c.if-hole-other.false))
