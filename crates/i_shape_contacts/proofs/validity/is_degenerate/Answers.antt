use Rattle.std.proofs.Common.{arith, length, inl, inr}
use Rattle.std.proofs.lemmas.Bool.{lt-ltb}
use Rattle.i_shape_core.proofs.Plane.PointLists.{read-length}
use Rattle.i_shape_contacts.proofs.validity.is_degenerate.Goals as goal

pub returns-then-ring-lt3 : goal.returns-then-ring-lt3
returns-then-ring-lt3 g c =
    let count = read-length g.P.Coordinate.IntNumber.value g.P.ContourPoint.point g.P.ContourPoint.points g.P.ContourPoint.each c.args.ring.now in
    let few = c.if-ring-lt3.true in
    (λ t. inl (omega (arith, count)), λ w. lt-ltb (length c.args.ring.now) 3 few)

pub returns-else-ring-lt3 : goal.returns-else-ring-lt3
returns-else-ring-lt3 g c =
    let count = read-length g.P.Coordinate.IntNumber.value g.P.ContourPoint.point g.P.ContourPoint.points g.P.ContourPoint.each c.args.ring.now in
    let enough = c.if-ring-lt3.false in (
      λ t. inr (c.are_all_equal.ensures.0 t),
      λ w. elim w [ inl few ↦ absurd (omega (arith, count, few)) | inr all ↦ c.are_all_equal.ensures.1 all ],
    )
