use Rattle.std.proofs.Common.{◌-◌, length, refl, sym, subst, IsTrue, false, arith}
use Rattle.i_shape.specs.IntPoint.{point_of}
use Rattle.i_shape_c.specs.Cleaned.{AreSafe}
use Rattle.i_shape_core.proofs.Lists.Rings.{rises_to}
use Rattle.i_shape_c.proofs.batch.refusal.Goals as goal

pub part-requires-clause-order : goal.part-requires-clause-order
part-requires-clause-order g c =
    let parted = c.requires c.if-not-is_parted.false in
    rises_to c.args.offsets.now (length c.args.offsets.now) 0 (length c.args.offsets.now - 1) parted.order (omega arith) (omega (arith, parted.some))

pub returns-then-not-are_safe : goal.returns-then-not-are_safe
returns-then-not-are_safe g c =
    let at = λ (p : g.row.P.Denot). point_of g.P.Coordinate.IntNumber.value (g.P.ContourPoint.point p) in
    (c.if-not-is_parted.false, c.if-not-has_room.false, λ safe. let told : IsTrue false = c.if-not-are_safe.ensures.1 (subst (AreSafe g.P.Coordinate.IntNumber.width at) (sym c.part.ensures.part) safe) in cc)

pub returns : goal.returns
returns g c =
    let at = λ (p : g.row.P.Denot). point_of g.P.Coordinate.IntNumber.value (g.P.ContourPoint.point p) in
    (c.if-not-is_parted.false, c.if-not-has_room.false, subst (AreSafe g.P.Coordinate.IntNumber.width at) c.part.ensures.part (c.if-not-are_safe.ensures.0 refl))
