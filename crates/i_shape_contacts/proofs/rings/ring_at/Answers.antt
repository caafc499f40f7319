use Rattle.std.proofs.Common.{◌+◌, ◌-◌, length, sym, ap, subst, ◌∙◌, arith, All}
use Rattle.i_shape_core.specs.IntPoint.{contour_of, IsSafe}
use Rattle.i_shape_core.proofs.Lists.Rings.{rises_to}
use Rattle.i_shape_contacts.proofs.Faults.{read-part, All-part}
use Rattle.i_shape_contacts.proofs.rings.ring_at.Goals as goal

pub part-requires-clause-order : goal.part-requires-clause-order
part-requires-clause-order g c = c.requires.divides.divides.order c.args.ring c.requires.within

pub part-requires-clause-within : goal.part-requires-clause-within
part-requires-clause-within g c =
    let d = c.requires.divides in
    let up = rises_to c.args.offsets.now (length c.args.offsets.now) (c.args.ring + 1) (length c.args.offsets.now - 1) d.divides.order (omega (arith, c.requires.within)) (omega (arith, c.requires.within)) in
    omega (arith, up, d.all)

pub returns-clause-is : goal.returns-clause-is
returns-clause-is g c =
    let value = g.P.Coordinate.IntNumber.value in
    let points = g.P.ContourPoint.points in
    ap (λ list. contour_of value (points list)) c.part.ensures.part ∙ read-part value g.P.ContourPoint.point points g.P.ContourPoint.each c.args.points.now _ _

pub returns-clause-safe : goal.returns-clause-safe
returns-clause-safe g c = subst (All (IsSafe g.P.Coordinate.IntNumber.width)) (sym (returns-clause-is g c)) (All-part (IsSafe g.P.Coordinate.IntNumber.width) _ _ _ c.requires.safe)
