use Rattle.std.proofs.Common.{◌-◌, List, ℕ, length, take, sym, subst, arith}
use Rattle.i_shape.specs.IntPoint.{contour_of, point_of}
use Rattle.i_shape_core.proofs.Plane.PointLists.{read-length}
use Rattle.i_shape_core.proofs.Lists.Rings.{rises_to}
use Rattle.i_shape_contacts.specs.Courses.{DividesPoints}
use Rattle.i_shape_touching.specs.Touching.{IsFirstTouchingFault}
use Rattle.i_shape_touching.specs.declared.validity.TouchingValidity.TheVariants.{Valid, TooFewPoints, Contact, HoleOutside, HoleWithin, Disconnected}
use Rattle.i_shape_c.specs.Cleaned.{AreSafe}
use Rattle.i_shape_c.specs.Validity.{placed_touching}
use Rattle.i_shape_c.proofs.Boundary.{safe_contour}
use Rattle.i_shape_c.proofs.Faults.{rebased_divides, points_read, fault_placed}
use Rattle.i_shape_c.proofs.touching.touching_fault_of.Goals as goal

pub part-given-requires-clause-order : goal.part-given-requires-clause-order
part-given-requires-clause-order g c =
    rises_to c.args.offsets.now (length c.args.offsets.now) 0 (length c.args.offsets.now - 1) c.requires.parted.order (omega arith) (omega (arith, c.requires.parted.some))

pub touching_validity_of-requires-clause-safe : goal.touching_validity_of-requires-clause-safe
touching_validity_of-requires-clause-safe g c =
    let at = λ (p : g.row.P.Denot). point_of g.P.Coordinate.IntNumber.value (g.P.ContourPoint.point p) in
    let given = c.part-given.result.now in
    safe_contour g.P.Coordinate.IntNumber.width g.P.Coordinate.IntNumber.value g.P.ContourPoint.point given (g.P.ContourPoint.points given) (g.P.ContourPoint.each given)
    (subst (AreSafe g.P.Coordinate.IntNumber.width at) (sym c.part-given.ensures.part) c.requires.points_safe)

pub touching_validity_of-requires-clause-divides : goal.touching_validity_of-requires-clause-divides
touching_validity_of-requires-clause-divides g c =
    let given = c.part-given.result.now in
    subst (λ (l : List ℕ). DividesPoints (length given) l) (sym c.rebase.ensures.written) (rebased_divides c.args.offsets.now (length c.args.points.now) (length given) c.requires.parted c.part-given.ensures.len)

pub overflow_add-start : goal.overflow_add-start
overflow_add-start g c =
    let given = c.part-given.result.now in
    let points = contour_of g.P.Coordinate.IntNumber.value (g.P.ContourPoint.points given) in
    let own = take (length c.args.offsets.now) c.rebase.new.own in
    let fault = subst (IsFirstTouchingFault own points) c.in-Contact.is c.in_ok-touching_validity_of.ensures.fault in
    let many = read-length g.P.Coordinate.IntNumber.value g.P.ContourPoint.point g.P.ContourPoint.points g.P.ContourPoint.each given in
    let contact = fault.first.first.contact.contact in
    let order = contact.order in
    let within = contact.within in
    let fits = c.type_inv.offsets (length c.args.offsets.now - 1) in
    omega (arith, order, within, many, c.part-given.ensures.len, fits)

pub overflow_add-start-in-Contact : goal.overflow_add-start-in-Contact
overflow_add-start-in-Contact g c =
    let given = c.part-given.result.now in
    let points = contour_of g.P.Coordinate.IntNumber.value (g.P.ContourPoint.points given) in
    let own = take (length c.args.offsets.now) c.rebase.new.own in
    let fault = subst (IsFirstTouchingFault own points) c.in-Contact.is c.in_ok-touching_validity_of.ensures.fault in
    let many = read-length g.P.Coordinate.IntNumber.value g.P.ContourPoint.point g.P.ContourPoint.points g.P.ContourPoint.each given in
    let contact = fault.first.first.contact.contact in
    let order = contact.order in
    let within = contact.within in
    let fits = c.type_inv.offsets (length c.args.offsets.now - 1) in
    omega (arith, order, within, many, c.part-given.ensures.len, fits)

pub overflow_add-start-in-Disconnected : goal.overflow_add-start-in-Disconnected
overflow_add-start-in-Disconnected g c =
    let given = c.part-given.result.now in
    let points = contour_of g.P.Coordinate.IntNumber.value (g.P.ContourPoint.points given) in
    let own = take (length c.args.offsets.now) c.rebase.new.own in
    let fault = subst (IsFirstTouchingFault own points) c.in-Disconnected.is c.in_ok-touching_validity_of.ensures.fault in
    let many = read-length g.P.Coordinate.IntNumber.value g.P.ContourPoint.point g.P.ContourPoint.points g.P.ContourPoint.each given in
    let contact = fault.first.closes.contact in
    let order = contact.order in
    let within = contact.within in
    let fits = c.type_inv.offsets (length c.args.offsets.now - 1) in
    omega (arith, order, within, many, c.part-given.ensures.len, fits)

pub overflow_add-start-in-Disconnected-2 : goal.overflow_add-start-in-Disconnected-2
overflow_add-start-in-Disconnected-2 g c =
    let given = c.part-given.result.now in
    let points = contour_of g.P.Coordinate.IntNumber.value (g.P.ContourPoint.points given) in
    let own = take (length c.args.offsets.now) c.rebase.new.own in
    let fault = subst (IsFirstTouchingFault own points) c.in-Disconnected.is c.in_ok-touching_validity_of.ensures.fault in
    let many = read-length g.P.Coordinate.IntNumber.value g.P.ContourPoint.point g.P.ContourPoint.points g.P.ContourPoint.each given in
    let contact = fault.first.closes.contact in
    let order = contact.order in
    let within = contact.within in
    let fits = c.type_inv.offsets (length c.args.offsets.now - 1) in
    omega (arith, order, within, many, c.part-given.ensures.len, fits)

pub returns-in-Valid-clause-is : goal.returns-in-Valid-clause-is
returns-in-Valid-clause-is g c =
    let given = c.part-given.result.now in
    let points = contour_of g.P.Coordinate.IntNumber.value (g.P.ContourPoint.points given) in
    let own = take (length c.args.offsets.now) c.rebase.new.own in
    let fault = subst (IsFirstTouchingFault own points) c.in-Valid.is c.in_ok-touching_validity_of.ensures.fault in
    let read = points_read g.P.Coordinate.IntNumber.width g.P.Coordinate.IntNumber.value g.P.ContourPoint.point c.args.points.now given (g.P.ContourPoint.points given) c.args.offsets.now (g.P.ContourPoint.each given) c.part-given.ensures.part in
    rw c.fault_at.ensures (fault_placed IsFirstTouchingFault placed_touching _ points c.args.offsets.now own c.args.contour Valid c.rebase.ensures.written read fault)

pub returns-in-TooFewPoints-clause-is : goal.returns-in-TooFewPoints-clause-is
returns-in-TooFewPoints-clause-is g c =
    let given = c.part-given.result.now in
    let points = contour_of g.P.Coordinate.IntNumber.value (g.P.ContourPoint.points given) in
    let own = take (length c.args.offsets.now) c.rebase.new.own in
    let fault = subst (IsFirstTouchingFault own points) c.in-TooFewPoints.is c.in_ok-touching_validity_of.ensures.fault in
    let read = points_read g.P.Coordinate.IntNumber.width g.P.Coordinate.IntNumber.value g.P.ContourPoint.point c.args.points.now given (g.P.ContourPoint.points given) c.args.offsets.now (g.P.ContourPoint.each given) c.part-given.ensures.part in
    rw c.fault_at-in-TooFewPoints.ensures (fault_placed IsFirstTouchingFault placed_touching _ points c.args.offsets.now own c.args.contour (TooFewPoints c.in-TooFewPoints.ring) c.rebase.ensures.written read fault)

pub returns-in-Contact-clause-is : goal.returns-in-Contact-clause-is
returns-in-Contact-clause-is g c =
    let given = c.part-given.result.now in
    let points = contour_of g.P.Coordinate.IntNumber.value (g.P.ContourPoint.points given) in
    let own = take (length c.args.offsets.now) c.rebase.new.own in
    let fault = subst (IsFirstTouchingFault own points) c.in-Contact.is c.in_ok-touching_validity_of.ensures.fault in
    let read = points_read g.P.Coordinate.IntNumber.width g.P.Coordinate.IntNumber.value g.P.ContourPoint.point c.args.points.now given (g.P.ContourPoint.points given) c.args.offsets.now (g.P.ContourPoint.each given) c.part-given.ensures.part in
    rw c.fault_at-in-Contact.ensures (fault_placed IsFirstTouchingFault placed_touching _ points c.args.offsets.now own c.args.contour (Contact c.in-Contact.it) c.rebase.ensures.written read fault)

pub returns-in-HoleOutside-clause-is : goal.returns-in-HoleOutside-clause-is
returns-in-HoleOutside-clause-is g c =
    let given = c.part-given.result.now in
    let points = contour_of g.P.Coordinate.IntNumber.value (g.P.ContourPoint.points given) in
    let own = take (length c.args.offsets.now) c.rebase.new.own in
    let fault = subst (IsFirstTouchingFault own points) c.in-HoleOutside.is c.in_ok-touching_validity_of.ensures.fault in
    let read = points_read g.P.Coordinate.IntNumber.width g.P.Coordinate.IntNumber.value g.P.ContourPoint.point c.args.points.now given (g.P.ContourPoint.points given) c.args.offsets.now (g.P.ContourPoint.each given) c.part-given.ensures.part in
    rw c.fault_at-in-HoleOutside.ensures (fault_placed IsFirstTouchingFault placed_touching _ points c.args.offsets.now own c.args.contour (HoleOutside c.in-HoleOutside.hole) c.rebase.ensures.written read fault)

pub returns-in-HoleWithin-clause-is : goal.returns-in-HoleWithin-clause-is
returns-in-HoleWithin-clause-is g c =
    let given = c.part-given.result.now in
    let points = contour_of g.P.Coordinate.IntNumber.value (g.P.ContourPoint.points given) in
    let own = take (length c.args.offsets.now) c.rebase.new.own in
    let fault = subst (IsFirstTouchingFault own points) c.in-HoleWithin.is c.in_ok-touching_validity_of.ensures.fault in
    let read = points_read g.P.Coordinate.IntNumber.width g.P.Coordinate.IntNumber.value g.P.ContourPoint.point c.args.points.now given (g.P.ContourPoint.points given) c.args.offsets.now (g.P.ContourPoint.each given) c.part-given.ensures.part in
    rw c.fault_at-in-HoleWithin.ensures (fault_placed IsFirstTouchingFault placed_touching _ points c.args.offsets.now own c.args.contour (HoleWithin c.in-HoleWithin.hole c.in-HoleWithin.other) c.rebase.ensures.written read fault)

pub returns-in-Disconnected-clause-is : goal.returns-in-Disconnected-clause-is
returns-in-Disconnected-clause-is g c =
    let given = c.part-given.result.now in
    let points = contour_of g.P.Coordinate.IntNumber.value (g.P.ContourPoint.points given) in
    let own = take (length c.args.offsets.now) c.rebase.new.own in
    let fault = subst (IsFirstTouchingFault own points) c.in-Disconnected.is c.in_ok-touching_validity_of.ensures.fault in
    let read = points_read g.P.Coordinate.IntNumber.width g.P.Coordinate.IntNumber.value g.P.ContourPoint.point c.args.points.now given (g.P.ContourPoint.points given) c.args.offsets.now (g.P.ContourPoint.each given) c.part-given.ensures.part in
    rw c.fault_at-in-Disconnected.ensures (fault_placed IsFirstTouchingFault placed_touching _ points c.args.offsets.now own c.args.contour (Disconnected c.in-Disconnected.it) c.rebase.ensures.written read fault)
