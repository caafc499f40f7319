use Rattle.std.proofs.Common.{◌≡◌, ◌∙◌, ◌-◌, List, ℕ, length, map, sym, ap, subst, arith}
use Rattle.i_shape.specs.IntPoint.{contour_of, point_of}
use Rattle.i_shape_core.proofs.Plane.PointLists.{read-length}
use Rattle.i_shape_core.proofs.Lists.Rings.{rises_to}
use Rattle.i_shape_contacts.specs.Courses.{DividesPoints}
use Rattle.i_shape_contacts.specs.Validity.{IsFirstFault}
use Rattle.i_shape_contacts.specs.declared.validity.Validity.TheVariants.{Valid, TooFewPoints, Contact, HoleOutside, HoleWithin}
use Rattle.i_shape_c.specs.Batch.{offset}
use Rattle.i_shape_c.specs.Cleaned.{AreSafe}
use Rattle.i_shape_c.specs.Validity.{points_between, placed}
use Rattle.i_shape_c.proofs.Boundary.{copied_points, safe_contour}
use Rattle.i_shape_c.proofs.RingsMoved.{map_part}
use Rattle.i_shape_c.proofs.Faults.{rebased_divides, fault_placed}
use Rattle.i_shape_c.proofs.validity.fault_of.Goals as goal

pub part-given-requires-clause-order : goal.part-given-requires-clause-order
part-given-requires-clause-order g c =
    rises_to c.args.offsets.now (length c.args.offsets.now) 0 (length c.args.offsets.now - 1) c.requires.parted.order (omega arith) (omega (arith, c.requires.parted.some))

pub validity_of-requires-clause-safe : goal.validity_of-requires-clause-safe
validity_of-requires-clause-safe g c =
    let at = λ (p : g.row.P.Denot). point_of g.P.Coordinate.IntNumber.value (g.P.ContourPoint.point p) in
    let given = c.part-given.result.now in
    safe_contour g.P.Coordinate.IntNumber.width g.P.Coordinate.IntNumber.value g.P.ContourPoint.point given (g.P.ContourPoint.points given) (g.P.ContourPoint.each given)
    (subst (AreSafe g.P.Coordinate.IntNumber.width at) (sym c.part-given.ensures.part) c.requires.points_safe)

pub validity_of-requires-clause-divides : goal.validity_of-requires-clause-divides
validity_of-requires-clause-divides g c =
    let given = c.part-given.result.now in
    subst (λ (l : List ℕ). DividesPoints (length given) l) (sym c.rebase.ensures.written) (rebased_divides c.args.offsets.now (length c.args.points.now) (length given) c.requires.parted c.part-given.ensures.len)

pub overflow_add-result-in-Contact : goal.overflow_add-result-in-Contact
overflow_add-result-in-Contact g c =
    let offsets = c.args.offsets.now in
    let many = read-length g.P.Coordinate.IntNumber.value g.P.ContourPoint.point g.P.ContourPoint.points g.P.ContourPoint.each c.part-given.result.now in
    let contact = c.in-Contact.ensures.fault.first.first.contact in
    let order = contact.order in
    let within = contact.within in
    let fits = c.type_inv.offsets (length offsets - 1) in
    omega (arith, order, within, many, c.part-given.ensures.len, fits)

pub overflow_add-result-in-Contact-2 : goal.overflow_add-result-in-Contact-2
overflow_add-result-in-Contact-2 g c =
    let offsets = c.args.offsets.now in
    let many = read-length g.P.Coordinate.IntNumber.value g.P.ContourPoint.point g.P.ContourPoint.points g.P.ContourPoint.each c.part-given.result.now in
    let contact = c.in-Contact.ensures.fault.first.first.contact in
    let order = contact.order in
    let within = contact.within in
    let fits = c.type_inv.offsets (length offsets - 1) in
    omega (arith, order, within, many, c.part-given.ensures.len, fits)

pub returns-in-Valid-clause-is : goal.returns-in-Valid-clause-is
returns-in-Valid-clause-is g c =
    let value = g.P.Coordinate.IntNumber.value in
    let at = λ (p : g.row.P.Denot). point_of value (g.P.ContourPoint.point p) in
    let offsets = c.args.offsets.now in
    let points = c.args.points.now in
    let given = c.part-given.result.now in
    let own_points = contour_of value (g.P.ContourPoint.points given) in
    let part : own_points ≡ points_between (map at points) offsets = copied_points g.P.Coordinate.IntNumber.width value g.P.ContourPoint.point given (g.P.ContourPoint.points given) (g.P.ContourPoint.each given) ∙ ap (map at) c.part-given.ensures.part ∙ map_part at points (offset offsets 0) (offset offsets (length offsets - 1)) in
    fault_placed IsFirstFault placed (map at points) own_points offsets _ c.args.contour Valid c.rebase.ensures.written part c.in-Valid.ensures.fault

pub returns-in-TooFewPoints-clause-is : goal.returns-in-TooFewPoints-clause-is
returns-in-TooFewPoints-clause-is g c =
    let value = g.P.Coordinate.IntNumber.value in
    let at = λ (p : g.row.P.Denot). point_of value (g.P.ContourPoint.point p) in
    let offsets = c.args.offsets.now in
    let points = c.args.points.now in
    let given = c.part-given.result.now in
    let own_points = contour_of value (g.P.ContourPoint.points given) in
    let part : own_points ≡ points_between (map at points) offsets = copied_points g.P.Coordinate.IntNumber.width value g.P.ContourPoint.point given (g.P.ContourPoint.points given) (g.P.ContourPoint.each given) ∙ ap (map at) c.part-given.ensures.part ∙ map_part at points (offset offsets 0) (offset offsets (length offsets - 1)) in
    fault_placed IsFirstFault placed (map at points) own_points offsets _ c.args.contour (TooFewPoints c.in-TooFewPoints.ring) c.rebase.ensures.written part c.in-TooFewPoints.ensures.fault

pub returns-in-Contact-clause-is : goal.returns-in-Contact-clause-is
returns-in-Contact-clause-is g c =
    let value = g.P.Coordinate.IntNumber.value in
    let at = λ (p : g.row.P.Denot). point_of value (g.P.ContourPoint.point p) in
    let offsets = c.args.offsets.now in
    let points = c.args.points.now in
    let given = c.part-given.result.now in
    let own_points = contour_of value (g.P.ContourPoint.points given) in
    let part : own_points ≡ points_between (map at points) offsets = copied_points g.P.Coordinate.IntNumber.width value g.P.ContourPoint.point given (g.P.ContourPoint.points given) (g.P.ContourPoint.each given) ∙ ap (map at) c.part-given.ensures.part ∙ map_part at points (offset offsets 0) (offset offsets (length offsets - 1)) in
    fault_placed IsFirstFault placed (map at points) own_points offsets _ c.args.contour (Contact c.in-Contact.it) c.rebase.ensures.written part c.in-Contact.ensures.fault

pub returns-in-HoleOutside-clause-is : goal.returns-in-HoleOutside-clause-is
returns-in-HoleOutside-clause-is g c =
    let value = g.P.Coordinate.IntNumber.value in
    let at = λ (p : g.row.P.Denot). point_of value (g.P.ContourPoint.point p) in
    let offsets = c.args.offsets.now in
    let points = c.args.points.now in
    let given = c.part-given.result.now in
    let own_points = contour_of value (g.P.ContourPoint.points given) in
    let part : own_points ≡ points_between (map at points) offsets = copied_points g.P.Coordinate.IntNumber.width value g.P.ContourPoint.point given (g.P.ContourPoint.points given) (g.P.ContourPoint.each given) ∙ ap (map at) c.part-given.ensures.part ∙ map_part at points (offset offsets 0) (offset offsets (length offsets - 1)) in
    fault_placed IsFirstFault placed (map at points) own_points offsets _ c.args.contour (HoleOutside c.in-HoleOutside.hole) c.rebase.ensures.written part c.in-HoleOutside.ensures.fault

pub returns-in-HoleWithin-clause-is : goal.returns-in-HoleWithin-clause-is
returns-in-HoleWithin-clause-is g c =
    let value = g.P.Coordinate.IntNumber.value in
    let at = λ (p : g.row.P.Denot). point_of value (g.P.ContourPoint.point p) in
    let offsets = c.args.offsets.now in
    let points = c.args.points.now in
    let given = c.part-given.result.now in
    let own_points = contour_of value (g.P.ContourPoint.points given) in
    let part : own_points ≡ points_between (map at points) offsets = copied_points g.P.Coordinate.IntNumber.width value g.P.ContourPoint.point given (g.P.ContourPoint.points given) (g.P.ContourPoint.each given) ∙ ap (map at) c.part-given.ensures.part ∙ map_part at points (offset offsets 0) (offset offsets (length offsets - 1)) in
    fault_placed IsFirstFault placed (map at points) own_points offsets _ c.args.contour (HoleWithin c.in-HoleWithin.hole c.in-HoleWithin.other) c.rebase.ensures.written part c.in-HoleWithin.ensures.fault
