use Rattle.std.proofs.Common.{◌≡◌, ◌∙◌, ◌+◌, ◌-◌, ◌≤◌, ℕ, List, length, map, slice_range, refl, ap, sym, subst, arith}
use Rattle.std.proofs.lemmas.List.{length-map}
use Rattle.i_shape.specs.IntPoint.{contour_of, point_of}
use Rattle.i_shape_core.proofs.Plane.PointLists.{read-length}
use Rattle.i_shape_core.proofs.Lists.Rings.{rises_to}
use Rattle.i_shape_contacts.specs.Contacts.{IsRingContact}
use Rattle.i_shape_c.specs.Batch.{offset}
use Rattle.i_shape_c.specs.Cleaned.{AreSafe}
use Rattle.i_shape_c.specs.Contacts.{AreRebased}
use Rattle.i_shape_c.proofs.Boundary.{copied_points, safe_contour}
use Rattle.i_shape_c.proofs.RingsMoved.{map_part, contacts_given, contacts_from_zero, written_moved, can_move}
use Rattle.i_shape_c.proofs.contacts.contacts_of_parts.Goals as goal

pub part-given-requires-clause-order : goal.part-given-requires-clause-order
part-given-requires-clause-order g c =
    rises_to c.args.offsets.now (length c.args.offsets.now) 0 (length c.args.offsets.now - 1) c.requires.parted.order (omega arith) (omega (arith, c.requires.parted.some))

pub contacts_of_rings-requires-clause-safe : goal.contacts_of_rings-requires-clause-safe
contacts_of_rings-requires-clause-safe g c =
    let at = λ (p : g.row.P.Denot). point_of g.P.Coordinate.IntNumber.value (g.P.ContourPoint.point p) in
    let given = c.part-given.result.now in
    safe_contour g.P.Coordinate.IntNumber.width g.P.Coordinate.IntNumber.value g.P.ContourPoint.point given (g.P.ContourPoint.points given) (g.P.ContourPoint.each given)
    (subst (AreSafe g.P.Coordinate.IntNumber.width at) (sym c.part-given.ensures.part) c.requires.points_safe)

pub contacts_of_rings-count-requires-clause-safe : goal.contacts_of_rings-count-requires-clause-safe
contacts_of_rings-count-requires-clause-safe g c =
    let at = λ (p : g.row.P.Denot). point_of g.P.Coordinate.IntNumber.value (g.P.ContourPoint.point p) in
    let given = c.part-given.result.now in
    safe_contour g.P.Coordinate.IntNumber.width g.P.Coordinate.IntNumber.value g.P.ContourPoint.point given (g.P.ContourPoint.points given) (g.P.ContourPoint.each given)
    (subst (AreSafe g.P.Coordinate.IntNumber.width at) (sym c.part-given.ensures.part) c.requires.points_safe)

pub returns-then-start-eq0-clause-ok : goal.returns-then-start-eq0-clause-ok
returns-then-start-eq0-clause-ok g c =
    let value = g.P.Coordinate.IntNumber.value in
    let at = λ (p : g.row.P.Denot). point_of value (g.P.ContourPoint.point p) in
    let offsets = c.args.offsets.now in
    let points = c.args.points.now in
    let given = c.part-given.result.now in
    let start = offset offsets 0 in
    let last = offset offsets (length offsets - 1) in
    let all = map at points in
    let own_points = contour_of value (g.P.ContourPoint.points given) in
    let part : own_points ≡ slice_range all start last = copied_points g.P.Coordinate.IntNumber.width value g.P.ContourPoint.point given (g.P.ContourPoint.points given) (g.P.ContourPoint.each given) ∙ ap (map at) c.part-given.ensures.part ∙ map_part at points start last in
    let as_many = read-length value g.P.ContourPoint.point g.P.ContourPoint.points g.P.ContourPoint.each given in
    let many : length own_points + start ≡ last = omega (arith, as_many, c.part-given.ensures.len) in
    let within : last ≤ length all = omega (arith, c.requires.parted.last, length-map points at) in
    let zero : start ≡ 0 = c.if-start-eq0.true in
    let listed = c.contacts_of_rings.ensures in
    record {
      contacts = listed.contacts;
      are = contacts_from_zero offsets offsets start last c.requires.parted.order refl refl refl (λ k h. omega (arith, zero)) all own_points part many within listed.contacts zero listed.are;
      are_written = listed.are_written;
    }

pub move_contacts-requires : goal.move_contacts-requires
move_contacts-requires g c =
    let value = g.P.Coordinate.IntNumber.value in
    let at = λ (p : g.row.P.Denot). point_of value (g.P.ContourPoint.point p) in
    let offsets = c.args.offsets.now in
    let points = c.args.points.now in
    let given = c.part-given.result.now in
    let start = offset offsets 0 in
    let last = offset offsets (length offsets - 1) in
    let all = map at points in
    let own_points = contour_of value (g.P.ContourPoint.points given) in
    let part : own_points ≡ slice_range all start last = copied_points g.P.Coordinate.IntNumber.width value g.P.ContourPoint.point given (g.P.ContourPoint.points given) (g.P.ContourPoint.each given) ∙ ap (map at) c.part-given.ensures.part ∙ map_part at points start last in
    let as_many = read-length value g.P.ContourPoint.point g.P.ContourPoint.points g.P.ContourPoint.each given in
    let many : length own_points + start ≡ last = omega (arith, as_many, c.part-given.ensures.len) in
    let within : last ≤ length all = omega (arith, c.requires.parted.last, length-map points at) in
    let listed = c.contacts_of_rings-count.ensures in
    can_move (IsRingContact c.deref.result.now own_points) start (length own_points) listed.contacts c.args.out.now c.contacts_of_rings-count.new.out c.contacts_of_rings-count.result (λ i j t. (t.order, t.within)) (omega (arith, many, c.requires.parted.last)) (omega arith) listed.are listed.are_written

pub returns-clause-ok : goal.returns-clause-ok
returns-clause-ok g c =
    let value = g.P.Coordinate.IntNumber.value in
    let at = λ (p : g.row.P.Denot). point_of value (g.P.ContourPoint.point p) in
    let offsets = c.args.offsets.now in
    let points = c.args.points.now in
    let given = c.part-given.result.now in
    let start = offset offsets 0 in
    let last = offset offsets (length offsets - 1) in
    let all = map at points in
    let own_points = contour_of value (g.P.ContourPoint.points given) in
    let part : own_points ≡ slice_range all start last = copied_points g.P.Coordinate.IntNumber.width value g.P.ContourPoint.point given (g.P.ContourPoint.points given) (g.P.ContourPoint.each given) ∙ ap (map at) c.part-given.ensures.part ∙ map_part at points start last in
    let as_many = read-length value g.P.ContourPoint.point g.P.ContourPoint.points g.P.ContourPoint.each given in
    let many : length own_points + start ≡ last = omega (arith, as_many, c.part-given.ensures.len) in
    let within : last ≤ length all = omega (arith, c.requires.parted.last, length-map points at) in
    let based = subst (λ (l : List ℕ). AreRebased offsets l (length offsets)) (sym c.deref.ensures.value) c.in_ok-own.ensures in
    let listed = c.contacts_of_rings-count.ensures in
    record {
      contacts = _;
      are = contacts_given offsets c.deref.result.now start last c.requires.parted.order refl refl based.count based.each all own_points part many within listed.contacts listed.are;
      are_written = written_moved start listed.contacts c.args.out.now c.contacts_of_rings-count.new.out c.move_contacts.new.contacts c.contacts_of_rings-count.result (omega arith) listed.are_written c.move_contacts.ensures;
    }
