use Rattle.std.proofs.Common.{Some, map, refl, arith}
use Rattle.i_shape.specs.IntPoint.{point_of}
use Rattle.i_shape_contacts.specs.Contacts.{IsRingContact}
use Rattle.i_shape_c.specs.Contacts.{ContactAnswer}
use Rattle.i_shape_c.specs.declared.codes.Refusal.TheVariants.{NoMemory}
use Rattle.i_shape_c.proofs.Refusals.{each_code, code_of_32, refusal_as, as_is, refused, refused_memory}
use Rattle.i_shape_c.proofs.RingsMoved.{told_contact}
use Rattle.i_shape_c.proofs.contacts.find_contact_of_rings.Goals as goal

pub returns-in-Some : goal.returns-in-Some
returns-in-Some g c =
    let at = λ (p : g.row.P.Denot). point_of g.P.Coordinate.IntNumber.value (g.P.ContourPoint.point p) in
    let r = c.in-Some.refusal in
    rw (c.code.ensures, code_of_32 r) (record {
      answer = each_code (ContactAnswer (IsRingContact c.args.offsets.now (map at c.args.points.now)) c.args.out.now c.args.out.now) r (λ n few. (few, refl));
      refuses = refused r (refusal_as (Some r) c.are_parted-is_parted.ensures c.has_places-has_room.ensures as_is c.in-Some.ensures);
    })

pub returns-in-Ok : goal.returns-in-Ok
returns-in-Ok g c =
    let at = λ (p : g.row.P.Denot). point_of g.P.Coordinate.IntNumber.value (g.P.ContourPoint.point p) in
    let fit = c.in_default.ensures in
    let parted = c.are_parted-is_parted.ensures.0 fit.0 in
    let room = c.has_places-has_room.ensures.0 fit.1 in
    let told = told_contact (parted, room, fit.2) (IsRingContact c.args.offsets.now (map at c.args.points.now)) c.in-Ok.found c.args.out.now c.write_contact.new.out c.write_contact.result c.in-Ok.ensures.ok c.write_contact.ensures in
    record { answer = told.0; refuses = told.1 }

pub returns-in-Err : goal.returns-in-Err
returns-in-Err g c =
    let fit = c.in_default.ensures in
    let parted = c.are_parted-is_parted.ensures.0 fit.0 in
    let room = c.has_places-has_room.ensures.0 fit.1 in
    rw (c.code-in-Err.ensures, code_of_32 NoMemory) (record { answer = (omega arith, refl); refuses = refused_memory (parted, room, fit.2) c.in-Err.ensures.memory })
