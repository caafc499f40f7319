use Rattle.std.proofs.Common.{◌^◌, ◌<◌, Some, map, refl, arith, w64}
use Rattle.std.proofs.lemmas.Int.{to_z_pos}
use Rattle.i_shape.specs.IntPoint.{point_of}
use Rattle.i_shape_contacts.specs.Contacts.{IsRingContact}
use Rattle.i_shape_c.specs.Contacts.{ContactsAnswer}
use Rattle.i_shape_c.specs.declared.codes.Refusal.TheVariants.{NoMemory}
use Rattle.i_shape_c.proofs.Refusals.{each_code, code_of_64, refusal_as, as_is, refused, not_refused, refused_memory}
use Rattle.i_shape_c.proofs.contacts.find_contacts_of_rings.Goals as goal

pub returns-in-Some : goal.returns-in-Some
returns-in-Some g c =
    let at = λ (p : g.row.P.Denot). point_of g.P.Coordinate.IntNumber.value (g.P.ContourPoint.point p) in
    let r = c.in-Some.refusal in
    rw (c.code.ensures, code_of_64 r) (record {
      answer = each_code (ContactsAnswer (IsRingContact c.args.offsets.now (map at c.args.points.now)) c.args.out.now c.args.out.now) r (λ n few. (few, refl));
      refuses = refused r (refusal_as (Some r) c.are_parted-is_parted.ensures (λ t. tt, λ t. refl) as_is c.in-Some.ensures);
    })

pub returns-in-Ok : goal.returns-in-Ok
returns-in-Ok g c =
    let fit = c.in_default.ensures in
    let parted = c.are_parted-is_parted.ensures.0 fit.0 in
    let listed = c.in-Ok.ensures.ok in
    let total = listed.are_written.count in
    let most = c.capped.ensures in
    let small : c.capped.result < 2 ^ 63 = omega (arith, most) in
    rw (to_z_pos w64 c.capped.result small) (record {
      answer = record { contacts = listed.contacts; are = listed.are; are_written = record { written = listed.are_written.written; count = omega (arith, total, most) } };
      refuses = not_refused (parted, tt, fit.2) c.capped.result;
    })

pub returns-in-Err : goal.returns-in-Err
returns-in-Err g c =
    let fit = c.in_default.ensures in
    let parted = c.are_parted-is_parted.ensures.0 fit.0 in
    rw (c.code-in-Err.ensures, code_of_64 NoMemory) (record { answer = (omega arith, c.in-Err.ensures.err); refuses = refused_memory (parted, tt, fit.2) c.in-Err.ensures.memory })
