use Rattle.std.proofs.Common.{◌-◌, ◌^◌, ◌<◌, List, IsTrue, false, subst, refl, arith, w64}
use Rattle.std.proofs.lemmas.Int.{to_z_pos}
use Rattle.i_shape.specs.IntPoint.{point_of}
use Rattle.i_shape.specs.Point.{Point}
use Rattle.i_shape_contacts.specs.Contacts.{IsContact}
use Rattle.i_shape_contacts.specs.Listing.{ListsContacts}
use Rattle.i_shape_c.specs.Cleaned.{AreSafe}
use Rattle.i_shape_c.specs.declared.codes.Refusal.TheVariants.{Unsafe}
use Rattle.i_shape_c.proofs.Boundary.{copied_points, safe_contour}
use Rattle.i_shape_c.proofs.Refusals.{code_of_64, refused, not_refused}
use Rattle.i_shape_c.proofs.contacts.find_contacts.Goals as goal

pub contacts-requires : goal.contacts-requires
contacts-requires g c =
    safe_contour g.P.Coordinate.IntNumber.width g.P.Coordinate.IntNumber.value g.P.ContourPoint.point c.args.points.now (g.P.ContourPoint.points c.args.points.now) (g.P.ContourPoint.each c.args.points.now) (c.if-not-are_safe.ensures.0 refl)

pub returns : goal.returns
returns g c =
    let same = copied_points g.P.Coordinate.IntNumber.width g.P.Coordinate.IntNumber.value g.P.ContourPoint.point c.args.points.now (g.P.ContourPoint.points c.args.points.now) (g.P.ContourPoint.each c.args.points.now) in
    let listed = subst (λ (list : List Point). ListsContacts (2 ^ 64 - 1) (IsContact list) c.args.out.now c.contacts.new.out c.contacts.result) same c.contacts.ensures in
    let total = listed.are_written.count in
    let most = c.capped.ensures in
    let small : c.capped.result < 2 ^ 63 = omega (arith, most) in
    rw (to_z_pos w64 c.capped.result small) (record {
      answer = record { contacts = listed.contacts; are = listed.are; are_written = record { written = listed.are_written.written; count = omega (arith, total, most) } };
      refuses = not_refused (tt, tt, c.if-not-are_safe.ensures.0 refl) c.capped.result;
    })

pub returns-then-not-are_safe : goal.returns-then-not-are_safe
returns-then-not-are_safe g c =
    let unsafe : AreSafe g.P.Coordinate.IntNumber.width (λ p. point_of g.P.Coordinate.IntNumber.value (g.P.ContourPoint.point p)) c.args.points.now → ⊥ = λ safe. let told : IsTrue false = c.if-not-are_safe.ensures.1 safe in cc in
    rw (c.code.ensures, code_of_64 Unsafe) (record { answer = (omega arith, refl); refuses = refused Unsafe (tt, tt, unsafe) })
