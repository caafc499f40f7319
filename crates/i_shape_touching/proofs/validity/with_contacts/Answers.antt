use Rattle.std.proofs.Common.{Option, MatchOption, subst}
use Rattle.i_shape_core.specs.IntPoint.{contour_of}
use Rattle.i_shape_contacts.specs.declared.plain.Contact.{Contact}
use Rattle.i_shape_touching.specs.Touching.{NoneJoinedTwice, IsFirstCircle}
use Rattle.i_shape_touching.proofs.validity.with_contacts.Goals as goal

pub returns-in-Some-2 : goal.returns-in-Some-2
returns-in-Some-2 g c =
    let list = contour_of g.P.Coordinate.IntNumber.value (g.P.ContourPoint.points c.args.points.now) in
    let offsets = c.args.offsets.now in
    record {
      no_degenerate = c.requires.whole;
      no_contact = c.in_default.ensures;
      none_leaves = c.in_default-first_leaving.ensures;
      none_enters = c.in_default-first_entering.ensures;
      first = subst (λ (r : Option Contact). MatchOption r (NoneJoinedTwice offsets list) (λ it. IsFirstCircle offsets list it.first it.second)) c.in-Some-2.is c.in_ok-contact.ensures;
    }

pub returns : goal.returns
returns g c =
    let list = contour_of g.P.Coordinate.IntNumber.value (g.P.ContourPoint.points c.args.points.now) in
    let offsets = c.args.offsets.now in
    record {
      no_degenerate = c.requires.whole;
      no_contact = c.in_default.ensures;
      none_leaves = c.in_default-first_leaving.ensures;
      none_enters = c.in_default-first_entering.ensures;
      none_joined = subst (λ (r : Option Contact). MatchOption r (NoneJoinedTwice offsets list) (λ it. IsFirstCircle offsets list it.first it.second)) c.in-None.is c.in_ok-contact.ensures;
    }
