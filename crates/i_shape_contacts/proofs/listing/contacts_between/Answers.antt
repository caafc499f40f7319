use Rattle.std.proofs.Common.{ℕ, IsTrue, ◌≡◌, arith, subst}
use Rattle.i_shape_core.specs.IntPoint.{contour_of}
use Rattle.i_shape_contacts.specs.Contacts.{IsContactBy}
use Rattle.i_shape_contacts.specs.Listing.{AreContacts, Earlier}
use Rattle.i_shape_contacts.proofs.AllContacts.{one_contact, no_contact}
use Rattle.i_shape_contacts.proofs.listing.contacts_between.Goals as goal

pub loop-second-init : goal.loop-second-init
loop-second-init g c = record { most = c.requires.some; lists = λ old h. h }

pub loop-second-preserved-then-not-are_in_contact : goal.loop-second-preserved-then-not-are_in_contact
loop-second-preserved-then-not-are_in_contact g c = record {
  most = (let test = c.loop-second-test.true in omega (arith, test));
  lists = λ old h.
      let listed = c.loop-second.invariant.lists old h in
      record {
        contacts = listed.contacts;
        are = no_contact _ c.args.first c.loop-second.second listed.contacts (λ w. let t : IsTrue c.are_in_contact.result = c.are_in_contact.ensures.1 w in let f = c.if-not-are_in_contact.true in absurd (cc)) listed.are;
        are_written = listed.are_written;
      };
}

pub loop-second-preserved : goal.loop-second-preserved
loop-second-preserved g c = record {
  most = (let test = c.loop-second-test.true in omega (arith, test));
  lists = λ old h.
      let listed = c.loop-second.invariant.lists old h in
      record {
        contacts = _;
        are = one_contact _ c.args.first c.loop-second.second listed.contacts (c.are_in_contact.ensures.0 c.if-not-are_in_contact.false) listed.are;
        are_written = c.list-count.ensures listed.contacts old listed.are_written;
      };
}

pub returns : goal.returns
returns g c = λ old h.
    let contact = IsContactBy (g.C.Course.follows c.args.course) (contour_of g.P.Coordinate.IntNumber.value (g.P.ContourPoint.points c.args.points.now)) in
    let past = c.loop-second-test.false in
    let most = c.loop-second.invariant.most in
    let end : c.loop-second.second ≡ c.args.to = omega (arith, past, most) in
    let listed = c.loop-second.invariant.lists old h in
    record {
      contacts = listed.contacts;
      are = subst (λ (n : ℕ). AreContacts (Earlier contact c.args.first n) listed.contacts) end listed.are;
      are_written = listed.are_written;
    }
