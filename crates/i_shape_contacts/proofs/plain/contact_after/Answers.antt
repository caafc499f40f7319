use Rattle.std.proofs.Common.{IsTrue, arith, below_more, inl, inr}
use Rattle.std.proofs.lemmas.Bool.{cases_lt}
use Rattle.i_shape_core.specs.IntPoint.{contour_of}
use Rattle.i_shape_core.proofs.Plane.PointLists.{read-length}
use Rattle.i_shape_contacts.proofs.plain.contact_after.Goals as goal

pub loop-second-init : goal.loop-second-init
loop-second-init g c = λ k h w. let order = w.order in absurd (omega arith)

pub loop-second-preserved : goal.loop-second-preserved
loop-second-preserved g c = below_more _ _ c.loop-second.invariant (λ w. let t : IsTrue c.are_in_contact.result = c.are_in_contact.ensures.1 w in let f = c.if-are_in_contact.false in absurd (cc))

pub returns-then-are_in_contact : goal.returns-then-are_in_contact
returns-then-are_in_contact g c = record {
  contact = c.are_in_contact.ensures.0 c.if-are_in_contact.true;
  least = λ k w. elim (cases_lt k c.loop-second.second) [ inl h ↦ absurd (c.loop-second.invariant k h w) | inr h ↦ h ];
}

pub returns : goal.returns
returns g c = λ k w.
    let value = g.P.Coordinate.IntNumber.value in
    let list = contour_of value (g.P.ContourPoint.points c.args.points.now) in
    let count = read-length value g.P.ContourPoint.point g.P.ContourPoint.points g.P.ContourPoint.each c.args.points.now in
    let within = w.within in
    let past = c.loop-second-test.false in
    c.loop-second.invariant k (omega (arith, count)) w
