use Rattle.i_shape_core.specs.IntPoint.{contour_of}
use Rattle.i_shape_contacts.specs.declared.validity.Validity.TheVariants.{Valid, TooFewPoints, Contact, HoleWithin}
use Rattle.i_shape_contacts.proofs.Faults.{valid_by_fault}
use Rattle.i_shape_contacts.proofs.validity.validity_of.Goals as goal

pub returns-in-Some-clause-valid : goal.returns-in-Some-clause-valid
returns-in-Some-clause-valid g c =
    let list = contour_of g.P.Coordinate.IntNumber.value (g.P.ContourPoint.points c.args.points.now) in
    valid_by_fault c.args.offsets.now list (TooFewPoints c.in-Some.contour) c.in-Some.ensures

pub returns-in-Some-first_contact_of_rings-clause-valid : goal.returns-in-Some-first_contact_of_rings-clause-valid
returns-in-Some-first_contact_of_rings-clause-valid g c =
    let list = contour_of g.P.Coordinate.IntNumber.value (g.P.ContourPoint.points c.args.points.now) in
    valid_by_fault c.args.offsets.now list (Contact c.in-Some-first_contact_of_rings.contact) (record {
      no_degenerate = c.in_default.ensures;
      first = c.in-Some-first_contact_of_rings.ensures;
    })

pub returns-in-Some-first_within-clause-fault : goal.returns-in-Some-first_within-clause-fault
returns-in-Some-first_within-clause-fault g c = record {
  no_degenerate = c.in_default.ensures;
  no_contact = c.in_default-first_contact_of_rings.ensures;
  no_outside = c.in_default-first_outside.ensures;
  first = c.in-Some-first_within.ensures;
}

pub returns-in-Some-first_within-clause-valid : goal.returns-in-Some-first_within-clause-valid
returns-in-Some-first_within-clause-valid g c =
    let list = contour_of g.P.Coordinate.IntNumber.value (g.P.ContourPoint.points c.args.points.now) in
    valid_by_fault c.args.offsets.now list (HoleWithin c.in-Some-first_within.nesting.hole c.in-Some-first_within.nesting.other) (returns-in-Some-first_within-clause-fault g c)

pub returns-in-None-clause-valid : goal.returns-in-None-clause-valid
returns-in-None-clause-valid g c =
    let list = contour_of g.P.Coordinate.IntNumber.value (g.P.ContourPoint.points c.args.points.now) in
    valid_by_fault c.args.offsets.now list Valid (record {
      no_degenerate = c.in_default.ensures;
      no_contact = c.in_default-first_contact_of_rings.ensures;
      no_outside = c.in_default-first_outside.ensures;
      no_within = c.in-None.ensures;
    })
