use Rattle.std.proofs.Common.{◌≡◌, ◌↔◌, OnErr, Ok, Err}
use Rattle.std.proofs.lemmas.Result.{IfOk-weaker}
use Rattle.i_shape_core.specs.IntPoint.{contour_of}
use Rattle.i_shape_contacts.specs.Contacts.{IsRingContact, NoContact}
use Rattle.i_shape_contacts.specs.Validity.{NoDegenerateRing}
use Rattle.i_shape_contacts.proofs.Faults.{divides_read}
use Rattle.i_shape_touching.specs.declared.validity.TouchingValidity.TheVariants.{Valid, TooFewPoints, HoleOutside, HoleWithin}
use Rattle.i_shape_touching.specs.Touching.{IsTouchingPolygon, IsFirstTouchingFault}
use Rattle.i_shape_touching.proofs.Faults.{valid_by_fault, touching_if_valid, outside_fault, within_fault}
use Rattle.i_shape_touching.proofs.validity.touching_validity_of.Goals as goal

pub returns-in-Valid-clause-fault : goal.returns-in-Valid-clause-fault
returns-in-Valid-clause-fault g c =
    let value = g.P.Coordinate.IntNumber.value in
    let points = g.P.ContourPoint.points in
    let offsets = c.args.offsets.now in
    let list = contour_of value (points c.args.points.now) in
    let divides = divides_read value g.P.ContourPoint.point points g.P.ContourPoint.each c.args.points.now offsets c.requires.divides in
    let f = c.in-Valid.ensures.fault in
    touching_if_valid offsets list divides f.no_contact f.no_degenerate f.no_outside f.no_within

pub returns-in-Valid-clause-valid : goal.returns-in-Valid-clause-valid
returns-in-Valid-clause-valid g c =
    let value = g.P.Coordinate.IntNumber.value in
    let points = g.P.ContourPoint.points in
    let offsets = c.args.offsets.now in
    let list = contour_of value (points c.args.points.now) in
    let divides = divides_read value g.P.ContourPoint.point points g.P.ContourPoint.each c.args.points.now offsets c.requires.divides in
    valid_by_fault offsets list divides Valid (returns-in-Valid-clause-fault g c)

pub returns-in-TooFewPoints-clause-valid : goal.returns-in-TooFewPoints-clause-valid
returns-in-TooFewPoints-clause-valid g c =
    let value = g.P.Coordinate.IntNumber.value in
    let points = g.P.ContourPoint.points in
    let offsets = c.args.offsets.now in
    let list = contour_of value (points c.args.points.now) in
    let divides = divides_read value g.P.ContourPoint.point points g.P.ContourPoint.each c.args.points.now offsets c.requires.divides in
    valid_by_fault offsets list divides (TooFewPoints c.in-TooFewPoints.contour) c.in-TooFewPoints.ensures.fault

pub returns-in-HoleOutside-clause-fault : goal.returns-in-HoleOutside-clause-fault
returns-in-HoleOutside-clause-fault g c =
    let value = g.P.Coordinate.IntNumber.value in
    let points = g.P.ContourPoint.points in
    let offsets = c.args.offsets.now in
    let list = contour_of value (points c.args.points.now) in
    let divides = divides_read value g.P.ContourPoint.point points g.P.ContourPoint.each c.args.points.now offsets c.requires.divides in
    let f = c.in-HoleOutside.ensures.fault in
    outside_fault offsets list divides f.no_contact f.no_degenerate c.in-HoleOutside.contour f.first

pub returns-in-HoleOutside-clause-valid : goal.returns-in-HoleOutside-clause-valid
returns-in-HoleOutside-clause-valid g c =
    let value = g.P.Coordinate.IntNumber.value in
    let points = g.P.ContourPoint.points in
    let offsets = c.args.offsets.now in
    let list = contour_of value (points c.args.points.now) in
    let divides = divides_read value g.P.ContourPoint.point points g.P.ContourPoint.each c.args.points.now offsets c.requires.divides in
    valid_by_fault offsets list divides (HoleOutside c.in-HoleOutside.contour) (returns-in-HoleOutside-clause-fault g c)

pub returns-in-HoleWithin-clause-fault : goal.returns-in-HoleWithin-clause-fault
returns-in-HoleWithin-clause-fault g c =
    let value = g.P.Coordinate.IntNumber.value in
    let points = g.P.ContourPoint.points in
    let offsets = c.args.offsets.now in
    let list = contour_of value (points c.args.points.now) in
    let divides = divides_read value g.P.ContourPoint.point points g.P.ContourPoint.each c.args.points.now offsets c.requires.divides in
    let f = c.in-HoleWithin.ensures.fault in
    within_fault offsets list divides f.no_contact f.no_degenerate f.no_outside c.in-HoleWithin.contour c.in-HoleWithin.other f.first

pub returns-in-HoleWithin-clause-valid : goal.returns-in-HoleWithin-clause-valid
returns-in-HoleWithin-clause-valid g c =
    let value = g.P.Coordinate.IntNumber.value in
    let points = g.P.ContourPoint.points in
    let offsets = c.args.offsets.now in
    let list = contour_of value (points c.args.points.now) in
    let divides = divides_read value g.P.ContourPoint.point points g.P.ContourPoint.each c.args.points.now offsets c.requires.divides in
    valid_by_fault offsets list divides (HoleWithin c.in-HoleWithin.contour c.in-HoleWithin.other) (returns-in-HoleWithin-clause-fault g c)

pub returns-in-Contact-clause-valid : goal.returns-in-Contact-clause-valid
returns-in-Contact-clause-valid g c =
    let value = g.P.Coordinate.IntNumber.value in
    let points = g.P.ContourPoint.points in
    let offsets = c.args.offsets.now in
    let list = contour_of value (points c.args.points.now) in
    let divides = divides_read value g.P.ContourPoint.point points g.P.ContourPoint.each c.args.points.now offsets c.requires.divides in
    IfOk-weaker c.with_contacts.result (IsFirstTouchingFault offsets list) (λ v. (v ≡ Valid) ↔ IsTouchingPolygon offsets list) (valid_by_fault offsets list divides) c.with_contacts.ensures

pub returns-in-Contact-clause-memory : goal.returns-in-Contact-clause-memory
returns-in-Contact-clause-memory g c =
    let first = c.in-Contact.ensures.fault.first.first.contact in
    elim c.with_contacts.result as (λ r. OnErr r (NoContact (IsRingContact c.args.offsets.now (contour_of g.P.Coordinate.IntNumber.value (g.P.ContourPoint.points c.args.points.now))) → ⊥)) [
      | Ok v ↦ tt
      | Err e ↦ (λ none. none.none _ _ first)
    ]

pub returns-in-Contact-clause-whole : goal.returns-in-Contact-clause-whole
returns-in-Contact-clause-whole g c =
    elim c.with_contacts.result as (λ r. OnErr r (NoDegenerateRing c.args.offsets.now (contour_of g.P.Coordinate.IntNumber.value (g.P.ContourPoint.points c.args.points.now)))) [
      | Ok v ↦ tt
      | Err e ↦ c.in-Contact.ensures.fault.no_degenerate
    ]
