use Rattle.std.proofs.Common.{ℤ}
use Rattle.i_shape.specs.IntPoint.{contour_of}
use Rattle.i_shape.specs.Cleaners.{EachEndCollapses}
use Rattle.i_shape.specs.Canonical.{IsCanonical}
use Rattle.callers.specs.Store.{AreForms}
use Rattle.callers.proofs.StoredForms.{found_by_form, none_found}
use Rattle.callers.proofs.store.CanonicalStore.contains.Goals as goal

pub returns-in-Some-clause-found : goal.returns-in-Some-clause-found
returns-in-Some-clause-found g c =
    let value : g.row.I.Denot → ℤ = g.I.IntNumber.value in
    let contour = contour_of value c.args.contour.now in
    let form = contour_of value c.in-Some.form.items in
    let canonical : IsCanonical contour form = (rw c.in-Some.is at c.in_ok-form.ensures.answer).answer in
    let forms : AreForms c.args.self.now = rw c.self.view_is at c.self.invariant in
    let told = rw (c.as_slice.ensures.value, c.as_slice-in-Some.ensures.value, c.self.view_is) at c.has_form.ensures in
    let found = found_by_form c.args.self.now forms contour form canonical in
    (λ t. found.0 (told.0 t), λ h. told.1 (found.1 h))

pub returns-in-None-clause-found : goal.returns-in-None-clause-found
returns-in-None-clause-found g c =
    let value : g.row.I.Denot → ℤ = g.I.IntNumber.value in
    let contour = contour_of value c.args.contour.now in
    let collapses : EachEndCollapses contour = (rw c.in-None.is at c.in_ok-form.ensures.answer).answer in
    let forms : AreForms c.args.self.now = rw c.self.view_is at c.self.invariant in
    (λ t. absurd (cc), λ h. absurd (none_found c.args.self.now forms contour collapses h))
