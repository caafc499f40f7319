use Rattle.std.proofs.Common.{◌↔◌, ℤ, [], ◌∷◌, ◌++◌, IsTrue, Contains, refl, sym, ap, ◌∙◌, subst}
use Rattle.i_shape.specs.IntPoint.{contour_of}
use Rattle.i_shape.specs.ShapeLists.{shape_of}
use Rattle.i_shape.specs.Canonical.{IsCanonical}
use Rattle.callers.specs.Store.{AreForms, AlsoFinds}
use Rattle.callers.proofs.StoredForms.{found_by_form, forms_more, finds_more, finds_same, shape_more}
use Rattle.callers.proofs.store.CanonicalStore.insert.Goals as goal

pub returns-then-has_form-clause-ok : goal.returns-then-has_form-clause-ok
returns-then-has_form-clause-ok g c =
    let value : g.row.I.Denot → ℤ = g.I.IntNumber.value in
    let contour = contour_of value c.args.contour.now in
    let form = contour_of value c.in-Some.form.items in
    let canonical : IsCanonical contour form = (rw c.in-Some.is at c.in_ok-form.ensures.answer).answer in
    let forms : AreForms c.args.self.now = rw c.self.view_is at c.self.invariant in
    let told : IsTrue c.has_form.result ↔ Contains c.args.self.now form =
    rw (c.as_slice.ensures.value, c.as_slice-2.ensures.value, c.self.view_is) at c.has_form.ensures in
    ((found_by_form c.args.self.now forms contour form canonical).0 (told.0 c.if-has_form.true), refl)

pub returns-then-has_form-clause-finds : goal.returns-then-has_form-clause-finds
returns-then-has_form-clause-finds g c =
    let contour = contour_of g.I.IntNumber.value c.args.contour.now in
    λ _. finds_same c.args.self.now contour (returns-then-has_form-clause-ok g c).0

pub invariant_of-self : goal.invariant_of-self
invariant_of-self g c = rw c.in_err-push.ensures.items c.self.invariant

pub invariant_of-self-2 : goal.invariant_of-self-2
invariant_of-self-2 g c =
    let value : g.row.I.Denot → ℤ = g.I.IntNumber.value in
    let contour = contour_of value c.args.contour.now in
    let form = contour_of value c.in-Some.form.items in
    let canonical : IsCanonical contour form = (rw c.in-Some.is at c.in_ok-form.ensures.answer).answer in
    let grown = shape_more value c.self.inside.forms.items c.push.new.self.items c.in-Some.form c.in_ok-push.ensures.items in
    subst AreForms (sym grown) (forms_more (shape_of value c.self.inside.forms.items) c.self.invariant contour form canonical)

pub returns-clause-ok : goal.returns-clause-ok
returns-clause-ok g c =
    let value : g.row.I.Denot → ℤ = g.I.IntNumber.value in
    let contour = contour_of value c.args.contour.now in
    let form = contour_of value c.in-Some.form.items in
    let canonical : IsCanonical contour form = (rw c.in-Some.is at c.in_ok-form.ensures.answer).answer in
    let forms : AreForms c.args.self.now = rw c.self.view_is at c.self.invariant in
    let told : IsTrue c.has_form.result ↔ Contains c.args.self.now form =
    rw (c.as_slice.ensures.value, c.as_slice-2.ensures.value, c.self.view_is) at c.has_form.ensures in
    let has = found_by_form c.args.self.now forms contour form canonical in
    let grown = shape_more value c.self.inside.forms.items c.push.new.self.items c.in-Some.form c.in_ok-push.ensures.items in
    record {
      missing = λ found. let there : IsTrue c.has_form.result = told.1 (has.1 found) in absurd (cc);
      form = form;
      canonical = canonical;
      appended = grown ∙ ap (λ l. l ++ form ∷ []) c.self.view_is;
    }

pub returns-clause-finds : goal.returns-clause-finds
returns-clause-finds g c =
    let contour = contour_of g.I.IntNumber.value c.args.contour.now in
    let added = returns-clause-ok g c in
    λ _. subst (AlsoFinds c.args.self.now contour) (sym added.appended) (finds_more c.args.self.now contour added.form added.canonical)
