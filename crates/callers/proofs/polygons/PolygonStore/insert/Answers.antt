use Rattle.std.proofs.Common.{◌≡◌, ◌↔◌, ◌⊎◌, ℤ, List, Some, Contains, sym, ap, ◌∙◌, subst}
use Rattle.i_shape.specs.Point.{Point}
use Rattle.i_shape.specs.Canonical.{CanonicalAnswer}
use Rattle.i_shape.specs.ShapeLists.{shape_of, shapes_of}
use Rattle.i_shape.specs.CanonicalShapes.{ShapeForm}
use Rattle.i_shape.proofs.Shapes.Forms.{canonical_has_shape}
use Rattle.callers.specs.Polygons.{AreOwnForms}
use Rattle.callers.proofs.StoredPolygons.{polygon_cmp, polygons_exact, key_listed, key_inserted, own_forms_more, was_there, was_missing, polygon_found, finds_polygon}
use Rattle.callers.proofs.polygons.PolygonStore.insert.Goals as goal

pub invariant_of-self-2 : goal.invariant_of-self-2
invariant_of-self-2 g c =
    let value : g.row.I.Denot → ℤ = g.I.IntNumber.value in
    let polygon = shape_of value c.args.polygon.now in
    let form = shape_of value c.in-Some.form.items in
    let answer : ShapeForm CanonicalAnswer polygon (Some form) = (rw c.in-Some.is at c.in_ok-form.ensures.answer).answer in
    let cmp = polygon_cmp value g.I.Ord.cmp g.met.I.IntNumber.order in
    subst AreOwnForms (sym (ap (shapes_of value) c.in-Ok.ensures.keys))
    (own_forms_more cmp (λ s. shape_of value s.items) (polygons_exact value g.I.Ord.cmp g.met.I.IntNumber.order) c.self.inside.forms.keys c.in-Some.form polygon answer c.self.invariant)

pub returns-then-not-added-clause-ok : goal.returns-then-not-added-clause-ok
returns-then-not-added-clause-ok g c =
    let value : g.row.I.Denot → ℤ = g.I.IntNumber.value in
    let polygon = shape_of value c.args.polygon.now in
    let form = shape_of value c.in-Some.form.items in
    let answer : ShapeForm CanonicalAnswer polygon (Some form) = (rw c.in-Some.is at c.in_ok-form.ensures.answer).answer in
    let forms : AreOwnForms c.args.self.now = rw c.self.view_is at c.self.invariant in
    let cmp = polygon_cmp value g.I.Ord.cmp g.met.I.IntNumber.order in
    let told = rw c.self.view_is at (key_listed cmp (λ s. shape_of value s.items) (polygons_exact value g.I.Ord.cmp g.met.I.IntNumber.order) c.in-Some.form c.self.inside.forms.keys) in
    let same = rw c.if-not-added.true at c.in-Ok.ensures.unchanged in
    ((polygon_found c.args.self.now forms polygon form answer).0 (told.0 (was_there _ _ c.in-Ok.ensures.added c.if-not-added.true)), ap (shapes_of value) same ∙ c.self.view_is)

pub returns-clause-ok : goal.returns-clause-ok
returns-clause-ok g c =
    let value : g.row.I.Denot → ℤ = g.I.IntNumber.value in
    let polygon = shape_of value c.args.polygon.now in
    let form = shape_of value c.in-Some.form.items in
    let answer : ShapeForm CanonicalAnswer polygon (Some form) = (rw c.in-Some.is at c.in_ok-form.ensures.answer).answer in
    let forms : AreOwnForms c.args.self.now = rw c.self.view_is at c.self.invariant in
    let cmp = polygon_cmp value g.I.Ord.cmp g.met.I.IntNumber.order in
    let exact = polygons_exact value g.I.Ord.cmp g.met.I.IntNumber.order in
    let told = rw c.self.view_is at (key_listed cmp (λ s. shape_of value s.items) exact c.in-Some.form c.self.inside.forms.keys) in
    let there : (m : List (List Point)) → Contains (shapes_of value c.insert.new.self.keys) m ↔ (Contains c.args.self.now m ⊎ (form ≡ m)) =
    λ m. rw (c.in-Ok.ensures.keys, sym c.self.view_is) (key_inserted cmp (λ s. shape_of value s.items) exact c.self.inside.forms.keys c.in-Some.form m) in (
      (canonical_has_shape polygon).some.0 (form, answer),
      λ found. was_missing _ _ c.in-Ok.ensures.added c.if-not-added.false (told.1 ((polygon_found c.args.self.now forms polygon form answer).1 found)),
      finds_polygon c.args.self.now (shapes_of value c.insert.new.self.keys) polygon form answer there,
    )
