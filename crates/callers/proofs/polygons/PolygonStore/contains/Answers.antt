use Rattle.std.proofs.Common.{ℤ, Some, None}
use Rattle.i_shape.specs.Canonical.{CanonicalAnswer}
use Rattle.i_shape.specs.ShapeLists.{shape_of}
use Rattle.i_shape.specs.CanonicalShapes.{ShapeForm}
use Rattle.i_shape.proofs.Shapes.Forms.{canonical_has_shape}
use Rattle.callers.specs.Polygons.{AreOwnForms}
use Rattle.callers.proofs.StoredPolygons.{polygon_cmp, polygons_exact, key_listed, polygon_found, no_polygon_found}
use Rattle.callers.proofs.polygons.PolygonStore.contains.Goals as goal

pub returns-in-Some-clause-found : goal.returns-in-Some-clause-found
returns-in-Some-clause-found g c =
    let value : g.row.I.Denot → ℤ = g.I.IntNumber.value in
    let polygon = shape_of value c.args.polygon.now in
    let form = shape_of value c.in-Some.form.items in
    let answer : ShapeForm CanonicalAnswer polygon (Some form) = (rw c.in-Some.is at c.in_ok-form.ensures.answer).answer in
    let forms : AreOwnForms c.args.self.now = rw c.self.view_is at c.self.invariant in
    let cmp = polygon_cmp value g.I.Ord.cmp g.met.I.IntNumber.order in
    let told = rw c.self.view_is at (key_listed cmp (λ s. shape_of value s.items) (polygons_exact value g.I.Ord.cmp g.met.I.IntNumber.order) c.in-Some.form c.self.inside.forms.keys) in
    let found = polygon_found c.args.self.now forms polygon form answer in
    rw c.contains.ensures (λ t. found.0 (told.0 t), λ h. told.1 (found.1 h))

pub returns-in-None-clause-found : goal.returns-in-None-clause-found
returns-in-None-clause-found g c =
    let value : g.row.I.Denot → ℤ = g.I.IntNumber.value in
    let polygon = shape_of value c.args.polygon.now in
    let answer : ShapeForm CanonicalAnswer polygon None = (rw c.in-None.is at c.in_ok-form.ensures.answer).answer in
    let collapses = (canonical_has_shape polygon).none.0 answer in
    let forms : AreOwnForms c.args.self.now = rw c.self.view_is at c.self.invariant in
    (λ t. absurd (cc), λ h. absurd (no_polygon_found c.args.self.now forms polygon collapses h))
