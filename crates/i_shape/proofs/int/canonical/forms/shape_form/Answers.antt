use Rattle.std.proofs.Common.{Some, rules, All}
use Rattle.std.proofs.lemmas.List.Elements.{All-head, All-tail}
use Rattle.i_shape.proofs.Common.{contour_of, IsSafe, shape_of, ShapeForm}
use Rattle.i_shape.proofs.Shapes.Forms.{form_safe}
use Rattle.i_shape.proofs.int.canonical.forms.shape_form.Goals as goal

pub cleaned-requires : goal.cleaned-requires
cleaned-requires g c =
    let value = g.I.IntNumber.value in
    rw c.as_slice.ensures.value
    (All-head (All (IsSafe g.I.IntNumber.width)) (contour_of value c.in-Some.outer.now.items) (shape_of value c.in-Some.holes.now) (rw c.in-Some.ensures.cases.0 at c.requires))

pub sorted_forms-requires : goal.sorted_forms-requires
sorted_forms-requires g c =
    let value = g.I.IntNumber.value in
    All-tail (All (IsSafe g.I.IntNumber.width)) (contour_of value c.in-Some.outer.now.items) (shape_of value c.in-Some.holes.now) (rw c.in-Some.ensures.cases.0 at c.requires)

pub returns-clause-safe : goal.returns-clause-safe
returns-clause-safe g c =
    let value = g.I.IntNumber.value in
    let answer : ShapeForm g.C.ContourCleaner.meaning.answers (shape_of value c.args.shape.now) (Some (shape_of value c.insert.new.self.items)) = search rules in
    form_safe g.C.ContourCleaner.meaning.answers g.I.IntNumber.width (g.met.C.CleanerLaws.stays_safe g.I.IntNumber.width) _ _ answer c.requires
