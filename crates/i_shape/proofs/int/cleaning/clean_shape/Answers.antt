use Rattle.std.proofs.Common.{rules, arith, Some, All}
use Rattle.std.proofs.lemmas.Grind.{common_steps}
use Rattle.std.proofs.lemmas.List.Elements.{All-head, All-tail}
use Rattle.i_shape.proofs.Common.{contour_of, IsSafe, shape_of, ShapeClean}
use Rattle.i_shape.proofs.Shapes.Kept.{shape_keeps, shape_safe}
use Rattle.i_shape.proofs.int.cleaning.clean_shape.Goals as goal

pub cleaned-requires : goal.cleaned-requires
cleaned-requires g c =
    let value = g.I.IntNumber.value in
    rw c.as_slice.ensures.value
    (All-head (All (IsSafe g.I.IntNumber.width)) (contour_of value c.in-Some.outer.now.items) (shape_of value c.in-Some.holes.now) (rw c.in-Some.ensures.cases.0 at c.requires))

pub append_holes-requires : goal.append_holes-requires
append_holes-requires g c =
    let value = g.I.IntNumber.value in
    All-tail (All (IsSafe g.I.IntNumber.width)) (contour_of value c.in-Some.outer.now.items) (shape_of value c.in-Some.holes.now) (rw c.in-Some.ensures.cases.0 at c.requires)

pub returns-in_default-clause-answer : goal.returns-in_default-clause-answer
returns-in_default-clause-answer g c =
    let value = g.I.IntNumber.value in
    let answer : ShapeClean g.C.ContourCleaner.meaning.answers (shape_of value c.args.shape.now) (Some (shape_of value c.new.result.items)) = grind (arith, common_steps) in
    record {
      answer = answer;
      kept = shape_keeps g.C.ContourCleaner.meaning.answers g.met.C.InPlaceCleaner.kept _ _ answer;
      safe = shape_safe g.C.ContourCleaner.meaning.answers g.I.IntNumber.width (g.met.C.CleanerLaws.stays_safe g.I.IntNumber.width) _ _ answer c.requires;
    }

pub returns-in_default-2-clause-answer : goal.returns-in_default-2-clause-answer
returns-in_default-2-clause-answer g c = record { answer = search rules; kept = tt; safe = tt }

pub returns-clause-answer : goal.returns-clause-answer
returns-clause-answer g c =
    let value = g.I.IntNumber.value in
    let answer : ShapeClean g.C.ContourCleaner.meaning.answers (shape_of value c.args.shape.now) (Some (shape_of value c.append_holes.new.kept.items)) = search rules in
    record {
      answer = answer;
      kept = shape_keeps g.C.ContourCleaner.meaning.answers g.met.C.InPlaceCleaner.kept _ _ answer;
      safe = shape_safe g.C.ContourCleaner.meaning.answers g.I.IntNumber.width (g.met.C.CleanerLaws.stays_safe g.I.IntNumber.width) _ _ answer c.requires;
    }
