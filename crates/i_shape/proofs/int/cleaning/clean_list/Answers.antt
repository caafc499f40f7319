use Rattle.std.proofs.Common.{take_all}
use Rattle.i_shape.proofs.Common.{shape_of, shapes_of, IsSafeShape, ShapeClean}
use Rattle.i_shape.proofs.Lists.Surviving.{mapped-read, survivors-more}
use Rattle.i_shape.proofs.Shapes.Kept.{list_keeps, list_safe}
use Rattle.i_shape.proofs.int.cleaning.clean_list.Goals as goal

pub push_cleaned_shape-requires : goal.push_cleaned_shape-requires
push_cleaned_shape-requires g c =
    let value = g.I.IntNumber.value in
    rw c.as_slice.ensures.value (mapped-read (λ s. shape_of value s.items) (IsSafeShape g.I.IntNumber.width) c.args.shapes.now c.loop-shape.shape-index c.shape-item.result c.loop-shape-test.true c.shape-item.is c.requires)

pub loop-shape-preserved : goal.loop-shape-preserved
loop-shape-preserved g c =
    let value = g.I.IntNumber.value in
    let answers = g.C.ContourCleaner.meaning.answers in
    let step = c.in_ok-push_cleaned_shape.ensures.ok in
    rw step.2 (survivors-more (λ s. shape_of value s.items) (ShapeClean answers) c.args.shapes.now c.loop-shape.shape-index c.shape-item.result (shapes_of value c.loop-shape.kept.items) step.0 c.loop-shape-test.true c.shape-item.is c.loop-shape.invariant (rw c.as_slice.ensures.value at step.1))

pub returns-clause-answer : goal.returns-clause-answer
returns-clause-answer g c =
    let answers = g.C.ContourCleaner.meaning.answers in
    let whole = take_all c.loop-shape.shape-index c.args.shapes.now c.loop-shape-test.false in
    let answer = rw whole at c.loop-shape.invariant in
    record {
      answer = answer;
      kept = list_keeps answers g.met.C.InPlaceCleaner.kept _ _ answer;
      safe = list_safe answers g.I.IntNumber.width (g.met.C.CleanerLaws.stays_safe g.I.IntNumber.width) _ _ answer c.requires;
    }
