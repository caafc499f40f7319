use Rattle.std.proofs.Common.{refl, sym, ◌∙◌, take_all}
use Rattle.std.proofs.lemmas.Bool.{false≢true}
use Rattle.i_shape.proofs.Common.{shape_of, IsSafeShape, EachContour}
use Rattle.i_shape.proofs.Lists.Surviving.{mapped-read, mapped-more}
use Rattle.i_shape.proofs.int.cleaning.is_clean_list.Goals as goal

pub is_clean_shape-requires : goal.is_clean_shape-requires
is_clean_shape-requires g c =
    let value = g.I.IntNumber.value in
    rw c.as_slice.ensures.value (mapped-read (λ s. shape_of value s.items) (IsSafeShape g.I.IntNumber.width) c.args.shapes.now c.loop-shape.shape-index c.shape-item.result c.loop-shape-test.true c.shape-item.is c.requires)

pub returns-then-not-is_clean_shape : goal.returns-then-not-is_clean_shape
returns-then-not-is_clean_shape g c =
    let value = g.I.IntNumber.value in
    let clean = g.C.ContourCleaner.meaning.clean in (
      λ f. absurd (cc),
      λ all. absurd (false≢true (sym c.if-not-is_clean_shape.true ∙ c.is_clean_shape.ensures.1 (rw c.as_slice.ensures.value (mapped-read (λ s. shape_of value s.items) (EachContour clean) c.args.shapes.now c.loop-shape.shape-index c.shape-item.result c.loop-shape-test.true c.shape-item.is all)))),
    )

pub loop-shape-preserved : goal.loop-shape-preserved
loop-shape-preserved g c =
    let value = g.I.IntNumber.value in
    let clean = g.C.ContourCleaner.meaning.clean in
    mapped-more (λ s. shape_of value s.items) (EachContour clean) c.args.shapes.now c.loop-shape.shape-index c.shape-item.result c.loop-shape-test.true c.shape-item.is c.loop-shape.invariant (rw c.as_slice.ensures.value at (c.is_clean_shape.ensures.0 c.if-not-is_clean_shape.false))

pub returns : goal.returns
returns g c =
    let whole = take_all c.loop-shape.shape-index c.args.shapes.now c.loop-shape-test.false in
    (λ t. rw whole at c.loop-shape.invariant, λ all. refl)
