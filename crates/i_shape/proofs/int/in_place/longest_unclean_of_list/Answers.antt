use Rattle.std.proofs.Common.{◌≡◌, Some, None, max, unwrap_or, ap, ◌∙◌, take_all}
use Rattle.i_shape.proofs.Common.{shape_of, IsSafeShape}
use Rattle.i_shape.proofs.Lists.EndToEnd.{concatenated_step}
use Rattle.i_shape.proofs.Lists.Surviving.{mapped-read}
use Rattle.i_shape.proofs.InPlace.Longest.{none_longest, longest_append}
use Rattle.i_shape.proofs.int.in_place.longest_unclean_of_list.Goals as goal

pub loop-shape-init : goal.loop-shape-init
loop-shape-init g c = none_longest g.C.ContourCleaner.meaning.clean

pub longest_unclean-requires : goal.longest_unclean-requires
longest_unclean-requires g c =
    let value = g.I.IntNumber.value in
    rw c.as_slice.ensures.value (mapped-read (λ s. shape_of value s.items) (IsSafeShape g.I.IntNumber.width) c.args.shapes.now c.loop-shape.shape-index c.shape-item.result c.loop-shape-test.true c.shape-item.is c.requires)

pub loop-shape-preserved-in_default : goal.loop-shape-preserved-in_default
loop-shape-preserved-in_default g c =
    rw (concatenated_step (λ s. shape_of g.I.IntNumber.value s.items) c.args.shapes.now c.loop-shape.shape-index c.shape-item.result c.loop-shape-test.true c.shape-item.is)
    (longest_append g.C.ContourCleaner.meaning.clean _ _ c.loop-shape.longest None c.loop-shape.invariant (rw c.as_slice.ensures.value at c.in_default.ensures))

pub loop-shape-preserved : goal.loop-shape-preserved
loop-shape-preserved g c =
    let count : c.max.result ≡ max c.in-Some.points (unwrap_or c.loop-shape.longest 0) = c.max.ensures ∙ ap (max c.in-Some.points) c.unwrap_or.ensures in
    rw (count, concatenated_step (λ s. shape_of g.I.IntNumber.value s.items) c.args.shapes.now c.loop-shape.shape-index c.shape-item.result c.loop-shape-test.true c.shape-item.is)
    (longest_append g.C.ContourCleaner.meaning.clean _ _ c.loop-shape.longest (Some c.in-Some.points) c.loop-shape.invariant (rw c.as_slice.ensures.value at c.in-Some.ensures))

pub returns : goal.returns
returns g c =
    let whole = take_all c.loop-shape.shape-index c.args.shapes.now c.loop-shape-test.false in
    rw whole at c.loop-shape.invariant
