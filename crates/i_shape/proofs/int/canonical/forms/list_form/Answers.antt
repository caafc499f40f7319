use Rattle.std.specs.Cmp.Lexicographic.{slice_cmp}
use Rattle.std.proofs.lemmas.Cmp.{on_total, lists_total}
use Rattle.std.proofs.Common.{take_all}
use Rattle.std.proofs.lemmas.List.Sorted.{IsPermutation-map}
use Rattle.i_shape.proofs.Common.{point_of, contour_of, shape_of, shapes_of, IsSafeShape, ShapeForm, IsShapeAtMost}
use Rattle.i_shape.proofs.Lists.Surviving.{mapped-read, survivors-more}
use Rattle.i_shape_core.proofs.Forms.ContourOrder.{point_cmp, points_told, points_total, contours_told}
use Rattle.i_shape.proofs.Shapes.SortedOrders.{shape_told, sorted_pairs}
use Rattle.i_shape.proofs.Shapes.Forms.{forms_safe}
use Rattle.i_shape.proofs.int.canonical.forms.list_form.Goals as goal

pub push_shape_form-requires : goal.push_shape_form-requires
push_shape_form-requires g c =
    let value = g.I.IntNumber.value in
    rw c.as_slice.ensures.value (mapped-read (λ s. shape_of value s.items) (IsSafeShape g.I.IntNumber.width) c.args.shapes.now c.loop-shape.shape-index c.shape-item.result c.loop-shape-test.true c.shape-item.is c.requires)

pub loop-shape-preserved : goal.loop-shape-preserved
loop-shape-preserved g c =
    let value = g.I.IntNumber.value in
    let step = c.in_ok-push_shape_form.ensures.ok in
    rw step.2 (survivors-more (λ s. shape_of value s.items) (ShapeForm g.C.ContourCleaner.meaning.answers) c.args.shapes.now c.loop-shape.shape-index c.shape-item.result (shapes_of value c.loop-shape.forms.items) step.0 c.loop-shape-test.true c.shape-item.is c.loop-shape.invariant (rw c.as_slice.ensures.value at step.1))

sorted_answer : goal.returns-clause-answer
sorted_answer g c =
    let value = g.I.IntNumber.value in
    let order = g.met.I.IntNumber.order in
    let cmp = point_cmp value g.I.Ord.cmp order in
    let told = contours_told cmp (point_of value) (points_told value g.I.Ord.cmp order) in
    let total = on_total (λ v. v.items) (lists_total (points_total value g.I.Ord.cmp order g.met.I.Ord.total)) in
    let whole = take_all c.loop-shape.shape-index c.args.shapes.now c.loop-shape-test.false in (
      shapes_of value c.loop-shape.forms.items,
      rw whole at c.loop-shape.invariant,
      IsPermutation-map (λ s. shape_of value s.items) _ _ c.sort_unstable.ensures.permutation,
      sorted_pairs _ (λ s. shape_of value s.items) IsShapeAtMost (on_total (λ s. s.items) (lists_total total))
          (λ x y h. shape_told (λ v w. slice_cmp cmp v.items w.items) (λ v. contour_of value v.items) (λ v w. told v.items w.items) x.items y.items h) _ c.sort_unstable.ensures.sorted,
    )

pub returns-clause-answer : goal.returns-clause-answer
returns-clause-answer = sorted_answer

pub returns-clause-safe : goal.returns-clause-safe
returns-clause-safe g c =
    let value = g.I.IntNumber.value in
    forms_safe g.C.ContourCleaner.meaning.answers g.I.IntNumber.width (g.met.C.CleanerLaws.stays_safe g.I.IntNumber.width) (shapes_of value c.args.shapes.now) (shapes_of value c.sort_unstable.new.self.items) (sorted_answer g c) c.requires
