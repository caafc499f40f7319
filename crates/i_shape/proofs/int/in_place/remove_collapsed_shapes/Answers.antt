use Rattle.std.proofs.Common.{rules, arith, ◌≡◌, Bool, ◌∙◌, ap, map, filter}
use Rattle.std.proofs.lemmas.Slice.Zip.{AllZip-map}
use Rattle.std.proofs.lemmas.Fn.{filter_same}
use Rattle.i_shape.proofs.Common.{Vec, IntPoint, shape_of, shapes_of, has_points, keeps_outer}
use Rattle.i_shape.proofs.InPlace.Left.{filter_read, so_far_none, so_far_set, so_far_all}
use Rattle.i_shape.proofs.int.in_place.remove_collapsed_shapes.Goals as goal

pub loop-shape-init : goal.loop-shape-init
loop-shape-init g c = so_far_none _ (shapes_of g.I.IntNumber.value c.deref_mut-shape-items.result.now)

pub loop-shape-preserved : goal.loop-shape-preserved
loop-shape-preserved g c =
    so_far_set _ (λ s. shape_of g.I.IntNumber.value s.items) c.deref_mut-shape-items.result.now c.loop-shape.shape-items c.loop-shape.shape-index (omega (arith, c.loop-shape.auto.shape-items)) c.loop-shape.invariant c.shape-item.result
    (omega (arith, c.loop-shape-test.true, c.loop-shape.auto.shape-items)) c.remove_empty.new.shape c.remove_empty.ensures

pub returns : goal.returns
returns g c =
    let value = g.I.IntNumber.value in
    let old = c.deref_mut-shape-items.result.now in
    let test : Vec (Vec (IntPoint g.row.I.Denot)) → Bool = λ s. keeps_outer (shape_of value s.items) in
    let kept : c.retain.new.self.items ≡ filter test c.args.shapes.now.items = filter_same _ test _ (λ x b f' k. search rules) _ _ c.retain.ensures.filtered in
    AllZip-map (filter has_points) (shapes_of value old) _
    (so_far_all _ (λ s. shape_of value s.items) old c.loop-shape.shape-items c.loop-shape.shape-index (omega (arith, c.loop-shape.auto.shape-items)) c.loop-shape.invariant _ c.retain.new.self.len
    (omega (arith, c.loop-shape-test.false, c.loop-shape.auto.shape-items)) (omega (arith, c.retain.new.self.ok.0, c.deref_mut-shape-items.ensures.len, c.loop-shape.auto.shape-items)))
    ∙ ap (λ w. map (filter has_points) (shapes_of value w)) (c.deref_mut-shape-items.ensures.value ∙ kept) ∙ ap (map (filter has_points)) (filter_read (λ s. shape_of value s.items) keeps_outer c.args.shapes.now.items)
