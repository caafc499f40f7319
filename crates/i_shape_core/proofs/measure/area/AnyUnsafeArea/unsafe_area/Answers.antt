use Rattle.std.proofs.Common.{◌∷◌, subst, refl, rules}
use Rattle.std.specs.Iterator.{Yields}
use Rattle.i_shape_core.proofs.Sums.AreaWalk.{summed-more, summed-last, wrapped-zero}
use Rattle.i_shape_core.proofs.measure.area.AnyUnsafeArea.unsafe_area.Goals as goal

pub loop-point-init : goal.loop-point-init
loop-point-init g c = record { here = refl; sum = wrapped-zero g.I.Wide.WideIntNumber.width _ (search rules) }

pub loop-point-preserved : goal.loop-point-preserved
loop-point-preserved g c =
    summed-more g.I.IntNumber.value g.I.Wide.WideIntNumber.width c.in-Some.first c.loop-point.yielded c.loop-point.previous c.in-Some-point.point _ _ _
    c.loop-point.invariant c.cross_product.ensures c.wrapping_add-area.ensures

pub returns : goal.returns
returns g c =
    let from_second = subst (λ (it : g.row.T.Denot). Yields g.T.Iterator.next_gives it c.loop-point.yielded c.loop-point.point-iterator)
    c.into_iter-point-iterator.ensures.into_iter_gives c.loop-point.yielded_by in (
      c.in-Some.first ∷ c.loop-point.yielded,
      (c.next-in-loop-point.new.self, (c.loop-point.point-iterator, (c.next.new.self, c.in-Some.ensures.steps, from_second), c.in-None.ensures.steps)),
      summed-last g.I.IntNumber.value g.I.Wide.WideIntNumber.width c.in-Some.first c.loop-point.yielded c.loop-point.previous _ _ _
          c.loop-point.invariant c.cross_product-2.ensures c.wrapping_add.ensures,
    )
