use Rattle.std.proofs.Common.{◌∙◌, ◌<◌, ◌∷◌, [], ◌++◌, take, ap, arith, length, length-take}
use Rattle.std.proofs.lemmas.List.{take_more_set}
use Rattle.i_shape_core.proofs.Plane.Contours.{kept-more}
use Rattle.i_shape_core.proofs.clean.write.write_at.Goals as goal

pub loop-at-preserved : goal.loop-at-preserved
loop-at-preserved g c =
    let at = c.loop-at.at in
    let item = c.index-items-places.result in
    let room : at < length c.loop-at.front = omega (arith, length-take (length c.args.places.now) c.args.out.now, c.loop-at.auto.front, c.requires.room, c.loop-at-test.true) in
    kept-more c.args.items.now (take at c.loop-at.front) _ c.args.places.now at item c.loop-at.invariant c.loop-at-test.true (c.requires.below at 0 c.loop-at-test.true)
    (take_more_set c.loop-at.front at item room ∙ ap (λ p. take at c.loop-at.front ++ p ∷ []) c.index-items-places.is)
