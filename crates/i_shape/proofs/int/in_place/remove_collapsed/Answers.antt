use Rattle.std.proofs.Common.{◌∙◌, sym, ap}
use Rattle.i_shape.proofs.Common.{shape_of, keeps_outer}
use Rattle.i_shape.proofs.InPlace.Left.{outer_kept}
use Rattle.i_shape.proofs.int.in_place.remove_collapsed.Goals as goal

pub returns-then-keeps_outer : goal.returns-then-keeps_outer
returns-then-keeps_outer g c =
    let value = g.I.IntNumber.value in
    c.remove_empty.ensures ∙ outer_kept (shape_of value c.args.shape.now.items) (sym c.if-keeps_outer.true ∙ c.keeps_outer.ensures ∙ ap (λ w. keeps_outer (shape_of value w)) c.as_slice.ensures.value)
