use Rattle.std.proofs.Common.{ℕ, List, length, get_or, sym, ap, subst, ◌∙◌}
use Rattle.std.proofs.lemmas.Result.{IfOk-weaker}
use Rattle.i_shape_core.proofs.Plane.PointLists.{points-length}
use Rattle.i_shape_contacts.specs.Steps.Orders.{IsOrder}
use Rattle.i_shape_contacts.proofs.Orders.{places, order_of}
use Rattle.i_shape_contacts.proofs.spread.spread_places.Goals as goal

pub returns : goal.returns
returns g c =
    let points = c.args.points.now in
    let sorted = order_of (g.P.ContourPoint.points points) c.in_ok-order.order.items (length points) (points-length g.P.ContourPoint.point g.P.ContourPoint.points g.P.ContourPoint.each points) c.in_ok-order.ensures in
    IfOk-weaker c.places_of.result _ _ (λ v is. subst (λ (xs : List ℕ). IsOrder (length xs) (λ (m : ℕ). get_or xs m 0) (length points)) (sym (is ∙ ap places c.deref.ensures.value)) sorted) c.places_of.ensures
