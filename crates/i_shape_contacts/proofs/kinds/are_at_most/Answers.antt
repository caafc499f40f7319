use Rattle.i_shape_core.proofs.Arithmetic.Comparisons.{le-tells}
use Rattle.i_shape_contacts.proofs.Overlaps.{all_four}
use Rattle.i_shape_contacts.proofs.kinds.are_at_most.Goals as goal

pub returns : goal.returns
returns g c =
    let order = g.met.I.IntNumber.partial_order in
    all_four _ _ _ _ _ _ _ _ (le-tells _ _ _ _ c.le.ensures (order _ _)) (le-tells _ _ _ _ c.le-2.ensures (order _ _)) (le-tells _ _ _ _ c.le-3.ensures (order _ _)) (le-tells _ _ _ _ c.le-4.ensures (order _ _))
