use Rattle.i_shape_contacts.proofs.Overlaps.{none_of_four}
use Rattle.i_shape_contacts.proofs.kinds.share_range.Goals as goal

pub returns : goal.returns
returns g c = none_of_four _ _ _ _ _ _ _ _ c.are_at_most.ensures c.are_at_most-2.ensures c.are_at_most-3.ensures c.are_at_most-4.ensures
