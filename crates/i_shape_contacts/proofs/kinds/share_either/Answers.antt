use Rattle.i_shape_contacts.proofs.Overlaps.{either_of_two}
use Rattle.i_shape_contacts.proofs.kinds.share_either.Goals as goal

pub returns : goal.returns
returns g c = either_of_two _ _ _ _ c.share_range.ensures c.share_range-2.ensures
