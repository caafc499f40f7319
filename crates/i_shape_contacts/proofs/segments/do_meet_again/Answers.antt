use Rattle.i_shape_contacts.proofs.Neighbours.{meets_again, turns_back}
use Rattle.i_shape_contacts.proofs.segments.do_meet_again.Goals as goal

pub returns : goal.returns
returns g c = (λ t. turns_back _ _ _ (c.does_reverse.ensures.0 t), λ m. c.does_reverse.ensures.1 (meets_again _ _ _ m))
