use Rattle.i_shape_c.proofs.Refusals.{refusal_as, as_is}
use Rattle.i_shape_c.proofs.validity.refusal_of_items.Goals as goal

pub refusal-requires : goal.refusal-requires
refusal-requires g c = λ is. (c.are_polygons-is_parted.ensures.0 is).contours_parted

pub returns : goal.returns
returns g c = refusal_as _ c.are_polygons-is_parted.ensures c.has_items-has_room.ensures as_is c.refusal.ensures
