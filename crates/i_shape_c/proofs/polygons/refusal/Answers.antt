use Rattle.i_shape_c.proofs.Refusals.{refusal_as, as_is}
use Rattle.i_shape_c.proofs.polygons.refusal.Goals as goal

pub refusal-requires : goal.refusal-requires
refusal-requires g c = λ is. (c.are_polygons-is_parted.ensures.0 is).contours_parted

pub returns : goal.returns
returns g c = refusal_as c.refusal.result c.are_polygons-is_parted.ensures c.has_shapes_room-has_room.ensures as_is c.refusal.ensures
