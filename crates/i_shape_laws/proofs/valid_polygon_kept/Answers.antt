use Rattle.i_shape_laws.proofs.valid_polygon_kept.Goals as goal
use Rattle.i_shape_laws.proofs.Polygons.{kept_valid}

pub returns : goal.returns
returns c = kept_valid
