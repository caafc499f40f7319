-- How short joined contours are.
use Rattle.std.proofs.Common.{◌≤◌, List, length, arith}
use Rattle.i_shape_core.specs.Point.{Point, IsZeroTurn}
use Rattle.i_shape_core.specs.Contour.{End, SameEnd, collapsed, rotated}
use Rattle.i_shape_laws.specs.Ends.{Shortest}
use Rattle.i_shape_core.proofs.Removal.Rotations.{rotation_length}
use Rattle.i_shape_core.proofs.Removal.Ends.{has_end, reach_shrinks}
use Rattle.i_shape_core.proofs.Removal.ZeroTurns.{zero_turn_slides, zero_turn_decided}
use Rattle.i_shape_core.proofs.Forms.Canonical.{joined_first, joined_sym, ends_of_joined}

-- no contour joined to c is shorter than an end of c
pub end_is_shortest : (c d : List Point) → Shortest c d
end_is_shortest c d j e a = same (ends_of_joined zero_turn_slides zero_turn_decided j a f.1)
  where
    f : (f : List Point) × End IsZeroTurn d f
    f = has_end zero_turn_decided d

    same : SameEnd e f.0 → length e ≤ length d
    same (collapsed h k) = let enough = joined_first (joined_sym j) in omega arith
    same (rotated h k r) = let shorter = reach_shrinks f.1.reached in let alike = rotation_length r in omega arith
