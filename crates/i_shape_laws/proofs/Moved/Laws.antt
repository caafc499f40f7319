-- A contour and the moved one are cleaned alike.
use Rattle.std.proofs.Common.{◌≢◌, List, pos}
use Rattle.i_shape_core.specs.Point.{Point}
use Rattle.i_shape_core.specs.Moves.{Move, determinant, moved_point}
use Rattle.i_shape_laws.specs.Moved.{MovedAlike}
use Rattle.i_shape_core.proofs.Moved.Mapped.{reach_mapped}
use Rattle.i_shape_core.proofs.Moved.ZeroTurns.{zero_moved}
use Rattle.i_shape_laws.proofs.Moved.Ends.{reach_back_to, end_mapped, end_back, end_back_to, answer_mapped}
use Rattle.i_shape_laws.proofs.Moved.Points.{zero_back, moved_apart}
use Rattle.i_shape_laws.proofs.Moved.Back.{back_moved, back_back, reverses_moved, reverses_back}
use Rattle.i_shape_laws.proofs.Moved.Spikes.{despike_mapped}

-- at a move with a determinant other than 0, a contour and the moved one have the same removals, ends and answers
pub moved_laws : (m : Move) → determinant m ≢ pos 0 → (c : List Point) → MovedAlike m c
moved_laws m some c =
    let f = moved_point m in
    let carries = zero_moved m in
    let returns = zero_back m some in
    let apart = moved_apart m some in
    record {
      reached = λ d. (reach_mapped f carries, reach_back_to f apart returns c d);
      ends = λ e. (end_mapped f carries returns, end_back_to f apart carries returns c e);
      every = end_back f carries returns c;
      backwards = λ e. (end_mapped f (back_moved m) (back_back m some), end_back_to f apart (back_moved m) (back_back m some) c e);
      answers = answer_mapped f apart carries returns c;
      despiked = despike_mapped f apart (reverses_moved m some) (reverses_back m some) carries returns (back_moved m) (back_back m some) c;
    }
