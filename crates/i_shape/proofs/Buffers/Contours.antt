-- When a buffer holds contours.
use Rattle.std.proofs.Common.{◌≡◌, List, [], ◌++◌, length, vec_len, refl, ap, arith}
use Rattle.i_shape.proofs.Common.{IntPoint, FlatContoursBuffer, concatenated, end_to_end, HoldsContours}
use Rattle.i_shape.proofs.Lists.EndToEnd.{slices_concatenated, InOrder_concatenated}

-- a buffer whose lists are the points and ranges of contours laid end to end holds those contours
pub HoldsContours-from_lists : {T : Type 0} (buffer : FlatContoursBuffer T) (contours : List (List (IntPoint T))) →
    buffer.points.items ≡ concatenated contours → buffer.ranges.items ≡ end_to_end 0 contours → HoldsContours buffer contours
HoldsContours-from_lists buffer contours all named =
    record {
      points = all;
      ranges = named;
      readable = rw (all, named) (InOrder_concatenated contours);
      slices = rw (all, named) (slices_concatenated contours);
    }

-- a buffer that grew from an empty one by contours laid end to end holds those contours
pub HoldsContours-appended : {T : Type 0} (empty buffer : FlatContoursBuffer T) (contours : List (List (IntPoint T))) → HoldsContours empty [] →
    buffer.points.items ≡ empty.points.items ++ concatenated contours → buffer.ranges.items ≡ empty.ranges.items ++ end_to_end (vec_len empty.points) contours →
    HoldsContours buffer contours
HoldsContours-appended empty buffer contours none points_are ranges_are =
    let start : vec_len empty.points ≡ 0 = omega (arith, empty.points.ok.0, ap length none.points) in
    HoldsContours-from_lists buffer contours (rw (points_are, none.points) refl) (rw (ranges_are, none.ranges, start) refl)
