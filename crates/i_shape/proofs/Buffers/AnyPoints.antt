-- When a flat buffer over points of any type holds paths.
use Rattle.std.proofs.Common.{◌≡◌, ℕ, ◌+◌, ◌≤◌, List, [], ◌∷◌, ◌++◌, length, refl, sym, ap, ◌∙◌, arith, append-nil, true, nat_le, All, filter, le-leb}
use Rattle.i_shape.proofs.Common.{Range, concatenated, InOrder, slices, end_to_end, is_readable, LieEndToEnd, FormOneShape, in_one_shape}
use Rattle.std.proofs.lemmas.List.Elements.{All-head, All-tail}
use Rattle.i_shape.specs.declared.flat.float.shapes.FloatFlatShapesBuffer.{FloatFlatShapesBuffer}
use Rattle.i_shape.proofs.Lists.EndToEnd.{slices_concatenated, InOrder_concatenated}
use Rattle.i_shape.proofs.Buffers.ShapeRanges.{readable_concatenated, shapes-end_to_end}

-- filtering ranges that can all be read drops none
readable_all : (n : ℕ) (ranges : List (Range ℕ)) → All (InOrder n) ranges → filter (is_readable n) ranges ≡ ranges
readable_all n [] h = refl
readable_all n (range ∷ ranges) h =
    let here = All-head (InOrder n) range ranges h in
    let starts : nat_le range.start range.end ≡ true = le-leb range.start range.end here.0 in
    let ends : nat_le range.end n ≡ true = le-leb range.end n here.1 in
    rw (starts, ends) (ap (λ w. range ∷ w) (readable_all n ranges (All-tail (InOrder n) range ranges h)))

-- paths appended to empty lists lie end to end
pub LieEndToEnd-appended : {P : Type 0} {before held : List P} {first named : List (Range ℕ)} {paths : List (List P)} {n : ℕ} →
    held ≡ before ++ concatenated paths → named ≡ first ++ end_to_end n paths → before ≡ [] → first ≡ [] → n ≡ length before → LieEndToEnd held named paths
LieEndToEnd-appended {P} {before} {held} {first} {named} {paths} {n} points_are ranges_are no_points no_ranges at_n =
    let at_0 : n ≡ 0 = at_n ∙ ap length no_points in
    let whole : held ≡ concatenated paths = points_are ∙ ap (λ w. w ++ concatenated paths) no_points in
    let from_0 : named ≡ end_to_end 0 paths = rw (ranges_are, no_ranges, at_0) refl in
    record {
      points = whole;
      ranges = from_0;
      readable = rw (whole, from_0) (InOrder_concatenated paths);
      slices = rw (whole, from_0) (slices_concatenated paths);
      lent = rw (whole, from_0) (ap (slices (concatenated paths)) (readable_all (length (concatenated paths)) (end_to_end 0 paths) (InOrder_concatenated paths)) ∙ slices_concatenated paths);
    }

concatenated_one_shape : {P : Type 0} (paths : List (List P)) → concatenated (in_one_shape paths) ≡ paths
concatenated_one_shape [] = refl
concatenated_one_shape (path ∷ paths) = append-nil (path ∷ paths)

-- the one shape range over nonempty paths runs from 0 to their number
pub one_shape_range : {P : Type 0} (paths : List (List P)) (n : ℕ) → n ≡ length paths → 1 ≤ n → end_to_end 0 (in_one_shape paths) ≡ record { start = 0; end = n } ∷ []
one_shape_range [] n count some = absurd (omega arith)
one_shape_range (path ∷ paths) n count some =
    let whole : 0 + length (path ∷ paths) ≡ n = omega (arith, count) in
    ap (λ end. record { start = 0; end = end } ∷ []) whole

-- a buffer whose lists are those of paths laid end to end, in one shape, holds one shape of them
pub FormOneShape-from_lists : {P : Type 0} (buffer : FloatFlatShapesBuffer P) (paths : List (List P)) →
    buffer.points.items ≡ concatenated paths → buffer.contour_ranges.items ≡ end_to_end 0 paths → buffer.shape_ranges.items ≡ end_to_end 0 (in_one_shape paths) →
    FormOneShape buffer paths
FormOneShape-from_lists buffer paths points_are contours_are shapes_are =
    let list = in_one_shape paths in
    let same = concatenated_one_shape paths in
    let points_are' : buffer.points.items ≡ concatenated (concatenated list) = points_are ∙ ap concatenated (sym same) in
    let contours_are' : buffer.contour_ranges.items ≡ end_to_end 0 (concatenated list) = contours_are ∙ ap (end_to_end 0) (sym same) in
    record {
      shape_ranges = shapes_are;
      readable = rw (points_are', contours_are', shapes_are) (readable_concatenated list);
      shapes = rw (points_are', contours_are', shapes_are) (shapes-end_to_end list);
    }
