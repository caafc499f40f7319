-- When a buffer holds shapes.
use Rattle.std.proofs.Common.{◌≡◌, ℕ, ◌+◌, List, [], ◌∷◌, ◌++◌, length, vec_len, refl, sym, ap, ◌∙◌, append-nil}
use Rattle.i_shape.proofs.Common.{Range, IntPoint, FlatShapesBuffer, concatenated, end_to_end, HoldsShapes, AddsShape}
use Rattle.i_shape.proofs.Lists.EndToEnd.{slices_concatenated, InOrder_concatenated}
use Rattle.i_shape.proofs.Buffers.ShapeRanges.{readable_concatenated, shapes-end_to_end, readable-append, shapes-push}

-- a buffer whose lists are the points and ranges of shapes laid end to end holds those shapes
pub HoldsShapes-from_lists : {T : Type 0} (buffer : FlatShapesBuffer T) (list : List (List (List (IntPoint T)))) →
    buffer.points.items ≡ concatenated (concatenated list) → buffer.contour_ranges.items ≡ end_to_end 0 (concatenated list) → buffer.shape_ranges.items ≡ end_to_end 0 list →
    HoldsShapes buffer list
HoldsShapes-from_lists buffer list points_are contours_are shapes_are =
    record {
      points = points_are;
      contour_ranges = contours_are;
      shape_ranges = shapes_are;
      contours_readable = rw (points_are, contours_are) (InOrder_concatenated (concatenated list));
      shapes_readable = rw (points_are, contours_are, shapes_are) (readable_concatenated list);
      slices = rw (points_are, contours_are) (slices_concatenated (concatenated list));
      shapes = rw (points_are, contours_are, shapes_are) (shapes-end_to_end list);
    }

-- a buffer that grew from an empty one by shapes laid end to end holds those shapes
pub HoldsShapes-appended : {T : Type 0} (empty buffer : FlatShapesBuffer T) (list : List (List (List (IntPoint T)))) → HoldsShapes empty [] →
    buffer.points.items ≡ empty.points.items ++ concatenated (concatenated list) →
    buffer.contour_ranges.items ≡ empty.contour_ranges.items ++ end_to_end (vec_len empty.points) (concatenated list) →
    buffer.shape_ranges.items ≡ empty.shape_ranges.items ++ end_to_end (vec_len empty.contour_ranges) list →
    HoldsShapes buffer list
HoldsShapes-appended empty buffer list none points_are contours_are shapes_are =
    let no_points : vec_len empty.points ≡ 0 = empty.points.ok.0 ∙ ap length none.points in
    let no_contours : vec_len empty.contour_ranges ≡ 0 = empty.contour_ranges.ok.0 ∙ ap length none.contour_ranges in
    HoldsShapes-from_lists buffer list
    (rw (points_are, none.points) refl)
    (rw (contours_are, none.contour_ranges, no_points) refl)
    (rw (shapes_are, none.shape_ranges, no_contours) refl)

-- a buffer that grew from an empty one by a shape of n contours holds that shape
pub HoldsShapes-one : {T : Type 0} (empty buffer : FlatShapesBuffer T) (shape : List (List (IntPoint T))) (n : ℕ) → HoldsShapes empty [] → n ≡ length shape →
    buffer.points.items ≡ empty.points.items ++ concatenated shape →
    buffer.contour_ranges.items ≡ empty.contour_ranges.items ++ end_to_end (vec_len empty.points) shape →
    buffer.shape_ranges.items ≡ empty.shape_ranges.items ++ record { start = vec_len empty.contour_ranges; end = vec_len empty.contour_ranges + n } ∷ [] →
    HoldsShapes buffer (shape ∷ [])
HoldsShapes-one empty buffer shape n none count points_are contours_are shapes_are =
    let one : shape ≡ concatenated (shape ∷ []) = sym (append-nil shape) in
    HoldsShapes-appended empty buffer (shape ∷ []) none
    (points_are ∙ ap (λ w. empty.points.items ++ concatenated w) one)
    (contours_are ∙ ap (λ w. empty.contour_ranges.items ++ end_to_end (vec_len empty.points) w) one)
    (rw (shapes_are, count) refl)

-- a buffer that grew from an empty one by a shape of one contour holds that shape
pub HoldsShapes-contour : {T : Type 0} (empty buffer : FlatShapesBuffer T) (contour : List (IntPoint T)) → HoldsShapes empty [] →
    buffer.points.items ≡ empty.points.items ++ contour →
    buffer.contour_ranges.items ≡ empty.contour_ranges.items ++ record { start = vec_len empty.points; end = vec_len empty.points + length contour } ∷ [] →
    buffer.shape_ranges.items ≡ empty.shape_ranges.items ++ record { start = 0; end = 1 } ∷ [] →
    HoldsShapes buffer ((contour ∷ []) ∷ [])
HoldsShapes-contour empty buffer contour none points_are contours_are shapes_are =
    let no_contours : vec_len empty.contour_ranges ≡ 0 = empty.contour_ranges.ok.0 ∙ ap length none.contour_ranges in
    HoldsShapes-one empty buffer (contour ∷ []) 1 none refl
    (points_are ∙ ap (λ w. empty.points.items ++ w) (sym (append-nil contour)))
    contours_are
    (rw (shapes_are, no_contours) refl)

-- appending a shape's points, contour ranges and shape range to a buffer adds that shape
pub AddsShape-from_lists : {T : Type 0} (old new : FlatShapesBuffer T) (shape : List (List (IntPoint T))) (points : List (IntPoint T)) (contour_ranges shape_ranges : List (Range ℕ)) (p q n : ℕ) →
    points ≡ old.points.items → contour_ranges ≡ old.contour_ranges.items → shape_ranges ≡ old.shape_ranges.items →
    p ≡ length old.points.items → q ≡ length old.contour_ranges.items → n ≡ length shape →
    new.points.items ≡ points ++ concatenated shape → new.contour_ranges.items ≡ contour_ranges ++ end_to_end p shape →
    new.shape_ranges.items ≡ shape_ranges ++ record { start = q; end = q + n } ∷ [] →
    AddsShape old new shape
AddsShape-from_lists old new shape points contour_ranges shape_ranges p q n same_points same_contours same_shapes at_p at_q count points_are contours_are shapes_are =
    let points' : new.points.items ≡ old.points.items ++ concatenated shape = rw (points_are, same_points) refl in
    let contours' : new.contour_ranges.items ≡ old.contour_ranges.items ++ end_to_end (length old.points.items) shape = rw (contours_are, same_contours, at_p) refl in
    let range : Range ℕ = record { start = length old.contour_ranges.items; end = length old.contour_ranges.items + length shape } in
    let shapes' : new.shape_ranges.items ≡ old.shape_ranges.items ++ range ∷ [] = rw (shapes_are, same_shapes, at_q, count) refl in
    record {
      points = points';
      contour_ranges = contours';
      shape_ranges = shapes';
      readable = λ was. rw (points', contours', shapes') (readable-append old.points.items old.contour_ranges.items old.shape_ranges.items shape (length shape) range refl refl was);
      shapes = λ was. rw (points', contours', shapes') (shapes-push old.points.items old.contour_ranges.items old.shape_ranges.items shape (length shape) range refl refl was);
    }
