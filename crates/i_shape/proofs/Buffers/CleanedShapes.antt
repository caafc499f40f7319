-- Cleaning inside a flat buffer of shapes, and what both forms of a buffer append.
use Rattle.std.proofs.Common.{◌≡◌, ℕ, ◌+◌, ◌<◌, ◌≤◌, ℤ, List, [], ◌∷◌, ◌++◌, length, get_or, take, map, refl, sym, ap, ◌∙◌, subst, arith, append-nil, append_assoc, length-append, Option, Some, None, option_map, true, false, true≢false, All, option_to_list, is_some}
use Rattle.i_shape.proofs.Common.{Range, Point, contour_of, IntPoint, concatenated, FlatContoursBuffer, FlatShapesBuffer, IsReadableShape, part_of, slices, shapes, end_to_end, Survivors, ShapeClean, ListClean, HoldsContours, HoldsShapes, shapes_in, contours_of, named_shapes, Grows, AppendsShapeAnswer}
use Rattle.std.proofs.lemmas.List.{map-append, take_all, nil_from_length}
use Rattle.std.proofs.lemmas.List.Elements.{All-weaker}
use Rattle.std.proofs.lemmas.Simd.{map-map}
use Rattle.i_shape.proofs.Buffers.CleanedContours.{map-option_to_list}
use Rattle.i_shape.proofs.Buffers.Contours.{HoldsContours-from_lists}
use Rattle.i_shape.proofs.Lists.EndToEnd.{concatenated-append, end_to_end-append, length-end_to_end}
use Rattle.i_shape.proofs.Buffers.Shapes.{HoldsShapes-from_lists}
use Rattle.i_shape.proofs.Lists.Surviving.{same_read, mapped-read, mapped-more, survivors-more}

from_zero : (n : ℕ) → n ≡ 0 + n
from_zero n = omega arith

onto_zero : (n : ℕ) → n ≡ n + 0
onto_zero n = omega arith

module _ {T : Type 0} where
  -- growing by xs and then by ys is growing by xs ++ ys
  pub grows_chain : (p q t : List (IntPoint T)) (r s u : List (Range ℕ)) (xs ys : List (List (IntPoint T))) → Grows p q r s xs → Grows q t s u ys → Grows p t r u (xs ++ ys)
  grows_chain p q t r s u xs ys a b =
      let far : length q ≡ length p + length (concatenated xs) = ap length a.points_are ∙ length-append p (concatenated xs) in
      record {
        points_are = b.points_are ∙ ap (λ w. w ++ concatenated ys) a.points_are ∙ append_assoc p (concatenated xs) (concatenated ys) ∙ ap (λ w. p ++ w) (sym (concatenated-append xs ys));
        ranges_are =
            b.ranges_are ∙ ap (λ w. w ++ end_to_end (length q) ys) a.ranges_are ∙ append_assoc r (end_to_end (length p) xs) (end_to_end (length q) ys)
            ∙ ap (λ n. r ++ (end_to_end (length p) xs ++ end_to_end n ys)) far ∙ ap (λ w. r ++ w) (sym (end_to_end-append (length p) xs ys));
      }

  -- an empty buffer of contours that grew by some contours holds them
  pub grown_held : (empty buffer : FlatContoursBuffer T) (more : List (List (IntPoint T))) → HoldsContours empty [] → Grows empty.points.items buffer.points.items empty.ranges.items buffer.ranges.items more → HoldsContours buffer more
  grown_held empty buffer more none g =
      HoldsContours-from_lists buffer more (g.points_are ∙ ap (λ w. w ++ concatenated more) none.points)
      (g.ranges_are ∙ ap (λ w. w ++ end_to_end (length empty.points.items) more) none.ranges ∙ ap (λ w. end_to_end (length w) more) none.points)

  -- a buffer of contours that holds some holds those that its ranges name
  pub held_slices : (buffer : FlatContoursBuffer T) (more : List (List (IntPoint T))) → HoldsContours buffer more → HoldsContours buffer (slices buffer.points.items buffer.ranges.items)
  held_slices buffer more held = subst (HoldsContours buffer) (sym held.slices) held

  -- a buffer that holds shapes holds them and the answer, if any, once that is appended
  pub HoldsShapes-more : {Answer : List Point → Option (List Point) → Type 0} (value : T → ℤ) (shape : List (List (IntPoint T))) (old new : FlatShapesBuffer T) (list : List (List (List (IntPoint T)))) → HoldsShapes old list → (step : AppendsShapeAnswer Answer value shape old new)
      → HoldsShapes new (list ++ option_to_list step.answer)
  HoldsShapes-more value shape old new list held step =
      let more = option_to_list step.answer in
      let points : length old.points.items ≡ length (concatenated (concatenated list)) = ap length held.points in
      let contours : length old.contour_ranges.items ≡ length (concatenated list) = ap length held.contour_ranges ∙ length-end_to_end 0 (concatenated list) in
      HoldsShapes-from_lists new (list ++ more)
      (step.grown.points_are ∙ ap (λ w. w ++ concatenated (concatenated more)) held.points ∙ sym (concatenated-append (concatenated list) (concatenated more)) ∙ ap concatenated (sym (concatenated-append list more)))
      (step.grown.ranges_are ∙ ap (λ w. w ++ end_to_end (length old.points.items) (concatenated more)) held.contour_ranges ∙ ap (λ n. end_to_end 0 (concatenated list) ++ end_to_end n (concatenated more)) (points ∙ from_zero (length (concatenated (concatenated list))))
      ∙ sym (end_to_end-append 0 (concatenated list) (concatenated more)) ∙ ap (end_to_end 0) (sym (concatenated-append list more)))
      (step.shape_ranges ∙ ap (λ w. w ++ end_to_end (length old.contour_ranges.items) more) held.shape_ranges ∙ ap (λ n. end_to_end 0 list ++ end_to_end n more) (contours ∙ from_zero (length (concatenated list))) ∙ sym (end_to_end-append 0 list more))

  -- a buffer that holds the shapes it names still does once an answer is appended
  pub held-more : {Answer : List Point → Option (List Point) → Type 0} (value : T → ℤ) (shape : List (List (IntPoint T))) (old new : FlatShapesBuffer T) → HoldsShapes old (shapes_in old) → AppendsShapeAnswer Answer value shape old new → HoldsShapes new (shapes_in new)
  held-more value shape old new held step =
      let longer = HoldsShapes-more value shape old new (shapes_in old) held step in
      subst (HoldsShapes new) (sym longer.shapes) longer

  -- appending an answer appends it to the shapes that the buffer names
  pub named-more : {Answer : List Point → Option (List Point) → Type 0} (value : T → ℤ) (shape : List (List (IntPoint T))) (old new : FlatShapesBuffer T) → HoldsShapes old (shapes_in old) → (step : AppendsShapeAnswer Answer value shape old new)
      → named_shapes value new ≡ named_shapes value old ++ option_to_list (option_map (contours_of value) step.answer)
  named-more value shape old new held step =
      let longer = HoldsShapes-more value shape old new (shapes_in old) held step in
      ap (map (contours_of value)) longer.shapes ∙ map-append (contours_of value) (shapes_in old) (option_to_list step.answer)
      ∙ ap (λ w. named_shapes value old ++ w) (map-option_to_list (contours_of value) step.answer)

-- the shape that a range names, in unbounded integers
abbrev pub named_at : {T : Type 0} → (T → ℤ) → List (IntPoint T) → List (Range ℕ) → Range ℕ → List (List Point)
named_at value points contour_ranges range = contours_of value (slices points (part_of contour_ranges range))

-- the shapes that shape ranges name, in unbounded integers, range by range
pub named-map : {T : Type 0} (value : T → ℤ) (points : List (IntPoint T)) (contour_ranges ranges : List (Range ℕ)) → map (contours_of value) (shapes points contour_ranges ranges) ≡ map (named_at value points contour_ranges) ranges
named-map value points contour_ranges ranges = map-map (contours_of value) (λ range. slices points (part_of contour_ranges range)) ranges

-- A loop over shape ranges, at index i.
module _ {T : Type 0} (value : T → ℤ) (points : List (IntPoint T)) (contour_ranges ranges : List (Range ℕ)) (i : ℕ) (d : Range ℕ) (lt : i < length ranges) where
  -- what holds of all shapes holds of the one that range i names
  pub shape-read : (P : List (List Point) → Type 0) → All P (map (contours_of value) (shapes points contour_ranges ranges)) → P (named_at value points contour_ranges (get_or ranges i d))
  shape-read P all = mapped-read (named_at value points contour_ranges) P ranges i (get_or ranges i d) lt (same_read ranges i d lt) (rw (named-map value points contour_ranges ranges) at all)

  -- if P holds of the first i shapes and of the next, it holds of the first i + 1
  pub shapes-more : (P : List (List Point) → Type 0) → All P (map (named_at value points contour_ranges) (take i ranges)) → P (named_at value points contour_ranges (get_or ranges i d))
      → All P (map (named_at value points contour_ranges) (take (i + 1) ranges))
  shapes-more P before here = mapped-more (named_at value points contour_ranges) P ranges i (get_or ranges i d) lt (same_read ranges i d lt) before here

  -- if a buffer holds the answers of the first i shapes, appending the next answer makes those of the first i + 1
  pub clean-more : {Answer : List Point → Option (List Point) → Type 0} (source : List (List (IntPoint T))) (old new : FlatShapesBuffer T) → HoldsShapes old (shapes_in old) → AppendsShapeAnswer Answer value source old new → source ≡ slices points (part_of contour_ranges (get_or ranges i d))
      → ListClean Answer (map (named_at value points contour_ranges) (take i ranges)) (named_shapes value old) → ListClean Answer (map (named_at value points contour_ranges) (take (i + 1) ranges)) (named_shapes value new)
  clean-more {Answer = Answer} source old new held step same before =
      let here : ShapeClean Answer (named_at value points contour_ranges (get_or ranges i d)) (option_map (contours_of value) step.answer) =
      subst (λ w. ShapeClean Answer (contours_of value w) (option_map (contours_of value) step.answer)) same step.cleaned in
      rw (named-more value source old new held step) (survivors-more (named_at value points contour_ranges) (ShapeClean Answer) ranges i (get_or ranges i d) (named_shapes value old) (option_map (contours_of value) step.answer) lt (same_read ranges i d lt) before here)

-- at the end of the loop, P of the shapes of the first i ranges is P of all shapes
pub shapes-all : {T : Type 0} (value : T → ℤ) (points : List (IntPoint T)) (contour_ranges ranges : List (Range ℕ)) (i : ℕ) (P : List (List (List Point)) → Type 0) → length ranges ≤ i
    → P (map (named_at value points contour_ranges) (take i ranges)) → P (map (contours_of value) (shapes points contour_ranges ranges))
shapes-all value points contour_ranges ranges i P done holds = rw (named-map value points contour_ranges ranges) (rw (take_all i ranges done) at holds)

-- a buffer that holds no shapes holds those that it names
pub held-none : {T : Type 0} (buffer : FlatShapesBuffer T) → HoldsShapes buffer [] → HoldsShapes buffer (shapes_in buffer)
held-none buffer held = subst (HoldsShapes buffer) (sym held.shapes) held

-- an empty buffer holds the answers of no shapes
pub clean-none : {T : Type 0} (Answer : List Point → Option (List Point) → Type 0) (value : T → ℤ) (buffer : FlatShapesBuffer T) → HoldsShapes buffer [] → ListClean Answer [] (named_shapes value buffer)
clean-none Answer value buffer held = ([], tt, ap (map (contours_of value)) held.shapes)

-- What is appended for a shape given by contour ranges.
module _ {T : Type 0} {Answer : List Point → Option (List Point) → Type 0} (value : T → ℤ) (source : List (IntPoint T)) (named : List (Range ℕ)) (old new : FlatShapesBuffer T) where
  -- a shape without contours appends an empty shape
  pub appends-empty : (n : ℕ) → length named ≡ 0 → n ≡ length old.contour_ranges.items → new.points.items ≡ old.points.items → new.contour_ranges.items ≡ old.contour_ranges.items
      → new.shape_ranges.items ≡ old.shape_ranges.items ++ record { start = n; end = n } ∷ [] → AppendsShapeAnswer Answer value (slices source named) old new
  appends-empty n none count points_are contours_are shapes_are = record {
    answer = Some [];
    cleaned = rw (nil_from_length named none) refl;
    grown = record { points_are = points_are ∙ sym (append-nil old.points.items); ranges_are = contours_are ∙ sym (append-nil old.contour_ranges.items) };
    shape_ranges = shapes_are ∙ ap (λ k. old.shape_ranges.items ++ record { start = k; end = k } ∷ []) count
        ∙ ap (λ k. old.shape_ranges.items ++ record { start = length old.contour_ranges.items; end = k } ∷ []) (onto_zero (length old.contour_ranges.items));
  }

  module _ (outer : Range ℕ) (holes : List (Range ℕ)) (is : named ≡ outer ∷ holes) where
    -- a shape whose outer contour collapses appends nothing
    pub appends-none : (answer : Option (List (IntPoint T))) → Answer (contour_of value (part_of source outer)) (option_map (contour_of value) answer)
        → Grows old.points.items new.points.items old.contour_ranges.items new.contour_ranges.items (option_to_list answer) → false ≡ is_some answer → new.shape_ranges.items ≡ old.shape_ranges.items
        → AppendsShapeAnswer Answer value (slices source named) old new
    appends-none (Some clean) cleaned grown told same = absurd (true≢false (sym told))
    appends-none None cleaned grown told same = record {
      answer = None;
      cleaned = rw is cleaned;
      grown = grown;
      shape_ranges = same ∙ sym (append-nil old.shape_ranges.items);
    }

    -- a shape whose outer contour doesn't collapse appends that contour's answer and those of the holes
    pub appends-whole : (points : List (IntPoint T)) (ranges : List (Range ℕ)) (answer : Option (List (IntPoint T))) (more : List (List (IntPoint T))) (n k : ℕ)
        → Answer (contour_of value (part_of source outer)) (option_map (contour_of value) answer) → Grows old.points.items points old.contour_ranges.items ranges (option_to_list answer) → true ≡ is_some answer
        → Survivors Answer (contours_of value (slices source holes)) (contours_of value more) → Grows points new.points.items ranges new.contour_ranges.items more
        → n ≡ length old.contour_ranges.items → k ≡ length new.contour_ranges.items
        → new.shape_ranges.items ≡ old.shape_ranges.items ++ record { start = n; end = k } ∷ [] → AppendsShapeAnswer Answer value (slices source named) old new
    appends-whole points ranges None more n k cleaned first told survive rest at_n at_k shapes_are = absurd (true≢false told)
    appends-whole points ranges (Some clean) more n k cleaned first told survive rest at_n at_k shapes_are =
        let shape : List (List (IntPoint T)) = clean ∷ more in
        let grown : Grows old.points.items new.points.items old.contour_ranges.items new.contour_ranges.items shape =
        grows_chain old.points.items points new.points.items old.contour_ranges.items ranges new.contour_ranges.items (clean ∷ []) more first rest in
        let far : length new.contour_ranges.items ≡ length old.contour_ranges.items + length shape =
        ap length grown.ranges_are ∙ length-append old.contour_ranges.items (end_to_end (length old.points.items) shape) ∙ ap (λ z. length old.contour_ranges.items + z) (length-end_to_end (length old.points.items) shape) in
        record {
          answer = Some shape;
          cleaned = rw is (cleaned, survive);
          grown = subst (Grows old.points.items new.points.items old.contour_ranges.items new.contour_ranges.items) (sym (append-nil shape)) grown;
          shape_ranges = shapes_are ∙ ap (λ z. old.shape_ranges.items ++ record { start = z; end = k } ∷ []) at_n
              ∙ ap (λ z. old.shape_ranges.items ++ record { start = length old.contour_ranges.items; end = z } ∷ []) (at_k ∙ far);
        }

-- a nonempty shape range of a readable shape ends within the contour ranges
pub named_there : (n : ℕ) (contour_ranges ranges : List (Range ℕ)) → All (IsReadableShape n contour_ranges) ranges → All (λ range. range.start < range.end → range.end ≤ length contour_ranges) ranges
named_there n contour_ranges ranges all = All-weaker (IsReadableShape n contour_ranges) (λ range. range.start < range.end → range.end ≤ length contour_ranges) (λ range readable forwards. (readable forwards).0) ranges all
