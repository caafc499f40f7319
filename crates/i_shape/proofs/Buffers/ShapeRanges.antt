-- Shapes named by ranges of contour ranges.
use Rattle.std.proofs.Common.{◌≡◌, ℕ, ◌+◌, ◌-◌, ◌≤◌, List, [], ◌∷◌, ◌++◌, length, map, take, drop, slice_range, refl, sym, ap, ◌∙◌, arith, append-nil, inl, inr, length-append, length-drop, All}
use Rattle.std.proofs.lemmas.List.{take-map, drop-map, take-append-le, drop-append-le, drop_at, map-append, take_all}
use Rattle.std.proofs.lemmas.List.Elements.{All-head, All-tail, All-take, All-drop, All-weaker, All-push}
use Rattle.std.proofs.lemmas.Bool.{cases_lt}
use Rattle.i_shape.proofs.Common.{Range, concatenated, InOrder, IsReadableShape, part_of, slices, shapes, end_to_end}
use Rattle.i_shape.proofs.Lists.EndToEnd.{slices-end_to_end, slices_concatenated, InOrder-end_to_end, InOrder_concatenated, length-end_to_end}

-- a slice of a mapped list is the mapped slice
pub slice_range-map : {X Y : Type 0} (f : X → Y) (xs : List X) (a b : ℕ) → slice_range (map f xs) a b ≡ map f (slice_range xs a b)
slice_range-map f xs a b = ap (take (b - a)) (drop-map f a xs) ∙ take-map f (b - a) (drop a xs)

-- the slices of part of the ranges are that part of the slices
pub slices-part_of : {P : Type 0} (points : List P) (ranges : List (Range ℕ)) (range : Range ℕ) → slices points (part_of ranges range) ≡ part_of (slices points ranges) range
slices-part_of points ranges range = sym (slice_range-map (part_of points) ranges range.start range.end)

-- appending to a list keeps its parts
pub part_of-append : {P : Type 0} (list more : List P) (range : Range ℕ) → InOrder (length list) range → part_of (list ++ more) range ≡ part_of list range
part_of-append list more range within =
    let begins : range.start ≤ length list = omega arith in
    let fits : range.end - range.start ≤ length (drop range.start list) = omega (arith, length-drop range.start list) in
    ap (take (range.end - range.start)) (drop-append-le range.start list more begins) ∙ take-append-le (range.end - range.start) (drop range.start list) more fits

-- appending points keeps the slices that ranges within the points name
pub slices-append : {P : Type 0} (points more : List P) (ranges : List (Range ℕ)) → All (InOrder (length points)) ranges → slices (points ++ more) ranges ≡ slices points ranges
slices-append points more [] within = refl
slices-append points more (range ∷ ranges) within =
    ap (λ w. w ∷ slices (points ++ more) ranges) (part_of-append points more range (All-head (InOrder (length points)) range ranges within))
    ∙ ap (λ w. part_of points range ∷ w) (slices-append points more ranges (All-tail (InOrder (length points)) range ranges within))

-- an empty or reversed range names no member
pub part_of-empty : {P : Type 0} (list : List P) (range : Range ℕ) → range.end ≤ range.start → part_of list range ≡ []
part_of-empty list range backwards =
    let none : range.end - range.start ≡ 0 = omega arith in
    ap (λ n. take n (drop range.start list)) none

-- appending points and ranges keeps a readable shape
pub shape-append : {P : Type 0} (points more : List P) (ranges more_ranges : List (Range ℕ)) (range : Range ℕ) → IsReadableShape (length points) ranges range →
    slices (points ++ more) (part_of (ranges ++ more_ranges) range) ≡ slices points (part_of ranges range)
shape-append points more ranges more_ranges range readable =
    elim (cases_lt range.start range.end) [
      | inl forwards ↦ ap (slices (points ++ more)) (part_of-append ranges more_ranges range (omega arith, (readable forwards).0))
          ∙ slices-append points more (part_of ranges range) (readable forwards).1
      | inr backwards ↦ ap (slices (points ++ more)) (part_of-empty (ranges ++ more_ranges) range backwards) ∙ sym (ap (slices points) (part_of-empty ranges range backwards))
    ]

-- appending points and ranges keeps readable shapes
pub shapes-append : {P : Type 0} (points more : List P) (ranges more_ranges shape_ranges : List (Range ℕ)) → All (IsReadableShape (length points) ranges) shape_ranges →
    shapes (points ++ more) (ranges ++ more_ranges) shape_ranges ≡ shapes points ranges shape_ranges
shapes-append points more ranges more_ranges [] readable = refl
shapes-append points more ranges more_ranges (range ∷ shape_ranges) readable =
    ap (λ w. w ∷ shapes (points ++ more) (ranges ++ more_ranges) shape_ranges) (shape-append points more ranges more_ranges range (All-head (IsReadableShape (length points) ranges) range shape_ranges readable))
    ∙ ap (λ w. slices points (part_of ranges range) ∷ w) (shapes-append points more ranges more_ranges shape_ranges (All-tail (IsReadableShape (length points) ranges) range shape_ranges readable))

-- a shape range that begins where `ranges` end names the ranges of the appended shape
pub last_part : {P : Type 0} (ranges : List (Range ℕ)) (shape : List (List P)) (at n : ℕ) (range : Range ℕ) → n ≡ length shape → range ≡ record { start = length ranges; end = length ranges + n } →
    part_of (ranges ++ end_to_end at shape) range ≡ end_to_end at shape
last_part ranges shape at n range count is_range =
    let dropped : drop (length ranges) (ranges ++ end_to_end at shape) ≡ end_to_end at shape = drop_at ranges (end_to_end at shape) (length ranges) refl in
    let fits : length (end_to_end at shape) ≤ length ranges + n - length ranges = omega (arith, length-end_to_end at shape) in
    ap (part_of (ranges ++ end_to_end at shape)) is_range ∙ ap (take (length ranges + n - length ranges)) dropped ∙ take_all _ (end_to_end at shape) fits

-- a shape appended to a buffer is the one that its shape range names
pub last_shape : {P : Type 0} (points : List P) (ranges : List (Range ℕ)) (shape : List (List P)) (n : ℕ) (range : Range ℕ) → n ≡ length shape → range ≡ record { start = length ranges; end = length ranges + n } →
    slices (points ++ concatenated shape) (part_of (ranges ++ end_to_end (length points) shape) range) ≡ shape
last_shape points ranges shape n range count is_range =
    ap (slices (points ++ concatenated shape)) (last_part ranges shape (length points) n range count is_range)
    ∙ ap (λ w. slices (points ++ w) (end_to_end (length points) shape)) (sym (append-nil (concatenated shape)))
    ∙ slices-end_to_end points [] shape (length points) refl

-- the shape ranges of shapes laid end to end can be read
pub readable_concatenated : {P : Type 0} (list : List (List (List P))) → All (IsReadableShape (length (concatenated (concatenated list))) (end_to_end 0 (concatenated list))) (end_to_end 0 list)
readable_concatenated list =
    let ranges = end_to_end 0 (concatenated list) in
    let fits : 0 + length (concatenated list) ≤ length ranges = omega (arith, length-end_to_end 0 (concatenated list)) in
    let within = InOrder (length (concatenated (concatenated list))) in
    All-weaker (InOrder (length ranges)) (IsReadableShape (length (concatenated (concatenated list))) ranges)
    (λ range inside forwards. (inside.1, All-take within _ _ (All-drop within _ _ (InOrder_concatenated (concatenated list))))) (end_to_end 0 list) (InOrder-end_to_end list 0 _ fits)

-- appending a shape and its range keeps all shape ranges readable
pub readable-append : {P : Type 0} (points : List P) (ranges shape_ranges : List (Range ℕ)) (shape : List (List P)) (n : ℕ) (range : Range ℕ) →
    n ≡ length shape → range ≡ record { start = length ranges; end = length ranges + n } →
    All (IsReadableShape (length points) ranges) shape_ranges →
    All (IsReadableShape (length (points ++ concatenated shape)) (ranges ++ end_to_end (length points) shape)) (shape_ranges ++ range ∷ [])
readable-append points ranges shape_ranges shape n range count is_range readable =
    let longer : length (points ++ concatenated shape) ≡ length points + length (concatenated shape) = length-append points (concatenated shape) in
    let more : length (ranges ++ end_to_end (length points) shape) ≡ length ranges + length (end_to_end (length points) shape) = length-append ranges (end_to_end (length points) shape) in
    let as_many : length (end_to_end (length points) shape) ≡ length shape = length-end_to_end (length points) shape in
    let P' : Range ℕ → Type 0 = IsReadableShape (length (points ++ concatenated shape)) (ranges ++ end_to_end (length points) shape) in
    let kept : (old : Range ℕ) → IsReadableShape (length points) ranges old → P' old =
    λ old was forwards.
    let facts : (old.end ≤ length ranges) × All (InOrder (length points)) (part_of ranges old) = was forwards in
    let within : InOrder (length ranges) old = (omega arith, facts.0) in
    let inside : All (InOrder (length (points ++ concatenated shape))) (part_of ranges old) =
    All-weaker (InOrder (length points)) (InOrder (length (points ++ concatenated shape))) (λ r o. (o.0, omega (arith, o.1))) (part_of ranges old) facts.1 in
    (omega (arith, facts.0), rw (part_of-append ranges (end_to_end (length points) shape) old within) inside) in
    let new : P' range =
    λ forwards. (omega (arith, ap (λ r. r.end) is_range), rw (last_part ranges shape (length points) n range count is_range) (InOrder-end_to_end shape (length points) (length (points ++ concatenated shape)) (omega arith))) in
    All-push P' shape_ranges range (All-weaker (IsReadableShape (length points) ranges) P' kept shape_ranges readable) new

-- appending a shape and its range appends it to the shapes that the buffer names
pub shapes-push : {P : Type 0} (points : List P) (ranges shape_ranges : List (Range ℕ)) (shape : List (List P)) (n : ℕ) (range : Range ℕ) →
    n ≡ length shape → range ≡ record { start = length ranges; end = length ranges + n } →
    All (IsReadableShape (length points) ranges) shape_ranges →
    shapes (points ++ concatenated shape) (ranges ++ end_to_end (length points) shape) (shape_ranges ++ range ∷ []) ≡ shapes points ranges shape_ranges ++ shape ∷ []
shapes-push points ranges shape_ranges shape n range count is_range readable =
    map-append (λ r. slices (points ++ concatenated shape) (part_of (ranges ++ end_to_end (length points) shape) r)) shape_ranges (range ∷ [])
    ∙ ap (λ w. w ++ slices (points ++ concatenated shape) (part_of (ranges ++ end_to_end (length points) shape) range) ∷ []) (shapes-append points (concatenated shape) ranges (end_to_end (length points) shape) shape_ranges readable)
    ∙ ap (λ w. shapes points ranges shape_ranges ++ w ∷ []) (last_shape points ranges shape n range count is_range)

-- the shapes are the parts of the slices that the shape ranges name
pub shapes_by_parts : {P : Type 0} (points : List P) (ranges shape_ranges : List (Range ℕ)) → shapes points ranges shape_ranges ≡ slices (slices points ranges) shape_ranges
shapes_by_parts points ranges [] = refl
shapes_by_parts points ranges (range ∷ shape_ranges) =
    ap (λ w. w ∷ shapes points ranges shape_ranges) (slices-part_of points ranges range) ∙ ap (λ w. part_of (slices points ranges) range ∷ w) (shapes_by_parts points ranges shape_ranges)

-- reading shapes laid end to end returns the shapes
pub shapes-end_to_end : {P : Type 0} (list : List (List (List P))) → shapes (concatenated (concatenated list)) (end_to_end 0 (concatenated list)) (end_to_end 0 list) ≡ list
shapes-end_to_end list =
    shapes_by_parts (concatenated (concatenated list)) (end_to_end 0 (concatenated list)) (end_to_end 0 list)
    ∙ ap (λ w. slices w (end_to_end 0 list)) (slices_concatenated (concatenated list)) ∙ slices_concatenated list
