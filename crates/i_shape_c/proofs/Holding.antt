-- Boxes of polygons, and the first polygon that holds a point.
use Rattle.std.proofs.Common.{◌≡◌, ◌∙◌, ℕ, zero, suc, ◌+◌, ◌-◌, ◌<◌, ◌≤◌, ◌++◌, List, [], ◌∷◌, map, length, length-append, get_or, slice_range, ℤ, pos, ◌+ℤ◌, ◌<ℤ◌, All, refl, ap, ap₂, sym, subst, subst₂, arith, inl, inr}
use Rattle.std.specs.List.{range_with_len}
use Rattle.std.proofs.lemmas.Bool.{cases_lt, cases_eq}
use Rattle.std.proofs.lemmas.Int.{ints}
use Rattle.std.proofs.lemmas.List.{get_or_append_left}
use Rattle.std.proofs.lemmas.List.Elements.{All-map}
use Rattle.std.proofs.Math.Seq.{get_or-append_seam}
use Rattle.i_shape.specs.Point.{Point}
use Rattle.i_shape.specs.Filling.{IsFilled}
use Rattle.i_shape_core.specs.declared.measure.fill_rule.FillRule.{FillRule}
use Rattle.i_shape_core.specs.declared.measure.fill_rule.FillRule.TheVariants.{EvenOdd, NonZero, Positive, Negative}
use Rattle.i_shape_core.proofs.Common.{sum_of, winding}
use Rattle.i_shape_core.proofs.Lists.Rings.{rises_to}
use Rattle.i_shape_contacts.specs.Steps.Boxes.{Holds, AreApart}
use Rattle.i_shape_contacts.specs.declared.boxes.Bounds.{Bounds}
use Rattle.i_shape_contacts.proofs.Outside.{winding_apart}
use Rattle.i_shape_c.specs.Batch.{offset, nth_contour, PartsPoints}
use Rattle.i_shape_c.specs.Polygons.{PolygonArrays, PartsPolygons}
use Rattle.i_shape_c.specs.Validity.{polygon_offsets}
use Rattle.i_shape_c.specs.Windings.{contours_winding}
use Rattle.i_shape_c.specs.Holders.{DoesHold, polygon_points, AreBoxes}
use Rattle.i_shape_c.proofs.Appended.{offset_part, length_part, parted_part}
use Rattle.i_shape_c.proofs.Batches.{all_part}

-- no rule fills a point about which nothing winds
nothing_filled : (rule : FillRule) → IsFilled rule (pos 0) → ⊥
nothing_filled EvenOdd odd = let one : 0 ≡ 1 = odd in omega (arith, one)
nothing_filled NonZero some = some refl
nothing_filled Positive more = let above : pos 0 <ℤ pos 0 = more in omega (arith, ints)
nothing_filled Negative less = let below : pos 0 <ℤ pos 0 = less in omega (arith, ints)

-- if f is 0 at each number of the range, its sum over the range is 0
sum_of_nothing : (f : ℕ → ℤ) (a n : ℕ) → ((k : ℕ) → a ≤ k → k < a + n → f k ≡ pos 0) → sum_of f (range_with_len a n) ≡ pos 0
sum_of_nothing f a zero none = refl
sum_of_nothing f a (suc n) none =
    ap₂ (λ x y. x +ℤ y) (none a (omega arith) (omega arith)) (sum_of_nothing f (a + 1) n (λ k h l. none k (omega (arith, h)) (omega (arith, l))))

-- what follows for each item follows for all
pub all_follow : {X : Type 0} (P Q : X → Type 0) (xs : List X) → ((x : X) → P x → Q x) → All P xs → All Q xs
all_follow P Q xs follows all = λ k d h. follows (get_or xs k d) (all k d h)

-- anything holds of each of no items
pub none_of : {X : Type 0} (Q : X → Type 0) (xs : List X) → length xs ≡ 0 → All Q xs
none_of Q xs none = λ k d h. absurd (omega (arith, none, h))

module _ {P I : Type 0} (value : I → ℤ) (point : P → Point) (given : PolygonArrays P) (k : ℕ) where
  -- one box more
  pub boxes_more : (boxes : List (Bounds I)) (b : Bounds I) → length boxes ≡ k → AreBoxes value point given boxes → All (λ q. Holds value b (point q)) (polygon_points given k) → AreBoxes value point given (boxes ++ b ∷ [])
  boxes_more boxes b count are here = λ j d less. elim (cases_lt j (length boxes)) [
    | inl before ↦ subst (λ (x : Bounds I). All (λ q. Holds value x (point q)) (polygon_points given j)) (sym (get_or_append_left boxes (b ∷ []) d j before)) (are j d before)
    | inr more ↦
        let long : length (boxes ++ b ∷ []) ≡ length boxes + 1 = length-append boxes (b ∷ []) in
        let last : j ≡ length boxes = omega (arith, less, more, long) in
        subst₂ (λ (x : Bounds I) (i : ℕ). All (λ q. Holds value x (point q)) (polygon_points given i)) (sym (ap (λ i. get_or (boxes ++ b ∷ []) i d) last ∙ get_or-append_seam boxes b [] d)) (sym (last ∙ count)) here
  ]

  module _ (n : ℕ) (parted : PartsPolygons n given.contours given.shapes) (less : k + 1 < length given.shapes) where
    abbrev own : List ℕ
    own = polygon_offsets given.contours given.shapes k

    -- its offsets lie there
    pub lies_in : (offset given.shapes k ≤ offset given.shapes (k + 1)) × (offset given.shapes (k + 1) < length given.contours)
    lies_in =
        let last = rises_to given.shapes (length given.shapes) (k + 1) (length given.shapes - 1) parted.shapes_parted.order (omega (arith, less)) (omega (arith, less)) in
        (parted.shapes_parted.order k less, omega (arith, last, parted.shapes_parted.last, parted.contours_parted.some))

    -- they divide the points
    pub offsets_parted : PartsPoints n own
    offsets_parted =
        let in_all = lies_in in
        parted_part given.contours (offset given.shapes k) (offset given.shapes (k + 1) + 1) n parted.contours_parted (omega (arith, in_all.0)) (omega (arith, in_all.1))

    -- what holds of the polygon's points holds of those between the first of its offsets and the last
    all_own : (Q : P → Type 0) → All Q (polygon_points given k) → All Q (slice_range given.points (offset own 0) (offset own (length own - 1)))
    all_own Q all =
        let in_all = lies_in in
        let a = offset given.shapes k in
        let b = offset given.shapes (k + 1) in
        let count = length_part given.contours a (b + 1) (omega (arith, in_all.0)) (omega (arith, in_all.1)) in
        let first : offset own 0 ≡ offset given.contours a = offset_part given.contours a (b + 1) 0 (omega (arith, in_all.0)) ∙ ap (offset given.contours) (let e : a + 0 ≡ a = omega arith in e) in
        let end : a + (length own - 1) ≡ b = omega (arith, count, in_all.0) in
        let last : offset own (length own - 1) ≡ offset given.contours b = offset_part given.contours a (b + 1) (length own - 1) (omega (arith, end)) ∙ ap (offset given.contours) end in
        subst₂ (λ (i j : ℕ). All Q (slice_range given.points i j)) (sym first) (sym last) all

    -- a polygon holds no point beside its box
    pub not_held : (rule : FillRule) (b c : Bounds I) (p : Point) → Holds value b p → All (λ q. Holds value c (point q)) (polygon_points given k) → AreApart value b c → DoesHold point rule given p k → ⊥
    not_held rule b c p here all apart held = nothing_filled rule (subst (IsFilled rule) none held)
      where
        ring : (j : ℕ) → j + 1 < length own → winding (map point (nth_contour given.points own j)) p ≡ pos 0
        ring j within = winding_apart value b c p (map point (nth_contour given.points own j)) here
            (All-map (Holds value c) point (nth_contour given.points own j) (all_part (λ q. Holds value c (point q)) given.points own j (j + 1) offsets_parted.order (omega arith) within (all_own (λ q. Holds value c (point q)) all))) apart

        none : contours_winding point given.points own p ≡ pos 0
        none = sum_of_nothing (λ j. winding (map point (nth_contour given.points own j)) p) 0 (length own - 1) (λ j h l. ring j (omega (arith, l)))

-- one number more of which something doesn't hold
pub none_more : (Q : ℕ → Type 0) (k place next : ℕ) → k + 1 ≡ place → next ≡ place + 1 → ((j : ℕ) → j + 1 < place → Q j → ⊥) → (Q k → ⊥) → (j : ℕ) → j + 1 < next → Q j → ⊥
none_more Q k place next is more before here j less held = elim (cases_eq j k) [
  | inl e ↦ here (subst Q e held)
  | inr n ↦ before j (omega (arith, less, more, is, n)) held
]
