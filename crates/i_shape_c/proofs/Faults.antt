-- A polygon's own offsets, rebased to 0, and its first fault among those of many polygons.
use Rattle.std.proofs.Common.{◌≡◌, ◌∙◌, All, ℕ, ℤ, ◌+◌, ◌-◌, ◌<◌, ◌≤◌, List, [], ◌∷◌, ◌++◌, length, map, take, set, slice_range, refl, ap, ap₂, sym, subst₂, arith}
use Rattle.std.proofs.lemmas.List.{get_or-map, length-map, take_all, take_more, take_more_set}
use Rattle.std.specs.Int.{Width}
use Rattle.i_shape.specs.Point.{Point}
use Rattle.i_shape.specs.IntPoint.{contour_of, point_of}
use Rattle.i_shape.specs.IntPoints.{IntPoint}
use Rattle.i_shape_core.proofs.Lists.Rings.{rises_to}
use Rattle.i_shape_contacts.specs.Courses.{DividesPoints}
use Rattle.i_shape_c.specs.Batch.{offset, PartsPoints}
use Rattle.i_shape_c.specs.Validity.{rebased, points_between, IsPlacedFault}
use Rattle.i_shape_c.specs.declared.validity.Fault.{Fault}
use Rattle.i_shape_c.proofs.Appended.{parted_part, offset_part, length_part}
use Rattle.i_shape_c.proofs.Batches.{all_part}
use Rattle.i_shape_c.proofs.Boundary.{copied_points}
use Rattle.i_shape_c.proofs.RingsMoved.{map_part}

-- each rebased offset is the offset less the first
pub offset_rebased : (offsets : List ℕ) (k : ℕ) → k < length offsets → offset (rebased offsets) k ≡ offset offsets k - offset offsets 0
offset_rebased offsets k less = get_or-map (λ o. o - offset offsets 0) offsets k 0 0 less

-- rebasing keeps the number of offsets
pub length_rebased : (offsets : List ℕ) → length (rebased offsets) ≡ length offsets
length_rebased offsets = length-map offsets (λ o. o - offset offsets 0)

-- writing rebased offset k extends the first k to k + 1
pub rebased_more : (offsets own : List ℕ) (k x : ℕ) → k < length offsets → k < length own → take k own ≡ take k (rebased offsets) → x ≡ offset offsets k - offset offsets 0 → take (k + 1) (set own k x) ≡ take (k + 1) (rebased offsets)
rebased_more offsets own k x less room before is =
    take_more_set own k x room ∙ ap₂ (λ (l : List ℕ) (y : ℕ). l ++ y ∷ []) before (is ∙ sym (offset_rebased offsets k less)) ∙ sym (take_more (rebased offsets) k 0 (let many = length_rebased offsets in omega (arith, less, many)))

-- at the end all rebased offsets are written
pub rebased_all : (offsets own : List ℕ) (n : ℕ) → length offsets ≤ n → take n own ≡ take n (rebased offsets) → take n own ≡ rebased offsets
rebased_all offsets own n most is = is ∙ take_all n (rebased offsets) (let many = length_rebased offsets in omega (arith, most, many))

-- rebased offsets divide the points between the first and the last offset
pub rebased_divides : (offsets : List ℕ) (points n : ℕ) → PartsPoints points offsets → n + offset offsets 0 ≡ offset offsets (length offsets - 1) → DividesPoints n (rebased offsets)
rebased_divides offsets points n parted count =
    let many = length_rebased offsets in
    let some = parted.some in
    record {
      divides = record {
        some = omega (arith, many, some);
        first = (let e = offset_rebased offsets 0 some in omega (arith, e));
        order = λ k h.
            let less : k + 1 < length offsets = omega (arith, h, many) in
            let low = offset_rebased offsets k (omega (arith, less)) in
            let high = offset_rebased offsets (k + 1) less in
            let up = parted.order k less in
            omega (arith, low, high, up);
      };
      all =
          (let last : length (rebased offsets) - 1 ≡ length offsets - 1 = omega (arith, many) in
          let e = offset_rebased offsets (length offsets - 1) (omega (arith, some)) in
          ap (offset (rebased offsets)) last ∙ e ∙ (let d : offset offsets (length offsets - 1) - offset offsets 0 ≡ n = omega (arith, count) in d));
    }

module _ {P I : Type 0} (width : Width) (value : I → ℤ) (to : P → IntPoint I) where
  -- the points that are read of those between the first offset and the last are the polygon's
  pub points_read : (points given : List P) (copy : List (IntPoint I)) (offsets : List ℕ) → copy ≡ map to given → given ≡ slice_range points (offset offsets 0) (offset offsets (length offsets - 1)) → contour_of value copy ≡ points_between (map (λ p. point_of value (to p)) points) offsets
  points_read points given copy offsets is part =
      let at = λ (p : P). point_of value (to p) in
      copied_points width value to given copy is ∙ ap (map at) part ∙ map_part at points (offset offsets 0) (offset offsets (length offsets - 1))

-- a fault of a polygon's own offsets and points is its fault among all, at shifted indices
pub fault_placed : {V : Type 0} (IsFirst : List ℕ → List Point → V → Type 0) (place : ℕ → ℕ → V → Fault) (points own_points : List Point) (offsets own : List ℕ) (contour : ℕ) (validity : V)
    → own ≡ rebased offsets → own_points ≡ points_between points offsets → IsFirst own own_points validity → IsPlacedFault IsFirst place points offsets contour (place contour (offset offsets 0) validity)
fault_placed IsFirst place points own_points offsets own contour validity less part first = record { validity = validity; first = subst₂ (λ (l : List ℕ) (c : List Point). IsFirst l c validity) less part first; is = refl }

-- The offsets of the contours of polygon `place` - 1.
module _ (contours shapes : List ℕ) (points place : ℕ) (contours_parted : PartsPoints points contours) (shapes_parted : PartsPoints (length contours - 1) shapes) (some : 0 < place) (less : place < length shapes) where
  abbrev own_offsets : List ℕ
  own_offsets = slice_range contours (offset shapes (place - 1)) (offset shapes place + 1)

  -- they lie within the offsets of all contours
  pub within : (offset shapes (place - 1) ≤ offset shapes place) × (offset shapes place < length contours)
  within =
      let last = rises_to shapes (length shapes) place (length shapes - 1) shapes_parted.order (omega (arith, less)) (omega (arith, less)) in
      (rises_to shapes (length shapes) (place - 1) place shapes_parted.order (omega arith) less, omega (arith, last, shapes_parted.last, contours_parted.some))

  -- they divide the points
  pub own_parted : PartsPoints points own_offsets
  own_parted = let in_all = within in parted_part contours (offset shapes (place - 1)) (offset shapes place + 1) points contours_parted (omega (arith, in_all.0)) (omega (arith, in_all.1))

  -- if Q holds of all points, it holds of the polygon's points
  pub own_points : {P : Type 0} (Q : P → Type 0) (list : List P) → All Q (slice_range list (offset contours 0) (offset contours (length contours - 1))) → All Q (slice_range list (offset own_offsets 0) (offset own_offsets (length own_offsets - 1)))
  own_points Q list all =
      let in_all = within in
      let a = offset shapes (place - 1) in
      let b = offset shapes place in
      let count = length_part contours a (b + 1) (omega (arith, in_all.0)) (omega (arith, in_all.1)) in
      let first : offset own_offsets 0 ≡ offset contours a = offset_part contours a (b + 1) 0 (omega (arith, in_all.0)) ∙ ap (offset contours) (let e : a + 0 ≡ a = omega arith in e) in
      let end : a + (length own_offsets - 1) ≡ b = omega (arith, count, in_all.0) in
      let last : offset own_offsets (length own_offsets - 1) ≡ offset contours b = offset_part contours a (b + 1) (length own_offsets - 1) (omega (arith, end)) ∙ ap (offset contours) end in
      subst₂ (λ (i j : ℕ). All Q (slice_range list i j)) (sym first) (sym last) (all_part Q list contours a b contours_parted.order in_all.0 in_all.1 all)
