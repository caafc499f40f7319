-- Contours in one array of points, divided by offsets.
use Rattle.std.proofs.Common.{◌≡◌, ◌↔◌, inl, inr, ℕ, ℤ, ◌+◌, ◌-◌, ◌≤◌, ◌<◌, List, map, length, take, drop, slice_range, ap, sym, subst, ◌∙◌, arith, All, Result, Ok, Err, IsOk, IfOk, OnErr}
use Rattle.std.specs.Int.{Width}
use Rattle.std.proofs.lemmas.Bool.{cases_lt}
use Rattle.std.proofs.lemmas.List.{take-take, drop-take, drop-drop, length-map}
use Rattle.std.proofs.lemmas.List.Elements.{All-take, All-drop}
use Rattle.i_shape_core.proofs.Common.{Point, point_of, contour_of, IsSafe}
use Rattle.i_shape.specs.Reading.{read}
use Rattle.i_shape.specs.IntPoints.{IntPoint}
use Rattle.i_shape.specs.Rings.{AreSafeRings, HaveRoom, CleansRing, AreCleanedRings}
use Rattle.i_shape_core.proofs.Lists.Rings.{rises_to}
use Rattle.i_shape_c.specs.Cleaned.{AreSafe, TakesNoMemory}
use Rattle.i_shape.specs.Cleaning.{Cleaning}
use Rattle.i_shape_c.specs.Places.{AreGoodOffsets, IsFirstBadOffset}
use Rattle.i_shape_c.specs.Batch.{contour_arrays, offset, nth_contour, AreRising, PartsPoints, AreSafeContours, AreSpared, IsCleanedBatch}
use Rattle.i_shape_c.proofs.Boundary.{copied_points, safe_contour}

-- if Q holds, it holds of a call that fails
pub on_err : {T E Q : Type 0} (r : Result T E) → Q → OnErr r Q
on_err (Ok t) q = tt
on_err (Err e) q = q

-- if P implies Q, a success with P has Q
pub if_ok : {T E : Type 0} {P Q : T → Type 0} (r : Result T E) → ((t : T) → P t → Q t) → IfOk r P → IfOk r Q
if_ok (Ok t) follows p = follows t p
if_ok (Err e) follows p = tt

-- if Q implies that a call succeeds, Q is false of a call that fails
pub unless_ok : {T E Q : Type 0} (r : Result T E) → (Q → IsOk r) → OnErr r (Q → ⊥)
unless_ok (Ok t) ok = tt
unless_ok (Err e) ok = λ q. let told = ok q in cc

-- the first n offsets are good, and `before` is the last of them, 0 if n is 0
pub record AreRead (points : ℕ) (offsets : List ℕ) (n before : ℕ) : Type 0 where
  pub good : AreGoodOffsets points offsets n
  pub start : n ≡ 0 → before ≡ 0
  pub last : (k : ℕ) → k + 1 ≡ n → before ≡ offset offsets k

-- a good offset extends the good ones
pub read_more : (points : ℕ) (offsets : List ℕ) (n before : ℕ) → AreRead points offsets n before → before ≤ offset offsets n → offset offsets n ≤ points → AreRead points offsets (n + 1) (offset offsets n)
read_more points offsets n before read up most = record {
  good = record {
    order = λ k less. elim (cases_lt (k + 1) n) [
      | inl below ↦ read.good.order k below
      | inr above ↦ let here : k + 1 ≡ n = omega (arith, less, above) in omega (arith, read.last k here, up, ap (offset offsets) here)
    ];
    most = λ k less. elim (cases_lt k n) [
      | inl below ↦ read.good.most k below
      | inr above ↦ let here : k ≡ n = omega (arith, less, above) in omega (arith, most, ap (offset offsets) here)
    ];
  };
  start = λ none. absurd (omega (arith, none));
  last = λ k is. let here : n ≡ k = omega (arith, is) in ap (offset offsets) here;
}

-- an offset below the one before it makes the offsets bad
pub bad_back : (points : ℕ) (offsets : List ℕ) (n before : ℕ) → AreRead points offsets n before → offset offsets n < before → AreGoodOffsets points offsets (n + 1) → ⊥
bad_back points offsets n before read back good = elim (cases_lt 0 n) [
  | inl some ↦ let here : n - 1 + 1 ≡ n = omega (arith, some) in let up = good.order (n - 1) (omega (arith, some)) in omega (arith, up, ap (offset offsets) here, read.last (n - 1) here, back)
  | inr none ↦ let start = read.start (omega (arith, none)) in omega (arith, start, back)
]

-- offsets divide the points exactly if none of them is bad
pub parted_by : (points : ℕ) (offsets : List ℕ) (place : ℕ) → IsFirstBadOffset points offsets place → 0 < length offsets → (place ≡ length offsets) ↔ PartsPoints points offsets
parted_by points offsets place first some = (all_good, none_bad)
  where
    all_good : place ≡ length offsets → PartsPoints points offsets
    all_good is = let good = subst (AreGoodOffsets points offsets) is first.before in record { some = some; order = good.order; last = good.most (length offsets - 1) (omega (arith, some)) }

    none_bad : PartsPoints points offsets → place ≡ length offsets
    none_bad parted = elim (cases_lt place (length offsets)) [
      | inl less ↦ absurd (first.here less (record {
        order = λ k below. parted.order k (omega (arith, below, less));
        most = λ k below. let up = rises_to offsets (length offsets) k (length offsets - 1) parted.order (omega (arith, below, less)) (omega (arith, some)) in omega (arith, up, parted.last);
      }))
      | inr more ↦ omega (arith, more, first.within)
    ]

-- a part of xs is a part of a longer part of xs
inner_part : {X : Type 0} (xs : List X) (a b c d : ℕ) → a ≤ b → b ≤ c → c ≤ d → slice_range xs b c ≡ take (c - b) (drop (b - a) (slice_range xs a d))
inner_part xs a b c d ab bc cd =
    let up : a + (b - a) ≡ b = omega (arith, ab) in
    let fit : (b - a) + (c - b) ≤ d - a = omega (arith, ab, bc, cd) in
    let behind : drop b xs ≡ drop (b - a) (drop a xs) = subst (λ k. drop k xs ≡ drop (b - a) (drop a xs)) up (sym (drop-drop (b - a) a xs)) in
    ap (take (c - b)) behind ∙ sym (drop-take (b - a) (c - b) (drop a xs)) ∙ ap (drop (b - a)) (sym (take-take ((b - a) + (c - b)) (d - a) (drop a xs) fit)) ∙ drop-take (b - a) (c - b) (take (d - a) (drop a xs))

-- if Q holds of all points, it holds of the points of each range of contours
pub all_part : {P : Type 0} (Q : P → Type 0) (points : List P) (offsets : List ℕ) (a b : ℕ) → AreRising offsets (length offsets) → a ≤ b → b < length offsets
    → All Q (slice_range points (offset offsets 0) (offset offsets (length offsets - 1))) → All Q (slice_range points (offset offsets a) (offset offsets b))
all_part Q points offsets a b order less within all =
    let low = rises_to offsets (length offsets) 0 a order (omega arith) (omega (arith, less, within)) in
    let mid = rises_to offsets (length offsets) a b order less within in
    let high = rises_to offsets (length offsets) b (length offsets - 1) order (omega (arith, within)) (omega (arith, within)) in
    rw (inner_part points (offset offsets 0) (offset offsets a) (offset offsets b) (offset offsets (length offsets - 1)) low mid high)
    (All-take Q _ _ (All-drop Q _ _ all))

-- if all points are safe, so are those of each range of contours
pub safe_part : {P : Type 0} (width : Width) (point : P → Point) (points : List P) (offsets : List ℕ) (a b : ℕ) → AreRising offsets (length offsets) → a ≤ b → b < length offsets
    → AreSafeContours width point points offsets → AreSafe width point (slice_range points (offset offsets a) (offset offsets b))
safe_part width point points offsets a b order less within safe = all_part (λ p. IsSafe width (point p)) points offsets a b order less within safe

module _ {P I : Type 0} (width : Width) (value : I → ℤ) (to : P → IntPoint I) (copy : List P → List (IntPoint I)) (is : (list : List P) → copy list ≡ map to list) where
  -- the point that a point of C represents
  abbrev at : P → Point
  at p = point_of value (to p)

  -- copying a list and reading it returns the points that the list represents
  pub same : (list : List P) → contour_of value (copy list) ≡ map at list
  same list = copied_points width value to list (copy list) (is list)

  -- if all points are safe, so are the copied points of each contour
  pub safe_rings : (points : List P) (offsets : List ℕ) → AreRising offsets (length offsets) → AreSafeContours width at points offsets → AreSafeRings width (read value copy) points offsets
  safe_rings points offsets order safe k less =
      let part = nth_contour points offsets k in
      safe_contour width value to part (copy part) (is part) (safe_part width at points offsets k (k + 1) order (omega arith) less safe)

  -- contours that a cleaner leaves are cleaned
  pub cleaned_batch : (cleaning : Cleaning) (points : List P) (offsets : List ℕ) (old_points new_points : List P) (old_offsets new_offsets : List ℕ) (n : ℕ)
      → AreCleanedRings (CleansRing cleaning width (read value copy)) (contour_arrays points offsets) (contour_arrays old_points old_offsets) (contour_arrays new_points new_offsets) n
      → IsCleanedBatch cleaning width at (contour_arrays points offsets) (contour_arrays old_points old_offsets) (contour_arrays new_points new_offsets) n
  cleaned_batch cleaning points offsets old_points new_points old_offsets new_offsets n left = record {
    first = left.first;
    order = left.order;
    last = left.last;
    fewer = left.fewer;
    cleaned = λ k less. rw (← same (nth_contour points offsets k), ← same (nth_contour new_points new_offsets k)) (left.cleaned k less).cleaned;
    rest = left.rest;
    offsets_rest = left.offsets_rest;
  }

  -- if contours need no memory, there is room for each that isn't clean
  pub have_room : (fewest : ℕ) (Clean : List Point → Type 0) (room : ℕ → Type 0) → ((n : ℕ) → n < fewest → room n) → (points : List P) (offsets : List ℕ) → AreSpared (TakesNoMemory fewest Clean) at points offsets
      → HaveRoom Clean (read value copy) room points offsets (length offsets)
  have_room fewest Clean room spares points offsets none k less unclean =
      let contour = nth_contour points offsets k in
      elim (none k less) [
        | inl few ↦ spares (length contour) (omega (arith, few, length-map contour at))
        | inr clean ↦ absurd (unclean (rw (same contour) clean))
      ]
