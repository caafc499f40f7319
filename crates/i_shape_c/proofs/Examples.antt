-- The definitions that the calls' clauses cite, at literal values.
use Rattle.std.proofs.Common.{◌≡◌, ◌<◌, ◌≤◌, ◌+◌, ℕ, ℤ, List, [], ◌∷◌, ◌++◌, length, map, pos, negsuc, refl, sym, ap, ◌∙◌, ◌-◌, ◌^◌, zero, suc, lit≤, lit<, inl, inr, arith, Option, Some, None, FitsSigned}
use Rattle.std.specs.Int.{w16, w32, w128, cast_unsigned}
use Rattle.std.proofs.lemmas.Int.{int_wrap_fits, ints}
use Rattle.i_shape.specs.Point.{Point, cross, dot}
use Rattle.i_shape.specs.Edges.{shoelace, area_of_edge, Inside, is_right}
use Rattle.i_shape.specs.ShapeAnswers.{ListClean}
use Rattle.i_shape.specs.Winding.{winding, winding_of_edge}
use Rattle.i_shape.specs.Written.{slot, IsCleaned}
use Rattle.i_shape_core.specs.declared.measure.fill_rule.FillRule.TheVariants.{EvenOdd, NonZero}
use Rattle.i_shape_c.specs.Areas.{AreHalves, AreDoubleAreaHalves, IsDoubleArea}
use Rattle.i_shape_c.specs.Batch.{contour_arrays, nth_contour, AreRising, PartsPoints, HasRoom, AreSafeContours, AreSpared, BatchAnswer, CleansContours}
use Rattle.i_shape.specs.Cleaning.{Cleaning}
use Rattle.i_shape_c.specs.Cleaned.{AreSafe, TakesNoMemory, CleanAnswer, CleansContour}
use Rattle.i_shape_c.specs.Codes.{code_of, IsRefusal, Refuses}
use Rattle.i_shape_c.specs.Compacted.{Indices, CompactsShapes}
use Rattle.i_shape_c.specs.Locations.{rule_of, IsFilledByte, FillsAnswer, FillsPoint, IsLocated, query, TellsEach}
use Rattle.i_shape_c.specs.Measures.{IsByteOf, MeasuresEach, TestsEach}
use Rattle.i_shape_c.specs.Places.{IsFirstUnsafe, IsFirstBadOffset}
use Rattle.i_shape_c.specs.Polygons.{parts, polygons, offsets_of, PartsPolygons, HasShapesRoom, HaveNoContours, ShapesAnswer, PolygonCleaning, CleansPolygons, polygon_arrays}
use Rattle.i_shape_c.specs.Tests.{IsTold, TestAnswer, TestsContour, TestsPoint}
use Rattle.i_shape_c.specs.Windings.{contours_winding, WindingsAnswer, WindsAbout, WindsAboutEach}
use Rattle.i_shape_c.specs.declared.codes.Refusal.TheVariants.{Unsafe, BadOffsets, NoMemory, NoRoom}

abbrev at : ℕ → ℕ → Point
at x y = record { x = pos x; y = pos y }

abbrev self : Point → Point
self p = p

abbrev box : List Point
box = at 0 0 ∷ at 10 0 ∷ at 10 10 ∷ at 0 10 ∷ []

-- the first test that fails decides the code; the code for memory comes only if the call isn't spared
refusals : (code_of Unsafe ≡ negsuc 0) × (code_of BadOffsets ≡ negsuc 1) × (code_of NoMemory ≡ negsuc 2) × (code_of NoRoom ≡ negsuc 3)
    × IsRefusal ⊥ ⊥ ⊥ (Some BadOffsets) × (IsRefusal ⊥ ⊥ ⊥ (Some NoRoom) → ⊥) × (IsRefusal (Unit {0}) ⊥ ⊥ (Some Unsafe) → ⊥) × (Refuses (Unit {0}) (Unit {0}) (Unit {0}) (Unit {0}) (code_of NoMemory) → ⊥)
refusals = (refl, refl, refl, refl, λ parted. parted, λ why. why.0, λ why. why.1, λ why. why.memory refl tt)

-- no code is returned if the offsets divide the points, there is room, and the points are safe
accepted : {Parted Room Safe Spared : Type 0} → (n : ℕ) → Parted → Room → Safe → Refuses Parted Room Safe Spared (pos n)
accepted n parted room safe = record {
  bad_offsets = (λ is. absurd (cc), λ bad. absurd (bad parted));
  no_room = (λ is. absurd (cc), λ less. absurd (less.1 room));
  unsafe_points = (λ is. absurd (cc), λ unsafe. absurd (unsafe.2 safe));
  memory = λ is. absurd (cc);
}

-- points before the first offset or from the last on belong to no part; equal offsets give an empty part
parted : (parts {P = ℕ} (1 ∷ 2 ∷ 3 ∷ 4 ∷ 5 ∷ []) (1 ∷ 3 ∷ 3 ∷ 4 ∷ []) ≡ (2 ∷ 3 ∷ []) ∷ [] ∷ (4 ∷ []) ∷ []) × (parts {P = ℕ} (1 ∷ 2 ∷ []) (1 ∷ []) ≡ [])
    × (polygons {P = ℕ} (1 ∷ 2 ∷ 3 ∷ []) (0 ∷ 1 ∷ 1 ∷ 3 ∷ []) (0 ∷ 2 ∷ 2 ∷ 3 ∷ []) ≡ ((1 ∷ []) ∷ [] ∷ []) ∷ [] ∷ ((2 ∷ 3 ∷ []) ∷ []) ∷ [])
    × (offsets_of {P = ℕ} 0 ((1 ∷ 2 ∷ []) ∷ [] ∷ (3 ∷ []) ∷ []) ≡ 0 ∷ 2 ∷ 2 ∷ 3 ∷ []) × (offsets_of {P = ℕ} 0 [] ≡ 0 ∷ [])
parted = (refl, refl, refl, refl, refl)

one_offset : {points k : ℕ} → k ≤ points → PartsPoints points (k ∷ [])
one_offset most = record { some = lit< tt; order = λ k less. absurd (omega (arith, less)); last = most }

three_offsets : {points i j k : ℕ} → i ≤ j → j ≤ k → k ≤ points → PartsPoints points (i ∷ j ∷ k ∷ [])
three_offsets {i} {j} {k} first second most = record { some = lit< tt; order = order; last = most }
  where
    order : AreRising (i ∷ j ∷ k ∷ []) 3
    order zero less = first
    order (suc zero) less = second
    order (suc (suc n)) less = absurd (omega (arith, less))

not_parted : PartsPoints 4 (4 ∷ []) × (PartsPoints 5 [] → ⊥) × (PartsPoints 4 (0 ∷ 5 ∷ []) → ⊥) × (PartsPoints 5 (3 ∷ 0 ∷ []) → ⊥) × (PartsPolygons 4 (4 ∷ []) (0 ∷ 1 ∷ []) → ⊥)
not_parted = (one_offset (lit≤ tt), λ p. omega (arith, p.some), λ p. omega (arith, p.last), λ p. omega (arith, p.order 0 (lit< tt)), λ p. omega (arith, p.shapes_parted.last))

room : HasRoom 3 2 3 2 × (HasRoom 3 2 2 2 → ⊥) × (HasRoom 3 2 3 1 → ⊥) × (HasShapesRoom 3 2 2 3 2 1 → ⊥)
room = (record { points_room = lit≤ tt; offsets_room = lit≤ tt }, λ r. omega (arith, r.points_room), λ r. omega (arith, r.offsets_room), λ r. omega (arith, r.shapes_room))

first_bad : IsFirstBadOffset 5 (6 ∷ []) 0 × (IsFirstBadOffset 5 (6 ∷ []) 1 → ⊥) × (IsFirstBadOffset 5 (3 ∷ 2 ∷ []) 2 → ⊥)
first_bad = (
  record { within = lit≤ tt; before = record { order = λ k less. absurd (omega (arith, less)); most = λ k less. absurd (omega (arith, less)) }; here = λ less good. omega (arith, good.most 0 (lit< tt)) },
  λ bad. omega (arith, bad.before.most 0 (lit< tt)),
  λ bad. omega (arith, bad.before.order 0 (lit< tt)),
)

abbrev far : List Point
far = at 5 5 ∷ at 0 1073741824 ∷ []

one_safe : AreSafe w32 self (at 5 5 ∷ [])
one_safe k d less = let first : k ≡ 0 = omega (arith, less) in rw first ((omega arith, omega arith), (omega arith, omega arith))

first_unsafe : IsFirstUnsafe w32 self far 1 × (IsFirstUnsafe w32 self far 2 → ⊥) × AreSafeContours w32 self far (0 ∷ 1 ∷ [])
first_unsafe = (record { within = lit≤ tt; before = one_safe; here = λ less all. beyond all }, λ first. beyond first.before, one_safe)
  where
    beyond : AreSafe w32 self far → ⊥
    beyond all = omega (arith, (all 1 (at 0 0) (lit< tt)).1.1)

none_unsafe : AreSafe w32 self []
none_unsafe k d less = absurd (omega (arith, less))

abbrev Spares : List Point → Type 0
Spares = TakesNoMemory 3 (λ c. ⊥)

spared : Spares (at 1 1 ∷ at 1 1 ∷ []) × (Spares box → ⊥) × AreSpared Spares self box (0 ∷ 2 ∷ []) × (AreSpared Spares self box (0 ∷ 4 ∷ []) → ⊥)
spared = (inl (lit< tt), long, λ k less. let first : k ≡ 0 = omega (arith, less) in rw first (inl (lit< tt)), λ each. long (each 0 (lit< tt)))
  where
    long : TakesNoMemory 3 (λ c. ⊥) box → ⊥
    long (inl few) = omega (arith, few)
    long (inr never) = never

-- cleaning in which each contour is its own answer
abbrev Stays : List Point → Option (List Point) → Type 0
Stays c r = r ≡ slot c

abbrev staying : Cleaning
staying = record { clean = λ c. ⊥; answers = Stays; keeps = Stays; picks = λ P given left. given ≡ left; fewest = 3 }

abbrev Answer : List Point → List Point → List Point → ℤ → Type 0
Answer = CleanAnswer staying w32 self

one_cleaned : Answer [] box box (pos 0) × (Answer [] box [] (pos 0) → ⊥) × (Answer box box (at 9 9 ∷ box) (pos 4) → ⊥) × (Answer box box box (negsuc 4) → ⊥) × (Answer box [] box (negsuc 0) → ⊥)
one_cleaned = (record { fewer = lit≤ tt; picked = refl; cleaned = record { answer = refl; kept = refl; safe = tt }; rest = refl }, λ w. cc, λ w. cc, λ w. omega (arith, w.0), λ w. cc)

cleans_one : CleansContour staying w32 self [] box box (pos 0) × (CleansContour staying w32 self [] box box (negsuc 2) → ⊥)
cleans_one = (record { answer = one_cleaned.0; refuses = accepted 0 tt (lit≤ tt) none_unsafe }, λ c. c.refuses.memory refl (inl (lit< tt)))

abbrev Batch : List ℕ → ℤ → Type 0
Batch new = BatchAnswer staying w32 self (contour_arrays [] (0 ∷ 0 ∷ [])) (contour_arrays [] (9 ∷ 9 ∷ 9 ∷ [])) (contour_arrays [] new)

cleans_many : CleansContours staying w32 self (contour_arrays [] (0 ∷ [])) (contour_arrays [] (9 ∷ [])) (contour_arrays [] (0 ∷ [])) (pos 0) × (CleansContours staying w32 self (contour_arrays [] (0 ∷ [])) (contour_arrays [] (9 ∷ [])) (contour_arrays [] (9 ∷ [])) (negsuc 2) → ⊥)
cleans_many = (record { answer = record { first = refl; order = λ k less. absurd (omega (arith, less)); last = refl; fewer = lit≤ tt; cleaned = λ k less. absurd (omega (arith, less)); rest = refl; offsets_rest = refl }; refuses = accepted 0 (one_offset (lit≤ tt)) (record { points_room = lit≤ tt; offsets_room = lit≤ tt }) none_unsafe }, λ c. c.refuses.memory refl (λ k less. absurd (omega (arith, less))))

each_cleaned : Batch (0 ∷ 0 ∷ 9 ∷ []) (pos 0) × (Batch (9 ∷ 9 ∷ 9 ∷ []) (pos 0) → ⊥) × (Batch (0 ∷ 0 ∷ 0 ∷ []) (pos 0) → ⊥) × (Batch (0 ∷ 0 ∷ 9 ∷ []) (negsuc 0) → ⊥)
each_cleaned = (record { first = refl; order = order; last = refl; fewer = lit≤ tt; cleaned = cleaned; rest = refl; offsets_rest = refl }, λ w. cc, λ w. cc, λ w. cc)
  where
    order : AreRising (0 ∷ 0 ∷ 9 ∷ []) 2
    order k less = let first : k ≡ 0 = omega (arith, less) in rw first (lit≤ tt)

    cleaned : (k : ℕ) → k + 1 < 2 → IsCleaned staying w32 (map self (nth_contour [] (0 ∷ 0 ∷ []) k)) (slot (map self (nth_contour [] (0 ∷ 0 ∷ 9 ∷ []) k)))
    cleaned k less = let first : k ≡ 0 = omega (arith, less) in rw first (record { answer = refl; kept = refl; safe = tt })

-- of no polygons none is left: both lists of offsets are 0 alone
abbrev none_given : PolygonCleaning
none_given = record { spares = HaveNoContours; gives = ListClean Stays }

abbrev None_left : List ℕ → ℤ → Type 0
None_left new = CleansPolygons none_given w32 self (polygon_arrays [] (0 ∷ []) (0 ∷ [])) (polygon_arrays [] (7 ∷ 9 ∷ []) (7 ∷ [])) (polygon_arrays [] new (0 ∷ []))

none_left : None_left (0 ∷ 9 ∷ []) (pos 0) × (None_left (0 ∷ 9 ∷ []) (negsuc 0) → ⊥) × (None_left (0 ∷ 9 ∷ []) (pos 1) → ⊥) × (None_left (0 ∷ 9 ∷ []) (negsuc 2) → ⊥)
none_left = (
  record { answer = answer; refuses = accepted 0 (record { contours_parted = one_offset (lit≤ tt); shapes_parted = one_offset (lit≤ tt) }) (record { contours_fit = record { points_room = lit≤ tt; offsets_room = lit≤ tt }; shapes_room = lit≤ tt }) none_unsafe },
  λ w. (w.refuses.unsafe_points.0 refl).2 none_unsafe,
  λ w. let told = w.answer.fewer_shapes in omega (arith, told),
  λ w. w.refuses.memory refl (λ k d less. absurd (omega (arith, less))),
)
  where
    answer : ShapesAnswer (ListClean Stays) self (polygon_arrays [] (0 ∷ []) (0 ∷ [])) (polygon_arrays [] (7 ∷ 9 ∷ []) (7 ∷ [])) (polygon_arrays [] (0 ∷ 9 ∷ []) (0 ∷ [])) (pos 0)
    answer = record { list = []; left = ([], tt, refl); count = refl; fewer_points = lit≤ tt; fewer_contours = lit< tt; fewer_shapes = lit< tt; written = refl; rest = refl; contours_are = refl; shapes_are = refl }

-- of two polygons of one contour each, the second has collapsed
abbrev Compacts : Indices → ℤ → Type 0
Compacts = CompactsShapes (0 ∷ 3 ∷ 3 ∷ []) (0 ∷ 1 ∷ 2 ∷ []) (record { contours = 9 ∷ 9 ∷ []; shapes = 9 ∷ 9 ∷ []; offsets = 9 ∷ 9 ∷ 9 ∷ [] })

abbrev first_left : Indices
first_left = record { contours = 0 ∷ 9 ∷ []; shapes = 0 ∷ 9 ∷ []; offsets = 0 ∷ 1 ∷ 9 ∷ [] }

compacted : Compacts first_left (pos 1) × (Compacts first_left (pos 2) → ⊥) × (Compacts (record { contours = 1 ∷ 9 ∷ []; shapes = 1 ∷ 9 ∷ []; offsets = 0 ∷ 1 ∷ 9 ∷ [] }) (pos 1) → ⊥) × (Compacts first_left (negsuc 2) → ⊥)
compacted = (
  record { answer = record { shapes_are = refl; contours_are = refl; offsets_are = refl; shape_count = refl }; refuses = accepted 1 divided (record { contours_room = lit≤ tt; shapes_room = lit≤ tt; offsets_room = lit< tt }) tt },
  λ c. let told = c.answer.shape_count in cc,
  λ c. let told = c.answer.shapes_are in cc,
  λ c. c.refuses.memory refl tt,
)
  where
    divided : PartsPolygons (2 ^ 64 - 1) (0 ∷ 3 ∷ 3 ∷ []) (0 ∷ 1 ∷ 2 ∷ [])
    divided = record { contours_parted = three_offsets (lit≤ tt) (lit≤ tt) (lit≤ tt); shapes_parted = three_offsets (lit≤ tt) (lit≤ tt) (lit≤ tt) }

told : IsTold (Unit {0}) (pos 1) × (IsTold ⊥ (pos 1) → ⊥) × (IsTold (Unit {0}) (pos 0) → ⊥) × (TestAnswer ⊥ (negsuc 1) → ⊥) × IsByteOf (λ c. ⊥) box 0 × (rule_of (pos 1) ≡ Some NonZero) × (rule_of (pos 4) ≡ None)
told = (tt, λ h. h, λ h. h tt, λ h. h, λ h. h, refl, refl)

tests_each : TestsEach (λ c. ⊥) w32 self (contour_arrays box (0 ∷ [])) [] [] (pos 0) × (TestsEach (λ c. ⊥) w32 self (contour_arrays box (0 ∷ [])) [] [] (negsuc 2) → ⊥)
tests_each = (record { answer = record { each = tt; rest = refl }; refuses = accepted 0 (one_offset (lit≤ tt)) (lit≤ tt) none_unsafe }, λ t. t.refuses.memory refl tt)

tested : TestsContour (λ c. ⊥) w32 self [] (pos 0) × (TestsContour (λ c. ⊥) w32 self [] (negsuc 0) → ⊥) × (TestsPoint w32 self [] (at 5 5) (pos 1) → ⊥)
unfolding Inside is_right cross
tested = (record { answer = λ h. h; unsafe_points = (λ is. absurd (cc), λ unsafe. absurd (unsafe none_unsafe)) }, λ t. t.unsafe_points.0 refl none_unsafe, λ t. let told = t.answer in cc)

abbrev Tells : List ℕ → Type 0
Tells new = TellsEach (λ rule points offsets q x. x ≡ 7) w32 self (query box (0 ∷ []) (at 5 5 ∷ []) (pos 0)) (9 ∷ 9 ∷ []) new (pos 0)

filled : FillsAnswer (Some NonZero) (pos 2) (pos 1) × (FillsAnswer (Some EvenOdd) (pos 2) (pos 1) → ⊥) × (FillsAnswer None (pos 2) (negsuc 4) → ⊥) × Tells (7 ∷ 9 ∷ []) × (Tells (7 ∷ 8 ∷ []) → ⊥)
    × FillsPoint w32 self [] (at 5 5) (pos 1) (pos 0) × (FillsPoint w32 self [] (at 5 5) (pos 1) (pos 1) → ⊥)
unfolding winding
filled = (
  λ none. cc,
  λ odd. cc,
  λ few. omega (arith, few),
  record { answer = record { each = (refl, tt); rest = refl }; refuses = accepted 0 (λ none. cc, one_offset (lit≤ tt)) (lit≤ tt) (none_unsafe, one_safe) },
  λ t. let told = t.answer.rest in cc,
  record { answer = λ some. some refl; refuses = accepted 0 (λ none. cc) tt (none_unsafe, ((omega arith, omega arith), (omega arith, omega arith))) },
  λ f. f.answer refl,
)

-- winding numbers are summed over the contours that the offsets delimit
wound : (contours_winding self (box ++ box) (0 ∷ 4 ∷ 8 ∷ []) (at 5 5) ≡ pos 2) × (contours_winding self (box ++ box) (4 ∷ 8 ∷ []) (at 5 5) ≡ pos 1) × (WindsAbout w32 self [] (at 5 5) (pos 1) → ⊥)
    × WindingsAnswer self (contour_arrays box (0 ∷ 4 ∷ [])) (at 5 5 ∷ at 15 5 ∷ []) (pos 9 ∷ pos 9 ∷ pos 9 ∷ []) (pos 1 ∷ pos 0 ∷ pos 9 ∷ []) (pos 0)
    × WindsAboutEach w32 self (contour_arrays box (0 ∷ [])) (at 5 5 ∷ []) (pos 9 ∷ pos 9 ∷ []) (pos 0 ∷ pos 9 ∷ []) (pos 0)
unfolding winding winding_of_edge is_right cross
wound = (
  refl,
  refl,
  λ w. let told = w.answer (none_unsafe, ((omega arith, omega arith), (omega arith, omega arith))) in cc,
  refl,
  record { answer = refl; refuses = accepted 0 (one_offset (lit≤ tt)) (lit≤ tt) (none_unsafe, one_safe) },
)

on_an_edge : IsLocated self EvenOdd box (0 ∷ 4 ∷ []) (at 5 0) (pos 0) × (IsLocated self EvenOdd [] (0 ∷ []) (at 5 0) (pos 0) → ⊥) × (IsFilledByte self NonZero box (0 ∷ 4 ∷ []) (at 5 5) 0 → ⊥)
unfolding winding winding_of_edge is_right cross dot
on_an_edge = (record { place = 0; within = lit< tt; on = record { place = 0; within = lit< tt; between = record { straight = refl; ahead = omega arith } } }, λ on. omega (arith, on.within), λ not. not (λ none. cc))

abbrev Counts : List ℕ → ℤ → Type 0
Counts = MeasuresEach (λ c n. n ≡ length c) self (contour_arrays box (0 ∷ 3 ∷ 4 ∷ [])) (9 ∷ 9 ∷ 9 ∷ [])

measured : Counts (3 ∷ 1 ∷ 9 ∷ []) (pos 0) × (Counts (3 ∷ 1 ∷ 8 ∷ []) (pos 0) → ⊥) × (Counts (1 ∷ 3 ∷ 9 ∷ []) (pos 0) → ⊥) × (Counts (3 ∷ 1 ∷ 9 ∷ []) (pos 1) → ⊥) × (Counts (9 ∷ 9 ∷ 9 ∷ []) (negsuc 2) → ⊥)
measured = (
  record { answer = record { each = (refl, (refl, tt)); rest = refl }; refuses = accepted 0 (three_offsets (lit≤ tt) (lit≤ tt) (lit≤ tt)) (lit≤ tt) tt },
  λ m. let told = m.answer.rest in cc,
  λ m. let told = m.answer.each.0 in cc,
  λ m. m.answer,
  λ m. m.refuses.memory refl tt,
)

areas : AreHalves (negsuc 0) (record { low = 18446744073709551615; high = 18446744073709551615 }) × (AreHalves (negsuc 0) (record { low = 1; high = 0 }) → ⊥) × IsDoubleArea w16 box (pos 200) × (IsDoubleArea w16 box (pos 100) → ⊥) × AreDoubleAreaHalves box (record { low = 200; high = 0 })
unfolding shoelace area_of_edge
areas = (refl, λ h. cc, sym (int_wrap_fits w16 (pos 200) fits), λ a. let same = a ∙ int_wrap_fits w16 (pos 200) fits in omega (arith, ints, same), ap (λ z. cast_unsigned w128 z) (sym (int_wrap_fits w128 (pos 200) wide)))
  where
    fits : FitsSigned w16 (pos 200)
    fits = record { sfits = omega arith }

    wide : FitsSigned w128 (pos 200)
    wide = record { sfits = omega arith }
