-- Lemmas for callers beside the contracts: from a buffer to the contours that it holds, from lists of points to shapes,
-- and what cleaning keeps of whole lists.
use Rattle.std.proofs.Common.{◌≡◌, ◌↔◌, ◌≤◌, ℕ, ◌+◌, ◌-◌, ℤ, List, [], ◌∷◌, ◌++◌, length, map, take, drop, refl, sym, ap, ap₂, subst, ◌∙◌, arith, vec_len, append-nil, length-append, Option, Some, None, IfSome, Bool, Result, Ok, Err, IfOk, IsOk, IsErr, is_ok, OnOk, IsOkUnless, All, sum_by}
use Rattle.i_shape_core.specs.Cleaning.{simplifying, despiking}
use Rattle.i_shape.proofs.Common.{Vec, Width, Range, Point, IsBack, contour_of, point_of, IsSafe, IsSimple, IsRemovable, Reach, stay, step, NoSpikes, SimpleAnswer, SpikelessAnswer, DespikeAnswer, KeptAnswer, IsKept, slot, IsWritten, ShapeError, OutOfMemory, OkUnlessMemory, IntPoint, paths_of_shape, paths_of_shapes, shape_lists, concatenated, FlatContoursBuffer, part_of, slices, shapes, end_to_end, Compact, contours_in, range_len, HoldsContours, HoldsShapes, contours_of, named_shapes, FlatShapesBuffer, shape_of, shapes_of, IsSafeShape, IsSafeList, AreSafePaths, HasPoints, shapes_shoelace, Survivors, ShapeClean, ListClean, EachContour, EachShape, AreKept, ListKept, Leaves, CleansContour, DespikesContour, CleansShape, CleansList}
use Rattle.std.proofs.lemmas.Int.{ints}
use Rattle.std.proofs.lemmas.List.Elements.{All-nil, All-cons, All-head, All-tail, All-append, All-take, All-drop}
use Rattle.std.proofs.lemmas.List.{map-append}
use Rattle.std.proofs.lemmas.List.Sums.{sum_by-cons}
use Rattle.std.proofs.lemmas.Simd.{map-map}
use Rattle.i_shape_core.proofs.CleanerAnswers.Kept.{nothing_keeps}
use Rattle.i_shape_core.proofs.Removal.Ends.{reach_shrinks, no_step}
use Rattle.i_shape_core.proofs.Walks.Spikes.{spikeless_end}
use Rattle.i_shape_core.proofs.Lists.Mapped.{all_mapped}
use Rattle.i_shape.proofs.Lists.Surviving.{survivors_each, survivors_have}
use Rattle.i_shape.proofs.Lists.EndToEnd.{concatenated-append, end_to_end-append}
use Rattle.i_shape.proofs.Buffers.Contours.{HoldsContours-from_lists}
use Rattle.i_shape.proofs.Buffers.ShapeRanges.{slice_range-map, slices-part_of}
-- a simple contour is its own answer; `AllZip` and `Survivors` hold of concatenated lists if they hold of the parts
pub use Rattle.i_shape_core.proofs.Walks.Found.{simple_stays}
pub use Rattle.i_shape_core.proofs.Lists.Survivors.{zip-append, survivors-append}

-- reading a shape equals reading the lists of points of its contours
pub shape_of_paths : {I : Type 0} (value : I → ℤ) (contours : List (Vec (IntPoint I))) → shape_of value contours ≡ map (contour_of value) (paths_of_shape contours)
shape_of_paths value contours = sym (map-map (contour_of value) (λ contour. contour.items) contours)

-- reading shapes equals reading the lists of points of their contours
pub shapes_of_lists : {I : Type 0} (value : I → ℤ) (shapes : List (Vec (Vec (IntPoint I)))) → shapes_of value shapes ≡ map (map (contour_of value)) (shape_lists shapes)
shapes_of_lists value [] = refl
shapes_of_lists value (shape ∷ shapes) = λ i. shape_of_paths value shape.items i ∷ shapes_of_lists value shapes i

-- where a buffer holds shapes, its ranges name these shapes
pub named_held : {I : Type 0} (value : I → ℤ) (buffer : FlatShapesBuffer I) (shapes : List (Vec (Vec (IntPoint I)))) → HoldsShapes buffer (shape_lists shapes) → named_shapes value buffer ≡ shapes_of value shapes
named_held value buffer shapes held = ap (map (map (contour_of value))) held.shapes ∙ sym (shapes_of_lists value shapes)

safe_ranges : {I : Type 0} (width : Width) (value : I → ℤ) (points : List (IntPoint I)) (contours shapes_named : List (Range ℕ)) → IsSafeShape width (map (contour_of value) (slices points contours)) → IsSafeList width (map (contours_of value) (shapes points contours shapes_named))
safe_ranges width value points contours [] safe = All-nil (IsSafeShape width)
safe_ranges width value points contours (range ∷ ranges) safe =
    let n = range.end - range.start in
    let all = map (contour_of value) (slices points contours) in
    let same : take n (drop range.start all) ≡ contours_of value (slices points (part_of contours range)) =
    slice_range-map (contour_of value) (slices points contours) range.start range.end ∙ ap (map (contour_of value)) (sym (slices-part_of points contours range)) in
    let here = subst (IsSafeShape width) same (All-take (All (IsSafe width)) n (drop range.start all) (All-drop (All (IsSafe width)) range.start all safe)) in
    All-cons (IsSafeShape width) (contours_of value (slices points (part_of contours range))) (map (contours_of value) (shapes points contours ranges)) here (safe_ranges width value points contours ranges safe)

-- the shapes that a buffer names are safe if the contours of its contour ranges are
pub safe_named : {I : Type 0} (width : Width) (value : I → ℤ) (buffer : FlatShapesBuffer I) → AreSafePaths width value (slices buffer.points.items buffer.contour_ranges.items) → IsSafeList width (named_shapes value buffer)
unfolding AreSafePaths
safe_named width value buffer safe = safe_ranges width value buffer.points.items buffer.contour_ranges.items buffer.shape_ranges.items safe

-- shapes with equal lists of points are equal
pub same_shapes : {I : Type 0} (value : I → ℤ) (a b : List (Vec (Vec (IntPoint I)))) → shape_lists a ≡ shape_lists b → shapes_of value a ≡ shapes_of value b
same_shapes value a b same = shapes_of_lists value a ∙ ap (map (map (contour_of value))) same ∙ sym (shapes_of_lists value b)

-- where a buffer holds contours, its ranges name these contours
pub contours_held : {I : Type 0} (value : I → ℤ) (buffer : FlatContoursBuffer I) (contours : List (Vec (IntPoint I))) → HoldsContours buffer (paths_of_shape contours) → contours_in value buffer ≡ shape_of value contours
contours_held value buffer contours held = ap (map (contour_of value)) held.slices ∙ sym (shape_of_paths value contours)

-- the contours that a buffer names are safe if the contours that it holds are
pub safe_held : {I : Type 0} (width : Width) (value : I → ℤ) (buffer : FlatContoursBuffer I) (contours : List (Vec (IntPoint I))) → HoldsContours buffer (paths_of_shape contours) → IsSafeShape width (shape_of value contours) → IsSafeShape width (contours_in value buffer)
safe_held width value buffer contours held safe = subst (IsSafeShape width) (sym (contours_held value buffer contours held)) safe

named_points : {P : Type 0} (start : ℕ) (contours : List (List P)) → sum_by range_len (end_to_end start contours) ≡ length (concatenated contours)
named_points start [] = refl
named_points start (c ∷ contours) =
    let more = sum_by-cons range_len (record { start = start; end = start + length c }) (end_to_end (start + length c) contours) in
    omega (arith, more, named_points (start + length c) contours, length-append c (concatenated contours))

-- the ranges of a buffer that holds contours name as many points as the contours have; this meets the condition of
-- `too_many`
pub points_held : {I : Type 0} (buffer : FlatContoursBuffer I) (contours : List (List (IntPoint I))) → HoldsContours buffer contours → sum_by range_len buffer.ranges.items ≡ length (concatenated contours)
points_held buffer contours held = ap (sum_by range_len) held.ranges ∙ named_points 0 contours

-- a buffer that held contours holds one more at the end once `add_contour` appended it
pub held_more : {I : Type 0} (old new : FlatContoursBuffer I) (contours : List (List (IntPoint I))) (contour : List (IntPoint I)) → HoldsContours old contours → new.points.items ≡ old.points.items ++ contour
    → new.ranges.items ≡ old.ranges.items ++ record { start = vec_len old.points; end = vec_len old.points + length contour } ∷ [] → HoldsContours new (contours ++ contour ∷ [])
held_more old new contours contour held points ranges =
    let start : vec_len old.points ≡ 0 + length (concatenated contours) = omega (arith, old.points.ok.0, ap length held.points) in
    HoldsContours-from_lists new (contours ++ contour ∷ [])
    (points ∙ ap₂ ◌++◌ held.points (sym (append-nil contour)) ∙ sym (concatenated-append contours (contour ∷ [])))
    (ranges ∙ ap₂ (λ l n. l ++ record { start = n; end = n + length contour } ∷ []) held.ranges start ∙ sym (end_to_end-append 0 contours (contour ∷ [])))

shapes_of_paths : {I : Type 0} (value : I → ℤ) (shapes : List (Vec (Vec (IntPoint I)))) → concatenated (shapes_of value shapes) ≡ map (contour_of value) (paths_of_shapes shapes)
shapes_of_paths value [] = refl
shapes_of_paths value (shape ∷ shapes) =
    ap (λ w. w ++ concatenated (shapes_of value shapes)) (shape_of_paths value shape.items)
    ∙ ap (λ w. map (contour_of value) (paths_of_shape shape.items) ++ w) (shapes_of_paths value shapes)
    ∙ sym (map-append (contour_of value) (paths_of_shape shape.items) (paths_of_shapes shapes))

-- a buffer that holds the contours of shapes names those contours
pub shapes_held : {I : Type 0} (value : I → ℤ) (buffer : FlatContoursBuffer I) (shapes : List (Vec (Vec (IntPoint I)))) → HoldsContours buffer (paths_of_shapes shapes) → contours_in value buffer ≡ concatenated (shapes_of value shapes)
shapes_held value buffer shapes held = ap (map (contour_of value)) held.slices ∙ sym (shapes_of_paths value shapes)

safe_concatenated : (width : Width) (shapes : List (List (List Point))) → IsSafeList width shapes → IsSafeShape width (concatenated shapes)
safe_concatenated width [] safe = All-nil (All (IsSafe width))
safe_concatenated width (shape ∷ shapes) safe =
    All-append (All (IsSafe width)) shape (concatenated shapes) (All-head (IsSafeShape width) shape shapes safe) (safe_concatenated width shapes (All-tail (IsSafeShape width) shape shapes safe))

-- the contours that a buffer names are safe if it holds the contours of safe shapes
pub safe_shapes_held : {I : Type 0} (width : Width) (value : I → ℤ) (buffer : FlatContoursBuffer I) (shapes : List (Vec (Vec (IntPoint I)))) → HoldsContours buffer (paths_of_shapes shapes) → IsSafeList width (shapes_of value shapes) → IsSafeShape width (contours_in value buffer)
safe_shapes_held width value buffer shapes held safe = subst (IsSafeShape width) (sym (shapes_held value buffer shapes held)) (safe_concatenated width (shapes_of value shapes) safe)

-- the contours read from a buffer are those that it names
pub contours_read : {I : Type 0} (value : I → ℤ) (buffer : FlatContoursBuffer I) (contours : List (Vec (IntPoint I))) → paths_of_shape contours ≡ slices buffer.points.items buffer.ranges.items → shape_of value contours ≡ contours_in value buffer
contours_read value buffer contours same = shape_of_paths value contours ∙ ap (map (contour_of value)) same

-- cleaned contours have points
pub points_left : (contours kept : List (List Point)) → Compact contours kept → All HasPoints kept
points_left contours kept compact = survivors_have SimpleAnswer (λ c. Unit {0}) HasPoints (λ c e answer any. omega (arith, answer.enough)) contours kept compact (λ k d lt. tt)

-- the contours read from a cleaned buffer have points
pub points_read : {I : Type 0} (value : I → ℤ) (before : List (List Point)) (buffer : FlatContoursBuffer I) (contours : List (Vec (IntPoint I)))
    → Compact before (contours_in value buffer) → paths_of_shape contours ≡ slices buffer.points.items buffer.ranges.items → All HasPoints (shape_of value contours)
points_read value before buffer contours compact same = subst (All HasPoints) (sym (contours_read value buffer contours same)) (points_left before (contours_in value buffer) compact)

-- filling a buffer, cleaning it and reading it back returns the cleaned contours
pub compact_read : {I : Type 0} (value : I → ℤ) (contours : List (Vec (IntPoint I))) (old new : FlatContoursBuffer I) (r : Result (Vec (Vec (IntPoint I))) ShapeError)
    → HoldsContours old (paths_of_shape contours) → Compact (contours_in value old) (contours_in value new)
    → IfOk r (λ back. paths_of_shape back.items ≡ slices new.points.items new.ranges.items) → IfOk r (λ kept. Compact (shape_of value contours) (shape_of value kept.items))
compact_read value contours old new (Ok back) held compact same = rw (contours_held value old contours held, sym (contours_read value new back.items same)) at compact
compact_read value contours old new (Err e) held compact same = tt

module _ (Answer : List Point → Option (List Point) → Type 0) where
  -- r is the cleaned shape, and keeps its measures
  abbrev Keeps : List (List Point) → Option (List (List Point)) → Type 0
  Keeps shape r = ShapeClean Answer shape r × IfSome r (AreKept shape)

  -- at most as many shapes are left; if as many are, they have the same double area
  abbrev Whole : List (List (List Point)) → List (List (List Point)) → Type 0
  Whole shapes kept = (length kept ≤ length shapes) × (length kept ≡ length shapes → shapes_shoelace kept ≡ shapes_shoelace shapes)

  left_whole : (shapes kept : List (List (List Point))) → Survivors Keeps shapes kept → Whole shapes kept
  left_whole =
      survivors_each Keeps Whole (omega arith, λ whole. refl) (λ shape shapes kept a rest. (omega (arith, rest.0), λ whole. absurd (omega (arith, rest.0, whole))))
      (λ shape left shapes kept a rest. (
        omega (arith, rest.0),
        λ whole. let here = a.1.area in let more = rest.1 (omega (arith, whole)) in omega (arith, ints),
      ))

-- a cleaned list with as many shapes keeps its double area
pub list_area : {Answer : List Point → Option (List Point) → Type 0} {shapes kept : List (List (List Point))} → ListKept Answer shapes kept → length kept ≡ length shapes → shapes_shoelace kept ≡ shapes_shoelace shapes
list_area {Answer} {shapes} {kept} list = (left_whole Answer shapes kept list.each).1

-- a contour without zero turns has no spikes
contour_spikeless : (c e : List Point) → SimpleAnswer c (Some e) → NoSpikes e
contour_spikeless c e answer = spikeless_end e answer.enough (λ k back. answer.ended.none_left k (record {
  enough = back.enough;
  within = back.within;
  passes = back.passes.0;
}))

contours_spikeless : (contours kept : List (List Point)) → Survivors SimpleAnswer contours kept → EachContour NoSpikes kept
contours_spikeless contours kept survive = survivors_have SimpleAnswer (λ c. Unit {0}) NoSpikes (λ c e answer any. contour_spikeless c e answer) contours kept survive (λ k d lt. tt)

shape_spikeless : (shape kept : List (List Point)) → ShapeClean SimpleAnswer shape (Some kept) → EachContour NoSpikes kept
shape_spikeless [] kept clean = let none : kept ≡ [] = cc in rw none (All-nil NoSpikes)
shape_spikeless (outer ∷ holes) [] clean = absurd clean
shape_spikeless (outer ∷ holes) (contour ∷ kept) clean = All-cons NoSpikes contour kept (contour_spikeless outer contour clean.0) (contours_spikeless holes kept clean.1)

list_spikeless : (shapes kept : List (List (List Point))) → ListClean SimpleAnswer shapes kept → EachShape NoSpikes kept
list_spikeless shapes kept clean =
    survivors_have (ShapeClean SimpleAnswer) (λ shape. Unit {0}) (EachContour NoSpikes) (λ shape left answer any. shape_spikeless shape left answer) shapes kept clean (λ k d lt. tt)

-- removing spikes after zero turns succeeds and changes nothing
contour_stays : {old between new : List Point} {q r : Result Bool ShapeError}
    → CleansContour IsSimple SimpleAnswer old between q → IsOk q → DespikesContour between new r → IsOk r × (new ≡ between)
contour_stays {q = Err e} first ok second = absurd cc
contour_stays {old} {between} {new} {q = Ok b} {r} first ok second = go first.cleans.left
  where
    go : Leaves SimpleAnswer old between → IsOk r × (new ≡ between)
    go (None, collapses, none) = let stays = second.contour.short (rw none (omega arith)) in (ap is_ok stays.0, stays.1 ∙ sym none)
    go (Some e, answer, is) = let stays = second.contour.cleans.passes (rw is (contour_spikeless old e answer)) in (ap is_ok stays.0, stays.1)

shape_stays : {old between new : List (List Point)} {q r : Result Bool ShapeError}
    → CleansShape IsSimple SimpleAnswer old between q → IsOk q → CleansShape NoSpikes DespikeAnswer between new r → IsOk r × (new ≡ between)
shape_stays {q = Err e} first ok second = absurd cc
shape_stays {old} {between} {new} {q = Ok b} {r} first ok second = let stays = second.cleans.passes (go first.cleans.left) in (ap is_ok stays.0, stays.1)
  where
    go : Leaves (ShapeClean SimpleAnswer) old between → EachContour NoSpikes between
    go (None, collapses, none) = rw none (All-nil NoSpikes)
    go (Some kept, answer, is) = rw is (shape_spikeless old kept answer)

list_stays : {old between new : List (List (List Point))} {q r : Result Bool ShapeError}
    → CleansList IsSimple SimpleAnswer old between q → IsOk q → CleansList NoSpikes DespikeAnswer between new r → IsOk r × (new ≡ between)
list_stays {q = Err e} first ok second = absurd cc
list_stays {old} {between} {q = Ok b} first ok second = let stays = second.cleans.passes (list_spikeless old between first.cleans.left) in (ap is_ok stays.0, stays.1)

left_cleaned : {P : Type 0} (r : Result Bool ShapeError) → OnOk r P → IsOk r → P
left_cleaned (Ok b) left ok = left
left_cleaned (Err e) left ok = absurd cc

never : {A B : Type 0} (r : Result A B) → IsOk r → IsErr r → ⊥
never (Ok a) ok err = absurd cc
never (Err b) ok err = absurd cc

module _ {old between new : List Point} {q r : Result Bool ShapeError} where
  -- removing zero turns and then spikes in place leaves the contour without zero turns
  pub contour_cleaned : CleansContour IsSimple SimpleAnswer old between q → IsOk q → DespikesContour between new r → Leaves SimpleAnswer old new
  contour_cleaned first ok second = let same = (contour_stays first ok second).1 in rw same (left_cleaned q first.cleans.left ok)

  -- removing spikes from a contour in place after zero turns returns no error
  pub contour_never_refused : CleansContour IsSimple SimpleAnswer old between q → IsOk q → DespikesContour between new r → IsErr r → ⊥
  contour_never_refused first ok second = never r (contour_stays first ok second).0

module _ {old between new : List (List Point)} {q r : Result Bool ShapeError} where
  -- removing zero turns and then spikes in place leaves the shape without zero turns
  pub shape_cleaned : CleansShape IsSimple SimpleAnswer old between q → IsOk q → CleansShape NoSpikes DespikeAnswer between new r → Leaves (ShapeClean SimpleAnswer) old new
  shape_cleaned first ok second = let same = (shape_stays first ok second).1 in rw same (left_cleaned q first.cleans.left ok)

  -- removing spikes from a shape in place after zero turns returns no error
  pub shape_never_refused : CleansShape IsSimple SimpleAnswer old between q → IsOk q → CleansShape NoSpikes DespikeAnswer between new r → IsErr r → ⊥
  shape_never_refused first ok second = never r (shape_stays first ok second).0

module _ {old between new : List (List (List Point))} {q r : Result Bool ShapeError} where
  -- removing zero turns and then spikes in place leaves the list without zero turns
  pub list_cleaned : CleansList IsSimple SimpleAnswer old between q → IsOk q → CleansList NoSpikes DespikeAnswer between new r → ListKept SimpleAnswer old new
  list_cleaned first ok second = let same = (list_stays first ok second).1 in rw same (left_cleaned q first.kept ok)

  -- removing spikes from a list in place after zero turns returns no error
  pub list_never_refused : CleansList IsSimple SimpleAnswer old between q → IsOk q → CleansList NoSpikes DespikeAnswer between new r → IsErr r → ⊥
  list_never_refused first ok second = never r (list_stays first ok second).0

  -- removing zero turns and then spikes keeps a list's double area if as many shapes are left
  pub list_cleaned_area : CleansList IsSimple SimpleAnswer old between q → IsOk q → CleansList NoSpikes DespikeAnswer between new r → length new ≡ length old → shapes_shoelace new ≡ shapes_shoelace old
  list_cleaned_area first ok second = list_area (list_cleaned first ok second)

-- points of a caller's type are all safe exactly if the contour read from them is
pub points_safe : {P I : Type 0} (width : Width) (value : I → ℤ) (point : P → IntPoint I) (points : List P → List (IntPoint I)) → ((list : List P) → points list ≡ map point list)
    → (list : List P) → All (λ p. IsSafe width (point_of value (point p))) list ↔ All (IsSafe width) (contour_of value (points list))
points_safe width value point points each list =
    let one = all_mapped (λ q. IsSafe width (point_of value q)) point list in
    let all = all_mapped (IsSafe width) (point_of value) (map point list) in
    rw (each list) (λ safe. all.0 (one.0 safe), λ safe. one.1 (all.1 safe))

slot_keeps : (c s : List Point) → KeptAnswer c (slot s) → IsKept c s
slot_keeps c [] flat = nothing_keeps c flat
slot_keeps c (p ∷ s) kept = kept

-- removing spikes from a contour without zero turns changes nothing
slot_stays : (c e d : List Point) → SimpleAnswer c (slot e) → SpikelessAnswer e (slot d) → d ≡ e
slot_stays c [] [] simple despiked = refl
slot_stays c [] (q ∷ d) simple despiked = absurd (omega (arith, reach_shrinks despiked.ended.reached, despiked.enough))
slot_stays c (p ∷ e) [] simple despiked = absurd (omega (arith, despiked (p ∷ e) (record { reached = stay; none_left = simple.ended.none_left }), simple.enough))
slot_stays c (p ∷ e) (q ∷ d) simple despiked = go despiked.ended.reached
  where
    none : (k : ℕ) → IsRemovable IsBack (p ∷ e) k → ⊥
    none k back = simple.ended.none_left k (record { enough = back.enough; within = back.within; passes = back.passes.0 })

    go : {d : List Point} → Reach IsBack (p ∷ e) d → d ≡ p ∷ e
    go stay = refl
    go (step first more) = absurd (no_step none first)

module _ {P : Type 0} {width : Width} {read : List P → List Point} {given old new : List P} {n : ℕ} where
  -- what `ContourSimplifier` writes keeps the contour's measures, even if it writes nothing
  pub simplified_kept : IsWritten simplifying width read given old new n → IsKept (read given) (read (take n new))
  simplified_kept written = slot_keeps (read given) (read (take n new)) written.cleaned.kept

  -- what `ContourDeSpiker` writes keeps the contour's measures, even if it writes nothing
  pub despiked_kept : IsWritten despiking width read given old new n → IsKept (read given) (read (take n new))
  despiked_kept written = slot_keeps (read given) (read (take n new)) written.cleaned.kept

  -- removing spikes from what is left without zero turns writes the contour without zero turns
  pub cleaned_twice : {before after : List P} {m : ℕ} → IsWritten simplifying width read given old new n → IsWritten despiking width read (take n new) before after m → SimpleAnswer (read given) (slot (read (take m after)))
  cleaned_twice {before} {after} {m} simple despiked =
      let same = slot_stays (read given) (read (take n new)) (read (take m after)) simple.cleaned.answer despiked.cleaned.answer in
      rw same simple.cleaned.answer

-- if `Holds` implies `Part`, a result with `Holds` of its value has `Part` of it
pub of_ok : {T : Type 0} {Holds Part : T → Type 0} (result : Result T ShapeError) → ((t : T) → Holds t → Part t) → OkUnlessMemory result Holds → IfOk result Part
of_ok (Ok t) part is = part t is
of_ok (Err e) part is = tt

-- a result of which `OkUnlessMemory` holds is a value or `OutOfMemory`
pub of_memory : {T : Type 0} (Holds : T → Type 0) (result : Result T ShapeError) → OkUnlessMemory result Holds → IsOkUnless result OutOfMemory
of_memory Holds (Ok t) is = tt
of_memory Holds (Err e) is = is
