-- A contour that is appended to a list and cleaned there, over its copy.
use Rattle.std.proofs.Common.{◌≡◌, ℕ, ℤ, ◌+◌, ◌-◌, ◌<◌, ◌≤◌, List, [], ◌∷◌, ◌++◌, take, drop, length, Bool, true, false, Option, Some, None, option_map, refl, sym, ap, subst, ◌∙◌, arith, append_assoc, append-nil, length-append, length-take, length-drop, option_to_list, is_some}
use Rattle.i_shape_core.specs.Cleaning.{Cleaning}
use Rattle.i_shape.proofs.Common.{Width, Range, Point, contour_of, IntPoint, slot, IsWritten, Grows}
use Rattle.std.proofs.lemmas.List.{take-take, take-append-le, length-take-le}
use Rattle.std.proofs.Math.Seq.{take-append_seam, take-append-add}

-- cleaning a contour over its copy leaves the points and then the first n written items
pub written_behind : {X : Type 0} (points contour whole written behind rest after : List X) (start n room : ℕ) → start ≡ length points → whole ≡ points ++ contour → n ≤ length written → start + length written ≤ room
    → after ≡ take (start + n) (take room ((take start whole ++ (written ++ behind)) ++ rest)) → after ≡ points ++ take n written
written_behind points contour whole written behind rest after start n room at is most fits left =
    let front : take start whole ≡ points = rw (is, at) (take-append_seam points contour) in
    let apart : (take start whole ++ (written ++ behind)) ++ rest ≡ points ++ ((written ++ behind) ++ rest) = rw front (append_assoc points (written ++ behind) rest) in
    let low : start + n ≤ room = omega (arith, most, fits) in
    let inner : take n ((written ++ behind) ++ rest) ≡ take n written = ap (take n) (append_assoc written behind rest) ∙ take-append-le n written (behind ++ rest) most in
    left ∙ take-take (start + n) room _ low ∙ ap (take (start + n)) apart
    ∙ rw at (take-append-add points ((written ++ behind) ++ rest) n) ∙ ap (λ l. points ++ l) inner

-- as many items follow the first `start` as were appended
pub behind_length : {X : Type 0} (points contour whole : List X) (start many : ℕ) → start ≡ length points → whole ≡ points ++ contour → many ≡ length (take (length whole - start) (drop start whole)) → many ≡ length contour
behind_length points contour whole start many at is long =
    omega (arith, at, ap length is, long, length-append points contour, length-drop start whole, length-take (length whole - start) (drop start whole))

-- the points, or none if there are none
abbrev pub left_of : {X : Type 0} → List X → Option (List X)
left_of [] = None
left_of (x ∷ xs) = Some (x ∷ xs)

left_read : {T : Type 0} (value : T → ℤ) (points : List (IntPoint T)) → slot (contour_of value points) ≡ option_map (contour_of value) (left_of points)
left_read value [] = refl
left_read value (p ∷ points) = refl

left_some : {X : Type 0} (xs : List X) → 0 < length xs → left_of xs ≡ Some xs
left_some [] some = absurd (omega (arith, some))
left_some (x ∷ xs) some = refl

-- the contour's answer, if any, is appended to the points, and its range to the ranges
abbrev pub Appends : {T : Type 0} → (List Point → Option (List Point) → Type 0) → (T → ℤ) → List (IntPoint T) → List (IntPoint T) → List (IntPoint T) → List (Range ℕ) → List (Range ℕ) → Bool → Type 0
Appends {T} Answer value contour points after ranges ranges_after left =
    (answer : Option (List (IntPoint T))) × Answer (contour_of value contour) (option_map (contour_of value) answer) × Grows points after ranges ranges_after (option_to_list answer) × (left ≡ is_some answer)

module _ {T : Type 0} {width : Width} {cleaning : Cleaning} (value : T → ℤ) (contour over points written after : List (IntPoint T)) (ranges ranges_after : List (Range ℕ)) (n : ℕ)
    (cleans : IsWritten cleaning width (contour_of value) contour over written n) (ends : after ≡ points ++ take n written) where
  answered : cleaning.answers (contour_of value contour) (option_map (contour_of value) (left_of (take n written)))
  answered = subst (cleaning.answers (contour_of value contour)) (left_read value (take n written)) cleans.cleaned.answer

  -- a contour that collapses appends nothing
  pub collapse_appended : n ≡ 0 → ranges_after ≡ ranges → Appends cleaning.answers value contour points after ranges ranges_after false
  collapse_appended nothing same =
      let none : left_of (take n written) ≡ None = rw nothing refl in
      let empty : take n written ≡ [] = rw nothing refl in
      (None, rw none at answered, record { points_are = ends ∙ ap (λ l. points ++ l) empty; ranges_are = same ∙ sym (append-nil ranges) }, refl)

  -- a contour that doesn't collapse appends the points left of it and their range
  pub left_appended : 0 < n → n ≤ length written → ranges_after ≡ ranges ++ record { start = length points; end = length points + n } ∷ [] → Appends cleaning.answers value contour points after ranges ranges_after true
  left_appended some most more =
      let long : length (take n written) ≡ n = length-take-le n written most in
      let is : left_of (take n written) ≡ Some (take n written) = left_some (take n written) (omega (arith, long, some)) in
      (Some (take n written), rw is at answered, record { points_are = ends ∙ ap (λ l. points ++ l) (sym (append-nil (take n written))); ranges_are = rw long more }, refl)
