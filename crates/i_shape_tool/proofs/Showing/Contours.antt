-- Showing a contour, some points at a time.
use Rattle.std.proofs.Common.{◌≡◌, ℕ, ◌<◌, List, [], ◌∷◌, ◌++◌, length, map, drop, refl, sym, ap, ◌∙◌, arith, length-drop, append_assoc, append-nil}
use Rattle.std.specs.Prelude.{ℤ}
use Rattle.std.specs.List.{join_with_byte, flat_map}
use Rattle.std.specs.Fmt.{signed_decimal}
use Rattle.std.proofs.lemmas.List.{map-append}
use Rattle.std.proofs.lemmas.Grind.{flat_map-append}
use Rattle.i_shape.specs.IntPoints.{IntPoint}
use Rattle.i_shape.specs.Point.{Point}
use Rattle.i_shape_tool.specs.Points.{point_of, contour_of}
use Rattle.i_shape_tool.specs.Text.{space, coordinates, shown, spaced, spaced_points}

join_first : (c : ℕ) (word : List ℕ) (words : List (List ℕ)) → join_with_byte c (word ∷ words) ≡ word ++ flat_map (λ v. c ∷ v) words
join_first c word [] = sym (append-nil word)
join_first c word (next ∷ words) = ap (λ l. word ++ (c ∷ l)) (join_first c next words)

spaced_words : (c : List Point) → flat_map (λ v. space ∷ v) (map signed_decimal (coordinates c)) ≡ spaced_points c
spaced_words [] = refl
spaced_words (p ∷ c) =
    ap (λ l. space ∷ (signed_decimal p.x ++ (space ∷ (signed_decimal p.y ++ l)))) (spaced_words c)
    ∙ ap (λ l. space ∷ l) (sym (append_assoc (signed_decimal p.x) (space ∷ signed_decimal p.y) (spaced_points c)))

-- the spaced points without the first space are the shown contour
pub without_first_space : (c : List Point) → drop 1 (spaced_points c) ≡ shown c
without_first_space [] = refl
without_first_space (p ∷ c) =
    append_assoc (signed_decimal p.x) (space ∷ signed_decimal p.y) (spaced_points c)
    ∙ ap (λ l. signed_decimal p.x ++ (space ∷ (signed_decimal p.y ++ l))) (sym (spaced_words c))
    ∙ sym (join_first space (signed_decimal p.x) (signed_decimal p.y ∷ map signed_decimal (coordinates c)))

spaced_both : (points after : List (IntPoint ℤ)) → spaced_points (contour_of (points ++ after)) ≡ spaced_points (contour_of points) ++ spaced_points (contour_of after)
spaced_both points after = ap spaced_points (map-append point_of points after) ∙ flat_map-append spaced (contour_of points) (contour_of after)

-- writing the last point in front of the rest continues the spaced points
pub last_spaced : (points others : List (IntPoint ℤ)) (last : IntPoint ℤ) (rest : List ℕ) → points ≡ others ++ last ∷ []
    → spaced_points (contour_of others) ++ (spaced (point_of last) ++ rest) ≡ spaced_points (contour_of points) ++ rest
last_spaced points others last rest is =
    let whole : spaced_points (contour_of points) ≡ spaced_points (contour_of others) ++ spaced (point_of last) =
    ap (λ l. spaced_points (contour_of l)) is ∙ spaced_both others (last ∷ []) ∙ ap (λ l. spaced_points (contour_of others) ++ l) (append-nil (spaced (point_of last))) in
    sym (append_assoc (spaced_points (contour_of others)) (spaced (point_of last)) rest) ∙ ap (λ l. l ++ rest) (sym whole)

some_bytes : (points : List (IntPoint ℤ)) → 0 < length points → 0 < length (spaced_points (contour_of points))
some_bytes [] some = absurd (omega (arith, some))
some_bytes (p ∷ points) some = omega arith

-- if all points are written, the text starts before its end
pub starts_within : (text : List ℕ) (points left : List (IntPoint ℤ)) (start : ℕ) → length left ≡ 0 → spaced_points (contour_of left) ++ drop start text ≡ spaced_points (contour_of points) → 0 < length points → start < length text
starts_within text points [] start none written some = omega (arith, length-drop start text, ap length written, some_bytes points some)
starts_within text points (p ∷ left) start none written some = absurd (omega (arith, none))
