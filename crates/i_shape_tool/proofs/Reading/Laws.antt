-- Laws of reading: a line reads at most one contour, and a shown contour reads back.
use Rattle.std.proofs.Common.{◌≡◌, ℕ, ◌<◌, ◌^◌, eq-zero-or-pos, List, [], ◌∷◌, length, map, ⊎_elim, suc, refl, sym, ap, ◌∙◌, subst, arith, Bool, false, ◌==◌, cond, drop}
use Rattle.std.specs.Prelude.{ℤ, pos, negsuc, neg_ℤ}
use Rattle.std.specs.List.{join_with_byte, AllByRecursion}
use Rattle.std.specs.Fmt.{decimal, signed_decimal}
use Rattle.std.specs.Int.{w32}
use Rattle.std.specs.Int.RustNames.{FitsSigned}
use Rattle.std.specs.Str.Parse.{IsNumeral, without_leading_sign, signed_digits_value, digits_value}
use Rattle.std.proofs.lemmas.Bool.Decides.{nat_tests}
use Rattle.std.proofs.lemmas.Fmt.{decimal_is_IsNumeral}
use Rattle.std.proofs.lemmas.Str.Parse.{digit_from_value}
use Rattle.i_shape.specs.Point.{Point}
use Rattle.i_shape_tool.specs.Text.{space, IsDecimal, SayPoints, Reads, coordinates, shown, FitPoint}
use Rattle.i_shape_tool.proofs.Reading.Lines.{words_are_parts}

same_points : (words : List (List ℕ)) (c d : List Point) → SayPoints words c → SayPoints words d → c ≡ d
same_points [] [] [] says again = refl
same_points [] [] (q ∷ d) says again = absurd again
same_points [] (p ∷ c) d says again = absurd says
same_points (x ∷ []) c d says again = absurd says
same_points (x ∷ y ∷ words) [] d says again = absurd says
same_points (x ∷ y ∷ words) (p ∷ c) [] says again = absurd again
same_points (x ∷ y ∷ words) (p ∷ c) (q ∷ d) says again =
    λ i. record { x = (says.0.2 ∙ sym again.0.2) i; y = (says.1.2 ∙ sym again.1.2) i } ∷ same_points words c d says.2 again.2 i

-- an empty line reads only the empty contour
no_words : (line : List ℕ) (words : List (List ℕ)) (c : List Point) → length line ≡ 0 → line ≡ join_with_byte space words → SayPoints words c → c ≡ []
no_words line [] [] empty is says = refl
no_words line [] (p ∷ c) empty is says = absurd says
no_words line (x ∷ []) c empty is says = absurd says
no_words line (x ∷ y ∷ words) [] empty is says = absurd says
no_words line ([] ∷ y ∷ words) (p ∷ c) empty is says = absurd (omega (arith, says.0.0.0))
no_words line ((b ∷ bs) ∷ y ∷ words) (p ∷ c) empty is says = absurd (omega (arith, ap length is))

-- a line reads at most one contour
pub one_reading : (line : List ℕ) (c d : List Point) → Reads line c → Reads line d → c ≡ d
one_reading line c d (words, is, says) (others, same, again) =
    ⊎_elim
    (λ empty. no_words line words c empty is says ∙ sym (no_words line others d empty same again))
    (λ nonempty. same_points words c d says (subst (λ ws. SayPoints ws d) (sym (words_are_parts line others d nonempty same again) ∙ words_are_parts line words c nonempty is says) again))
    (eq-zero-or-pos (length line))

without_sign_byte : (d : ℕ) (ds : List ℕ) (minus plus : Bool) → minus ≡ false → plus ≡ false → (cond minus ds (drop (cond plus 1 0) (d ∷ ds)) ≡ d ∷ ds) × (cond minus (neg_ℤ (pos (digits_value 10 (cond minus ds (drop (cond plus 1 0) (d ∷ ds)))))) (pos (digits_value 10 (cond minus ds (drop (cond plus 1 0) (d ∷ ds))))) ≡ pos (digits_value 10 (d ∷ ds)))
without_sign_byte d ds minus plus no_minus no_plus = rw (no_minus, no_plus) (refl, refl)

-- digits without a sign in front have their own value
digits_without_sign : (ds : List ℕ) → IsNumeral 10 ds → (without_leading_sign ds ≡ ds) × (signed_digits_value 10 ds ≡ pos (digits_value 10 ds))
digits_without_sign [] is = absurd (omega (arith, is.0))
digits_without_sign (d ∷ ds) is =
    let range = digit_from_value d is.1.0 in
    let minus : (d == 45) ≡ false = grind (arith, nat_tests) in
    let plus : (d == 43) ≡ false = grind (arith, nat_tests) in
    without_sign_byte d ds (d == 45) (d == 43) minus plus

shown_is_decimal : (z : ℤ) → FitsSigned w32 z → IsDecimal (signed_decimal z) z
shown_is_decimal (pos n) fits =
    let small : n < 2 ^ 64 = omega (arith, fits) in
    let is = decimal_is_IsNumeral n small in
    let p = digits_without_sign (decimal n) is.0 in
    (subst (IsNumeral 10) (sym p.0) is.0, fits, sym (p.1 ∙ ap pos is.1))
shown_is_decimal (negsuc n) fits =
    let small : suc n < 2 ^ 64 = omega (arith, fits) in
    let is = decimal_is_IsNumeral (suc n) small in
    (is.0, fits, sym (ap (λ m. neg_ℤ (pos m)) is.1))

shown_says : (c : List Point) → AllByRecursion FitPoint c → SayPoints (map signed_decimal (coordinates c)) c
shown_says [] fit = tt
shown_says (p ∷ c) fit = (shown_is_decimal p.x fit.0.0, shown_is_decimal p.y fit.0.1, shown_says c fit.1)

-- a shown contour reads back
pub shown_reads : (c : List Point) → AllByRecursion FitPoint c → Reads (shown c) c
shown_reads c fit = (map signed_decimal (coordinates c), refl, shown_says c fit)
