-- The definitions of text at literal texts.
use Rattle.std.proofs.Common.{◌≡◌, [], ◌∷◌, ◌++◌, refl, subst, arith, rules}
use Rattle.std.specs.Prelude.{ℤ, pos, negsuc, codes}
use Rattle.std.specs.Fmt.{signed_decimal}
use Rattle.std.specs.Int.{w32}
use Rattle.std.specs.Int.RustNames.{FitsSigned}
use Rattle.i_shape.specs.Point.{Point}
use Rattle.i_shape_tool.specs.Text.{space, IsDecimal, lines_of, shown}

abbrev point : ℤ → ℤ → Point
point x y = record { x = x; y = y }

-- an empty last part is no line, and a carriage return is part of its line
no_line : lines_of [] ≡ []
no_line = refl

empty_line : lines_of (codes "\n") ≡ [] ∷ []
empty_line = refl

ended_lines : lines_of (codes "1 2\n\n3\n") ≡ codes "1 2" ∷ ([] ∷ (codes "3" ∷ []))
ended_lines = refl

open_line : lines_of (codes "1 2\r\n3") ≡ codes "1 2\r" ∷ (codes "3" ∷ [])
open_line = refl

-- the coordinates in turn are separated by spaces, with none at either end
shown_points : shown (point (negsuc 6) (pos 40) ∷ (point (pos 0) (pos 5) ∷ [])) ≡ signed_decimal (negsuc 6) ++ (space ∷ (signed_decimal (pos 40) ++ (space ∷ (signed_decimal (pos 0) ++ (space ∷ signed_decimal (pos 5))))))
shown_points = refl

shown_none : shown [] ≡ []
shown_none = refl

-- a sign and leading zeros don't change the value; a number that doesn't fit is no decimal
signed : IsDecimal (codes "-007") (negsuc 6)
signed = (search rules, search rules, refl)

plus : IsDecimal (codes "+00000000000000000012") (pos 12)
plus = (search rules, search rules, refl)

minus_zero : IsDecimal (codes "-0") (pos 0)
minus_zero = (search rules, search rules, refl)

least : IsDecimal (codes "-2147483648") (negsuc 2147483647)
least = (search rules, search rules, refl)

too_large : (z : ℤ) → IsDecimal (codes "2147483648") z → ⊥
too_large z is =
    let value : z ≡ pos 2147483648 = is.2 in
    let fits : FitsSigned w32 (pos 2147483648) = subst (FitsSigned w32) value is.1 in
    omega (arith, fits)

no_digits : (z : ℤ) → IsDecimal (codes "-") z → ⊥
no_digits z is = omega (arith, is.0)

twice_signed : (z : ℤ) → IsDecimal (codes "--1") z → ⊥
twice_signed z is = omega (arith, is.0)
