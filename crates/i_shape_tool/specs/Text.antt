-- Which contour a line of text reads, and how a contour is shown.
use Rattle.std.specs.Prelude.{◌≡◌, ℕ, ℤ, List, [], ◌∷◌, ◌++◌, length, map, Option, Some, None, ◌==◌, if◌then◌else◌}
use Rattle.std.specs.List.{join_with_byte, slice_split, flat_map}
use Rattle.std.specs.Fmt.{signed_decimal}
use Rattle.std.specs.Int.{w32}
use Rattle.std.specs.Int.RustNames.{FitsSigned}
use Rattle.std.specs.Str.Parse.{IsNumeral, without_leading_sign, signed_digits_value}
use Rattle.i_shape.specs.Point.{Point}

-- a space
abbrev pub space : ℕ
space = 32

-- the end of a line
abbrev pub newline : ℕ
newline = 10

-- an optional '-' or '+', then one or more ASCII digits, whose value z fits 32 bits
abbrev pub IsDecimal : List ℕ → ℤ → Type 0
IsDecimal word z =
    IsNumeral 10 (without_leading_sign word) × FitsSigned w32 z × (z ≡ signed_digits_value 10 word)

-- the words are decimals of the points' coordinates, x and y in turn
abbrev pub SayPoints : List (List ℕ) → List Point → Type 0
SayPoints [] [] = Unit {0}
SayPoints [] (p ∷ c) = ⊥
SayPoints (x ∷ []) c = ⊥
SayPoints (x ∷ y ∷ words) [] = ⊥
SayPoints (x ∷ y ∷ words) (p ∷ c) = IsDecimal x p.x × IsDecimal y p.y × SayPoints words c

-- the line is decimals separated by single spaces, the coordinates of the points of c in turn; the empty line reads the
-- empty contour
abbrev pub Reads : List ℕ → List Point → Type 0
Reads line c = (words : List (List ℕ)) × (line ≡ join_with_byte space words) × SayPoints words c

-- the line reads no contour
abbrev pub ReadsNone : List ℕ → Type 0
ReadsNone line = (c : List Point) → Reads line c → ⊥

-- the words of a text that isn't empty: its parts between spaces
abbrev pub words_of : List ℕ → List (List ℕ)
words_of text = slice_split (λ b. b == space) text

-- the words left of a line, none if nothing is left
abbrev pub words_left : Option (List ℕ) → List (List ℕ)
words_left None = []
words_left (Some text) = words_of text

-- the first two words are decimals of the point's coordinates, and `more` follows them
abbrev pub SayPoint : List (List ℕ) → Point → List (List ℕ) → Type 0
SayPoint words p more =
    (x : List ℕ) × (y : List ℕ) × (words ≡ x ∷ (y ∷ more)) × IsDecimal x p.x × IsDecimal y p.y

-- the coordinates of the points in turn
abbrev pub coordinates : List Point → List ℤ
coordinates [] = []
coordinates (p ∷ c) = p.x ∷ (p.y ∷ coordinates c)

-- the coordinates as decimals with no leading zero and no '+', separated by single spaces
abbrev pub shown : List Point → List ℕ
shown c = join_with_byte space (map signed_decimal (coordinates c))

-- both coordinates fit 32 bits
abbrev pub FitPoint : Point → Type 0
FitPoint p = FitsSigned w32 p.x × FitsSigned w32 p.y

-- the coordinates of a point, each after a space
abbrev pub spaced : Point → List ℕ
spaced p = space ∷ (signed_decimal p.x ++ (space ∷ signed_decimal p.y))

-- the coordinates of the points in turn, each after a space
abbrev pub spaced_points : List Point → List ℕ
spaced_points c = flat_map spaced c

-- the lines among the parts between newlines: all but an empty last part
abbrev pub lines_of_parts : List (List ℕ) → List (List ℕ)
lines_of_parts [] = []
lines_of_parts (part ∷ []) = if length part == 0 then [] else part ∷ []
lines_of_parts (part ∷ next ∷ more) = part ∷ lines_of_parts (next ∷ more)

-- the lines of a text
abbrev pub lines_of : List ℕ → List (List ℕ)
lines_of text = lines_of_parts (slice_split (λ b. b == newline) text)
