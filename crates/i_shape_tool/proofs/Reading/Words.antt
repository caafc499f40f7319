-- Texts cut at single bytes.
use Rattle.std.proofs.Common.{◌≡◌, ◌≢◌, ℕ, ◌+◌, ◌<◌, List, [], ◌∷◌, length, get_or, refl, sym, ap, ◌∙◌, arith, false, ◌==◌, Option, Some, None, Bor, MatchOption}
use Rattle.std.specs.Option.{unwrap_or}
use Rattle.std.specs.List.{slice_split}
use Rattle.std.proofs.lemmas.Bool.Decides.{nat_tests}
use Rattle.std.proofs.lemmas.List.Splits.{slice_split_none, slice_split_first, length-slice_split}
use Rattle.std.proofs.lemmas.List.Elements.{All-from_get_or}
use Rattle.std.proofs.lemmas.Str.Pattern.{IsSplitOnceResult, split_once_first, split_parts}
use Rattle.i_shape_tool.specs.Text.{lines_of, lines_of_parts, newline}

-- a text without the byte has one part, itself
part_alone : (c : ℕ) (bs : List ℕ) → ((i : ℕ) → i < length bs → get_or bs i 0 ≢ c) → slice_split (λ b. b == c) bs ≡ bs ∷ []
part_alone c bs lacks = slice_split_none (λ b. b == c) bs (All-from_get_or (λ b. (b == c) ≡ false) bs 0 (λ i inside. let other = lacks i inside in grind (arith, nat_tests)))

-- `split_once` at an ASCII character returns the first part and the rest
pub parts_of_split : (c : ℕ) (bs : List ℕ) (r : Option (Bor (List ℕ) × Bor (List ℕ))) → IsSplitOnceResult c bs r → c < 128 → MatchOption r (slice_split (λ b. b == c) bs ≡ bs ∷ []) (λ x. (slice_split (λ b. b == c) bs ≡ x.0.now ∷ slice_split (λ b. b == c) x.1.now))
parts_of_split c bs None h ascii = part_alone c bs (split_parts c bs None h ascii)
parts_of_split c bs (Some x) h ascii =
    let (inside, front, back) = split_once_first c bs (Some x) h ascii in
    slice_split_first (λ b. b == c) bs 0 inside ∙ (λ i. sym front i ∷ slice_split (λ b. b == c) (sym back i))

-- a part that isn't the last is a line
pub line_before_more : (part : List ℕ) (parts : List (List ℕ)) → 0 < length parts → lines_of_parts (part ∷ parts) ≡ part ∷ lines_of_parts parts
line_before_more part [] more = absurd (omega arith)
line_before_more part (next ∷ rest) more = refl

-- the lines of a nonempty text are the part before the first newline and the lines of the rest
pub first_line_of : (bs : List ℕ) (r : Option (Bor (List ℕ) × Bor (List ℕ))) (whole : Bor (List ℕ) × Bor (List ℕ)) → IsSplitOnceResult newline bs r → 0 < length bs → whole.0.now ≡ bs → whole.1.now ≡ [] → lines_of bs ≡ (unwrap_or r whole).0.now ∷ lines_of (unwrap_or r whole).1.now
first_line_of bs None whole h nonempty front back =
    let alone : lines_of bs ≡ lines_of_parts (bs ∷ []) = ap lines_of_parts (parts_of_split newline bs None h (omega arith)) in
    let one : lines_of_parts (bs ∷ []) ≡ bs ∷ [] = grind (arith, nat_tests) in
    alone ∙ one ∙ (λ i. sym front i ∷ lines_of (sym back i))
first_line_of bs (Some x) whole h nonempty front back =
    ap lines_of_parts (parts_of_split newline bs (Some x) h (omega arith))
    ∙ line_before_more x.0.now (slice_split (λ b. b == newline) x.1.now) (omega (arith, length-slice_split (λ b. b == newline) x.1.now))

-- a measure of what is left of a line: 0 if nothing is, otherwise its length and 1
abbrev pub left_len : Option (Bor (List ℕ)) → ℕ
left_len None = 0
left_len (Some rest) = length rest.now + 1
