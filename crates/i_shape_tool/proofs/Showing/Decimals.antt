-- The decimal of a number, two digits at a time.
use Rattle.std.proofs.Common.{◌≡◌, ℕ, ◌+◌, ◌-◌, ◌/◌, ◌%◌, ◌^◌, ◌<◌, ◌≤◌, List, [], ◌∷◌, ◌++◌, length, ℤ, pos, negsuc, FitsSigned, refl, ap, ◌∙◌, arith, append_assoc, length-append, unsigned_abs, true, false, true≢false, drop, set, length-set}
use Rattle.std.specs.Int.{w32}
use lib.Signed.{lt_z}
use Rattle.std.proofs.lemmas.Bool.Decides.{nat_tests}
use Rattle.std.proofs.lemmas.List.{drop-set, drop-set-lt}
use Rattle.std.specs.Fmt.{decimal, signed_decimal}
use Rattle.std.specs.Str.{IsAscii}
use Rattle.std.proofs.lemmas.Fmt.{decimal_digit, decimal_step, length-decimal-le, IsAscii-signed}
use Rattle.std.proofs.lemmas.Str.{IsAscii-append}
use Rattle.std.proofs.lemmas.Str.Ascii.{IsAscii-cons}
use Rattle.i_shape_tool.specs.Text.{space}

-- the two digits of a number below a hundred
abbrev pub digit_pair : ℕ → List ℕ
digit_pair p = (48 + p / 10) ∷ (48 + p % 10) ∷ []

-- a number below ten has one digit
pub length_one : (n : ℕ) → n < 10 → length (decimal n) ≡ 1
length_one n h = ap length (decimal_digit n h)

-- the decimal of a number from 10 to 99 is its pair of digits
pub decimal_two : (n : ℕ) → 10 ≤ n → n < 100 → decimal n ≡ digit_pair n
decimal_two n lo hi = rw (decimal_step n lo (omega arith), decimal_digit (n / 10) (omega arith)) refl

-- a number from 10 to 99 has two digits
pub length_two : (n : ℕ) → 10 ≤ n → n < 100 → length (decimal n) ≡ 2
length_two n lo hi = ap length (decimal_two n lo hi)

-- from 100 on the decimal is that of the hundreds and then the last pair of digits
pub decimal_pair : (n : ℕ) → 100 ≤ n → n < 2 ^ 32 → decimal n ≡ decimal (n / 100) ++ digit_pair (n % 100)
decimal_pair n lo hi =
    let a : n / 10 / 10 ≡ n / 100 = omega arith in
    let b : n / 10 % 10 ≡ n % 100 / 10 = omega arith in
    let c : n % 10 ≡ n % 100 % 10 = omega arith in
    rw (decimal_step n (omega arith) (omega arith), decimal_step (n / 10) (omega arith) (omega arith), append_assoc, a, b, ← c) refl

-- from 100 on a number has two digits more than its hundreds
pub length_pair : (n : ℕ) → 100 ≤ n → n < 2 ^ 32 → length (decimal n) ≡ length (decimal (n / 100)) + 2
length_pair n lo hi = ap length (decimal_pair n lo hi) ∙ length-append _ _

-- a number of 32 bits has at most ten digits
pub length_number : (n : ℕ) → n < 2 ^ 32 → length (decimal n) ≤ 10
length_number n small = length-decimal-le 10 n (omega arith) (omega arith) (omega arith)

-- the decimal of a number below 0 is a minus and then that of its absolute value
minus_first : (z : ℤ) → lt_z z (pos 0) ≡ true → 45 ∷ decimal (unsigned_abs z) ≡ signed_decimal z
minus_first (pos n) below = absurd (grind (arith, nat_tests))
minus_first (negsuc n) below = refl

no_minus : (z : ℤ) → lt_z z (pos 0) ≡ false → decimal (unsigned_abs z) ≡ signed_decimal z
no_minus (pos n) above = refl
no_minus (negsuc n) above = absurd (true≢false above)

-- if the number is below 0, writing a minus and a space before its digits writes its decimal after a space
pub minus_written : (text rest : List ℕ) (at start : ℕ) (z : ℤ) → lt_z z (pos 0) ≡ true → 2 ≤ at → at ≤ length text → start ≡ at - 2 → drop at text ≡ decimal (unsigned_abs z) ++ rest
    → drop start (set (set text (at - 1) 45) start space) ≡ space ∷ (signed_decimal z ++ rest)
minus_written text rest at start z below room inside is digits =
    let next : start + 1 ≡ at - 1 = omega (arith, room, is) in
    let last : at - 1 + 1 ≡ at = omega (arith, room) in
    drop-set (set text (at - 1) 45) start space (omega (arith, room, inside, is, length-set text (at - 1) 45))
    ∙ ap (λ n. space ∷ drop n (set text (at - 1) 45)) next
    ∙ ap (λ l. space ∷ l) (drop-set text (at - 1) 45 (omega (arith, room, inside)) ∙ ap (λ n. 45 ∷ drop n text) last ∙ ap (λ l. 45 ∷ l) digits ∙ ap (λ l. l ++ rest) (minus_first z below))

-- if the number isn't below 0, writing a space over the minus writes its decimal after a space
pub none_written : (text rest : List ℕ) (at start : ℕ) (z : ℤ) → lt_z z (pos 0) ≡ false → 2 ≤ at → at ≤ length text → start ≡ at - 1 → drop at text ≡ decimal (unsigned_abs z) ++ rest
    → drop start (set (set text (at - 1) 45) start space) ≡ space ∷ (signed_decimal z ++ rest)
none_written text rest at start z above room inside is digits =
    let next : start + 1 ≡ at = omega (arith, room, is) in
    drop-set (set text (at - 1) 45) start space (omega (arith, room, inside, is, length-set text (at - 1) 45))
    ∙ ap (λ n. space ∷ drop n (set text (at - 1) 45)) next
    ∙ ap (λ l. space ∷ l) (drop-set-lt at text (at - 1) 45 (omega (arith, room)) ∙ digits ∙ ap (λ l. l ++ rest) (no_minus z above))

-- a decimal is ASCII
pub signed_ascii : (z : ℤ) → FitsSigned w32 z → IsAscii (signed_decimal z)
signed_ascii (pos n) fits = IsAscii-signed (pos n) (omega (arith, fits))
signed_ascii (negsuc n) fits = IsAscii-signed (negsuc n) (omega (arith, fits))

-- two decimals with a space before each are ASCII
pub spaced_ascii : (xs ys : List ℕ) → IsAscii xs → IsAscii ys → IsAscii (space ∷ (xs ++ (space ∷ ys)))
spaced_ascii xs ys x y = IsAscii-cons space _ (omega arith) (IsAscii-append xs (space ∷ ys) x (IsAscii-cons space ys (omega arith) y))
