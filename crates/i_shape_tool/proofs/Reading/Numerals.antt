-- The number at the front of a text.
use Rattle.std.proofs.Common.{◌≡◌, ℕ, ℤ, ◌+◌, ◌-◌, ◌*◌, ◌<◌, ◌^◌, List, [], ◌∷◌, ◌++◌, length, take, drop, refl, sym, ap, ap₂, ◌∙◌, subst, arith, Bool, true, false, ◌==◌, cond, zero, suc, append_assoc, append-nil, length-append}
use Rattle.std.specs.List.{join_with_byte}
use Rattle.std.specs.Char.{digit_value}
use Rattle.std.specs.Int.{w32}
use Rattle.std.specs.Int.RustNames.{FitsSigned}
use Rattle.std.specs.Str.Parse.{AllDigits, IsNumeral, digits_value, without_leading_sign, starts_with_minus}
use Rattle.std.proofs.lemmas.List.{nil_from_length, append_cancel_left}
use Rattle.std.proofs.lemmas.List.Splits.{slice_split_none, slice_split_at, join_with_byte-slice_split}
use Rattle.std.proofs.lemmas.List.Elements.{All-from_recursion}
use Rattle.std.proofs.Math.Seq.{take-append_seam}
use Rattle.std.proofs.lemmas.Int.Digits.{digits_push, digits_value_push}
use Rattle.std.proofs.lemmas.Str.{digit_value_digit}
use Rattle.std.proofs.lemmas.Str.Parse.{digit_from_value, digits_value-take-le}
use Rattle.i_shape_tool.specs.Text.{space, IsDecimal, words_of}
use Rattle.i_shape_tool.specs.Steps.Numeral.{EndsWord, EndsDigits, HasDigits, SaysNumber, with_sign}
use Rattle.i_shape_tool.proofs.Reading.Lines.{LacksSpace, word_lacks_space}

-- the text is digits whose value is `size`, and then what is left
pub record HasTaken (text left : List ℕ) (size : ℕ) : Type 0 where
  pub taken : List ℕ
  pub split : text ≡ taken ++ left
  pub digits : AllDigits 10 taken
  pub writes : size ≡ digits_value 10 taken

-- taking a digit multiplies the size by ten and adds it
pub take_digit : (text left after : List ℕ) (b size digit : ℕ) → HasTaken text left size → left ≡ b ∷ after → digit_value b < 10 → digit ≡ b - 48 → HasTaken text after (size * 10 + digit)
take_digit text left after b size digit done is small value =
    let same : digit ≡ digit_value b = omega (arith, value, digit_value_digit b (digit_from_value b small)) in
    record {
      taken = done.taken ++ b ∷ [];
      split = done.split ∙ ap (λ l. done.taken ++ l) is ∙ sym (append_assoc done.taken (b ∷ []) after);
      digits = digits_push 10 done.taken b done.digits small;
      writes = ap₂ (λ n d. n * 10 + d) done.writes same ∙ sym (digits_value_push 10 done.taken b);
    }

-- a text that ends a word begins with no digit
ends_word : (tail : List ℕ) → EndsWord tail → EndsDigits tail
ends_word [] ends = tt
ends_word (b ∷ tail) ends = λ digit. let range = digit_from_value b digit in omega (arith, ends, range)

-- if no digit follows ys, each run of digits at the front of the text is a prefix of ys
goes_on : (xs rest ys tail : List ℕ) → AllDigits 10 xs → EndsDigits tail → xs ++ rest ≡ ys ++ tail → (more : List ℕ) × (ys ≡ xs ++ more)
goes_on [] rest ys tail digits ends is = (ys, refl)
goes_on (x ∷ xs) rest [] [] digits ends is = absurd (omega (arith, ap length is))
goes_on (x ∷ xs) rest [] (t ∷ tail) digits ends is = let same : x ≡ t = cc in absurd (ends (subst (λ b. digit_value b < 10) same digits.0))
goes_on (x ∷ xs) rest (y ∷ ys) tail digits ends is =
    let same : y ≡ x = cc in
    let left : xs ++ rest ≡ ys ++ tail = cc in
    let (more, longer) = goes_on xs rest ys tail digits.1 ends left in
    (more, ap₂ ◌∷◌ same longer)

-- runs of digits that no digit follows are equal
same_digits : (xs rest ys tail : List ℕ) → AllDigits 10 xs → AllDigits 10 ys → EndsDigits rest → EndsDigits tail → xs ++ rest ≡ ys ++ tail → (xs ≡ ys) × (rest ≡ tail)
same_digits xs rest ys tail h k ends stops is =
    let (more, longer) = goes_on xs rest ys tail h stops is in
    let (back, shorter) = goes_on ys tail xs rest k ends (sym is) in
    let none : length more ≡ 0 = omega (arith, ap length longer, ap length shorter, length-append xs more, length-append ys back) in
    let same : xs ≡ ys = sym (longer ∙ ap (λ l. xs ++ l) (nil_from_length more none) ∙ append-nil xs) in
    (same, append_cancel_left xs rest tail (is ∙ ap (λ l. l ++ tail) (sym same)))

-- if the digits so far are too large a number, so are all
pub too_large : (text left : List ℕ) (size most : ℕ) → HasTaken text left size → most < size → (digits rest : List ℕ) → text ≡ digits ++ rest → EndsWord rest → IsNumeral 10 digits → most < digits_value 10 digits
too_large text left size most done over digits rest is ends numeral =
    let (more, longer) = goes_on done.taken left digits rest done.digits (ends_word rest ends) (sym done.split ∙ is) in
    let first : take (length done.taken) digits ≡ done.taken = ap (take (length done.taken)) longer ∙ take-append_seam done.taken more in
    omega (arith, digits_value-take-le 10 digits (length done.taken) (omega arith), ap (digits_value 10) first, done.writes, over)

-- if no digit was taken and none follows, no number is in front
pub no_digits : (text left : List ℕ) (size : ℕ) → HasTaken text left size → length left ≡ length text → EndsDigits left → (digits rest : List ℕ) → text ≡ digits ++ rest → EndsWord rest → IsNumeral 10 digits → ⊥
no_digits text left size done none stops digits rest is ends numeral =
    let same = same_digits done.taken left digits rest done.digits numeral.1 stops (ends_word rest ends) (sym done.split ∙ is) in
    omega (arith, ap length is, length-append digits rest, ap length same.1, numeral.0, none)

-- digits end at a byte that is no digit
pub ends_before : (left after : List ℕ) (b : ℕ) → left ≡ b ∷ after → (digit_value b < 10 → ⊥) → EndsDigits left
ends_before [] after b is other = tt
ends_before (c ∷ left) after b is other = let same : c ≡ b = cc in λ digit. other (subst (λ d. digit_value d < 10) same digit)

-- the text begins with a word of these digits, with at most a sign in front
record HasWord (text digits rest : List ℕ) : Type 0 where
  word : List ℕ
  split : text ≡ word ++ rest
  unsigned : without_leading_sign word ≡ digits
  minus : starts_with_minus word ≡ starts_with_minus text

no_sign : (b : ℕ) (bs digits rest : List ℕ) → (b == 45) ≡ false → (b == 43) ≡ false → b ∷ bs ≡ digits ++ rest → 0 < length digits → HasWord (b ∷ bs) digits rest
no_sign b bs [] rest minus plus is some = absurd (omega (arith, some))
no_sign b bs (d ∷ digits) rest minus plus is some =
    let same : b ≡ d = cc in
    let not_minus : (d == 45) ≡ false = ap (λ c. c == 45) (sym same) ∙ minus in
    let not_plus : (d == 43) ≡ false = ap (λ c. c == 43) (sym same) ∙ plus in
    record { word = d ∷ digits; split = is; unsigned = rw (not_minus, not_plus) refl; minus = not_minus ∙ sym minus }

signed_word : (text digits rest : List ℕ) → without_leading_sign text ≡ digits ++ rest → 0 < length digits → HasWord text digits rest
signed_word [] digits rest is some = absurd (omega (arith, ap length is, length-append digits rest, some))
signed_word (b ∷ bs) digits rest is some = go (b == 45) (b == 43) refl refl is
  where
    go : (minus plus : Bool) → (b == 45) ≡ minus → (b == 43) ≡ plus → cond minus bs (drop (cond plus 1 0) (b ∷ bs)) ≡ digits ++ rest → HasWord (b ∷ bs) digits rest
    go true plus m p e = record { word = b ∷ digits; split = ap (λ l. b ∷ l) e; unsigned = rw m refl; minus = refl }
    go false true m p e = record { word = b ∷ digits; split = ap (λ l. b ∷ l) e; unsigned = rw (m, p) refl; minus = refl }
    go false false m p e = no_sign b bs digits rest m p e some

-- a text that begins with a word that has digits has the word's sign
sign_of_word : (word tail : List ℕ) → 0 < length (without_leading_sign word) → (without_leading_sign (word ++ tail) ≡ without_leading_sign word ++ tail) × (starts_with_minus (word ++ tail) ≡ starts_with_minus word)
sign_of_word [] tail some = absurd (omega (arith, some))
sign_of_word (b ∷ bs) tail some = (go (b == 45) (b == 43), refl)
  where
    go : (minus plus : Bool) → cond minus (bs ++ tail) (drop (cond plus 1 0) (b ∷ (bs ++ tail))) ≡ cond minus bs (drop (cond plus 1 0) (b ∷ bs)) ++ tail
    go true plus = refl
    go false true = refl
    go false false = refl

-- the words after the one that ends here
abbrev words_behind : List ℕ → List (List ℕ)
words_behind [] = []
words_behind (b ∷ rest) = words_of rest

words_from : (word rest : List ℕ) → LacksSpace word → EndsWord rest → words_of (word ++ rest) ≡ word ∷ words_behind rest
words_from word [] lacks ends = ap words_of (append-nil word) ∙ slice_split_none (λ b. b == space) word (All-from_recursion (λ b. (b == space) ≡ false) word lacks)
words_from word (b ∷ rest) lacks ends = slice_split_at (λ b. b == space) word b rest (All-from_recursion (λ b. (b == space) ≡ false) word lacks) (ap (λ c. c == space) ends)

-- the first word is a decimal of the number that was read
says_number : (text left rest : List ℕ) (negative : Bool) (size : ℕ) (z : ℤ) → negative ≡ starts_with_minus text → left ≡ without_leading_sign text → HasDigits left size rest → z ≡ with_sign negative size → FitsSigned w32 z → EndsWord rest
    → SaysNumber (words_of text) z (words_behind rest)
says_number text left rest negative size z minus is has number fits ends =
    let w = signed_word text has.digits rest (sym is ∙ has.split) has.numeral.0 in
    let numeral : IsNumeral 10 (without_leading_sign w.word) = subst (IsNumeral 10) (sym w.unsigned) has.numeral in
    let value : z ≡ with_sign (starts_with_minus w.word) (digits_value 10 (without_leading_sign w.word)) = number ∙ (λ i. with_sign ((minus ∙ sym w.minus) i) ((has.writes ∙ ap (digits_value 10) (sym w.unsigned)) i)) in
    (w.word, ap words_of w.split ∙ words_from w.word rest (word_lacks_space w.word numeral.1) ends, (numeral, fits, value))

-- the only word of a text is a decimal of the number that was read
pub says_last : (text left rest : List ℕ) (negative : Bool) (size : ℕ) (z : ℤ) → negative ≡ starts_with_minus text → left ≡ without_leading_sign text → HasDigits left size rest → z ≡ with_sign negative size → FitsSigned w32 z → length rest ≡ 0
    → SaysNumber (words_of text) z []
says_last text left [] negative size z minus is has number fits none = says_number text left [] negative size z minus is has number fits tt
says_last text left (b ∷ rest) negative size z minus is has number fits none = absurd (omega (arith, none))

-- the word before a space is a decimal of the number that was read, and the words after the space are left
pub says_before : (text left rest after : List ℕ) (b : ℕ) (negative : Bool) (size : ℕ) (z : ℤ) → negative ≡ starts_with_minus text → left ≡ without_leading_sign text → HasDigits left size rest → z ≡ with_sign negative size → FitsSigned w32 z → rest ≡ b ∷ after → b ≡ space
    → SaysNumber (words_of text) z (words_of after)
says_before text left rest after b negative size z minus is has number fits cut ends = says_number text left (b ∷ after) negative size z minus is (subst (HasDigits left size) cut has) number fits ends

-- the first word of a text ends at its end or at a space
cut_word : (text word : List ℕ) (more : List (List ℕ)) → words_of text ≡ word ∷ more → (tail : List ℕ) × (text ≡ word ++ tail) × EndsWord tail
cut_word text word [] is = ([], sym (join_with_byte-slice_split space text) ∙ ap (join_with_byte space) is ∙ sym (append-nil word), tt)
cut_word text word (next ∷ more) is = (space ∷ join_with_byte space (next ∷ more), sym (join_with_byte-slice_split space text) ∙ ap (join_with_byte space) is, refl)

too_large_fits : (minus : Bool) (size : ℕ) → 2 ^ 31 < size → FitsSigned w32 (with_sign minus size) → ⊥
too_large_fits true zero over fits = omega (arith, over)
too_large_fits true (suc n) over fits = omega (arith, over, fits)
too_large_fits false size over fits = omega (arith, over, fits)

-- if no digits in front fit 32 bits, the first word is no decimal
pub no_number : (text left : List ℕ) → left ≡ without_leading_sign text → ((digits rest : List ℕ) → left ≡ digits ++ rest → EndsWord rest → IsNumeral 10 digits → 2 ^ 31 < digits_value 10 digits)
    → (word : List ℕ) (more : List (List ℕ)) (z : ℤ) → words_of text ≡ word ∷ more → IsDecimal word z → ⊥
no_number text left is none word more z words decimal =
    let (tail, split, ends) = cut_word text word more words in
    let sign = sign_of_word word tail decimal.0.0 in
    let over = none (without_leading_sign word) tail (is ∙ ap without_leading_sign split ∙ sign.0) ends decimal.0 in
    too_large_fits (starts_with_minus word) (digits_value 10 (without_leading_sign word)) over (subst (FitsSigned w32) decimal.2 decimal.1)

-- if digits are read, a decimal that is the first word has their value, and the word ends after them
pub number_of_word : (text left rest : List ℕ) (negative : Bool) (size : ℕ) → negative ≡ starts_with_minus text → left ≡ without_leading_sign text → HasDigits left size rest
    → (word : List ℕ) (more : List (List ℕ)) (z : ℤ) → words_of text ≡ word ∷ more → IsDecimal word z → FitsSigned w32 (with_sign negative size) × EndsWord rest
number_of_word text left rest negative size minus is has word more z words decimal =
    let (tail, split, ends) = cut_word text word more words in
    let sign = sign_of_word word tail decimal.0.0 in
    let same = same_digits has.digits rest (without_leading_sign word) tail has.numeral.1 decimal.0.1 has.ends (ends_word tail ends) (sym has.split ∙ is ∙ ap without_leading_sign split ∙ sign.0) in
    let value : z ≡ with_sign negative size = decimal.2 ∙ (λ i. with_sign (sym (minus ∙ ap starts_with_minus split ∙ sign.1) i) (sym (has.writes ∙ ap (digits_value 10) same.0) i)) in
    (subst (FitsSigned w32) value decimal.1, subst EndsWord (sym same.1) ends)
