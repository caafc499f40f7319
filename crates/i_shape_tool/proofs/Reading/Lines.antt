-- What a line reads, word by word.
use Rattle.std.proofs.Common.{◌≡◌, ℕ, ◌<◌, List, [], ◌∷◌, ◌++◌, length, refl, sym, ap, ◌∙◌, subst, arith, Bool, true, false, ◌==◌, cond, drop, append_assoc, append-nil, ℤ}
use Rattle.std.specs.List.{join_with_byte, AllByRecursion}
use Rattle.std.specs.Str.Parse.{AllDigits, without_leading_sign}
use Rattle.std.proofs.lemmas.Bool.Decides.{nat_tests}
use Rattle.std.proofs.lemmas.List.Splits.{slice_split_none, slice_split_at, join_with_byte-slice_split, length-slice_split}
use Rattle.std.proofs.lemmas.List.Elements.{All-from_recursion}
use Rattle.std.proofs.lemmas.Str.Parse.{digit_from_value}
use Rattle.i_shape.specs.Point.{Point}
use Rattle.i_shape_tool.specs.Text.{space, IsDecimal, SayPoints, SayPoint, Reads, ReadsNone, words_of}
use Rattle.i_shape_tool.specs.Steps.Numeral.{SaysNumber}

-- no byte of the text is a space
abbrev pub LacksSpace : List ℕ → Type 0
LacksSpace = AllByRecursion (λ b. (b == space) ≡ false)

digits_lack_space : (ds : List ℕ) → AllDigits 10 ds → LacksSpace ds
digits_lack_space [] digits = tt
digits_lack_space (d ∷ ds) digits =
    let range = digit_from_value d digits.0 in
    (grind (arith, nat_tests), digits_lack_space ds digits.1)

signed_lacks_space : (b : ℕ) (bs : List ℕ) (minus plus : Bool) → (b == 45) ≡ minus → (b == 43) ≡ plus → AllDigits 10 (cond minus bs (drop (cond plus 1 0) (b ∷ bs))) → LacksSpace (b ∷ bs)
signed_lacks_space b bs true plus is_minus is_plus digits = (grind (arith, nat_tests), digits_lack_space bs digits)
signed_lacks_space b bs false true is_minus is_plus digits = (grind (arith, nat_tests), digits_lack_space bs digits)
signed_lacks_space b bs false false is_minus is_plus digits = digits_lack_space (b ∷ bs) digits

-- a word of digits, with at most a sign in front, has no space
pub word_lacks_space : (word : List ℕ) → AllDigits 10 (without_leading_sign word) → LacksSpace word
word_lacks_space [] digits = tt
word_lacks_space (b ∷ bs) digits = signed_lacks_space b bs (b == 45) (b == 43) refl refl digits

-- the words of joined words without spaces are those words
parts_of_joined : (word : List ℕ) (words : List (List ℕ)) → AllByRecursion LacksSpace (word ∷ words) → words_of (join_with_byte space (word ∷ words)) ≡ word ∷ words
parts_of_joined word [] lack = slice_split_none (λ b. b == space) word (All-from_recursion (λ b. (b == space) ≡ false) word lack.0)
parts_of_joined word (next ∷ words) lack =
    slice_split_at (λ b. b == space) word space (join_with_byte space (next ∷ words)) (All-from_recursion (λ b. (b == space) ≡ false) word lack.0) refl
    ∙ ap (λ l. word ∷ l) (parts_of_joined next words lack.1)

says_lack_space : (words : List (List ℕ)) (c : List Point) → SayPoints words c → AllByRecursion LacksSpace words
says_lack_space [] c says = tt
says_lack_space (x ∷ []) c says = absurd says
says_lack_space (x ∷ y ∷ words) [] says = absurd says
says_lack_space (x ∷ y ∷ words) (p ∷ c) says =
    (word_lacks_space x says.0.0.1, (word_lacks_space y says.1.0.1, says_lack_space words c says.2))

-- a text has at least one word
pub some_word : (text : List ℕ) → 0 < length (words_of text)
some_word text = omega (arith, length-slice_split (λ b. b == space) text)

-- if the first word is no decimal, the words are no points
pub no_first : (words : List (List ℕ)) → 0 < length words → ((word : List ℕ) (more : List (List ℕ)) (z : ℤ) → words ≡ word ∷ more → IsDecimal word z → ⊥) → (c : List Point) → SayPoints words c → ⊥
no_first [] some none c says = omega (arith, some)
no_first (x ∷ []) some none c says = says
no_first (x ∷ y ∷ words) some none [] says = says
no_first (x ∷ y ∷ words) some none (p ∷ c) says = none x (y ∷ words) p.x refl says.0

-- if the second word is no decimal, the words are no points
pub no_second : (words left : List (List ℕ)) (z : ℤ) → SaysNumber words z left → 0 < length left → ((word : List ℕ) (more : List (List ℕ)) (y : ℤ) → left ≡ word ∷ more → IsDecimal word y → ⊥) → (c : List Point) → SayPoints words c → ⊥
no_second words [] z first some none c says = omega (arith, some)
no_second words (y ∷ more) z (x, is, decimal) some none c says = go c (subst (λ ws. SayPoints ws c) is says)
  where
    go : (c : List Point) → SayPoints (x ∷ y ∷ more) c → ⊥
    go [] h = h
    go (p ∷ c) h = none y more p.y refl h.1

-- if the words left are some points, all words are those appended to `done`; if all words are points, so are the words
-- left
pub record HasRead (words left : List (List ℕ)) (done : List Point) : Type 0 where
  pub onward : (c : List Point) → SayPoints left c → SayPoints words (done ++ c)
  pub back : (c : List Point) → SayPoints words c → (d : List Point) × SayPoints left d

-- reading two decimals appends their point to `done`
pub read_point : (words left more : List (List ℕ)) (done : List Point) (p : Point) → HasRead words left done → SayPoint left p more → HasRead words more (done ++ p ∷ [])
read_point words left more done p read (x, y, is, says_x, says_y) = record {
  onward = λ c says. rw append_assoc (read.onward (p ∷ c) (subst (λ ws. SayPoints ws (p ∷ c)) (sym is) (says_x, says_y, says)));
  back = λ c says. let (d, rest) = read.back c says in behind d (subst (λ ws. SayPoints ws d) is rest);
}
  where
    behind : (d : List Point) → SayPoints (x ∷ y ∷ more) d → (e : List Point) × SayPoints more e
    behind [] h = absurd h
    behind (q ∷ d) h = (d, h.2)

-- if no word is left, the line reads `done`
pub read_all : (line : List ℕ) (done : List Point) → HasRead (words_of line) [] done → Reads line done
read_all line done read = (words_of line, sym (join_with_byte-slice_split space line), subst (SayPoints (words_of line)) (append-nil done) (read.onward [] tt))

-- the words that make a nonempty line are its parts between spaces
pub words_are_parts : (line : List ℕ) (words : List (List ℕ)) (d : List Point) → 0 < length line → line ≡ join_with_byte space words → SayPoints words d → words_of line ≡ words
words_are_parts line [] d nonempty is says = absurd (omega (arith, ap length is))
words_are_parts line (word ∷ words) d nonempty is says = ap words_of is ∙ parts_of_joined word words (says_lack_space (word ∷ words) d says)

-- if the words left are no points, the line reads no contour
pub read_none : (line : List ℕ) (left : List (List ℕ)) (done : List Point) → 0 < length line → HasRead (words_of line) left done → ((c : List Point) → SayPoints left c → ⊥) → ReadsNone line
read_none line left done nonempty read none d (words, is, says) =
    let (c, rest) = read.back d (subst (λ ws. SayPoints ws d) (sym (words_are_parts line words d nonempty is says)) says) in
    none c rest
