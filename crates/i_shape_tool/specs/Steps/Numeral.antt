-- The number at the front of a text. Only private functions cite this.
use Rattle.std.specs.Prelude.{◌≡◌, ◌<◌, ℕ, ℤ, pos, neg_ℤ, Bool, cond, List, [], ◌∷◌, ◌++◌}
use Rattle.std.specs.Str.Parse.{IsNumeral, digits_value}
use Rattle.std.specs.Char.{digit_value}
use Rattle.i_shape_tool.specs.Text.{space, IsDecimal}

-- the text is empty, or begins with a space
abbrev pub EndsWord : List ℕ → Type 0
EndsWord [] = Unit {0}
EndsWord (b ∷ rest) = b ≡ space

-- the text doesn't begin with a digit
abbrev pub EndsDigits : List ℕ → Type 0
EndsDigits [] = Unit {0}
EndsDigits (b ∷ rest) = digit_value b < 10 → ⊥

-- the text is digits whose value is `size`, and then the rest, which doesn't begin with a digit
pub record HasDigits (text : List ℕ) (size : ℕ) (rest : List ℕ) : Type 0 where
  pub digits : List ℕ
  pub split : text ≡ digits ++ rest
  pub numeral : IsNumeral 10 digits
  pub writes : size ≡ digits_value 10 digits
  pub ends : EndsDigits rest

-- the first word is a decimal of z, and `more` are the others
abbrev pub SaysNumber : List (List ℕ) → ℤ → List (List ℕ) → Type 0
SaysNumber words z more = (word : List ℕ) × (words ≡ word ∷ more) × IsDecimal word z

-- the number of this size, negated if `negative`
abbrev pub with_sign : Bool → ℕ → ℤ
with_sign negative size = cond negative (neg_ℤ (pos size)) (pos size)
