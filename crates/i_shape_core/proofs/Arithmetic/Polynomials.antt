-- Polynomial identities over ℤ, by computation. A `Term` is a polynomial as written, and `normal` brings it into a sum
-- of monomials with coefficients, in which no monomial occurs twice. If that sum is empty, the term is 0 at all values.
use Rattle.std.proofs.Common.{T, ◌≡◌, ℕ, zero, suc, Bool, true, false, cond, eqb, ltb, List, [], ◌∷◌, get_or, ℤ, pos, negsuc, ◌+ℤ◌, ◌*ℤ◌, neg_ℤ, ap, refl, sym, subst, ◌∙◌, arith, eqb→eq}
use Rattle.std.proofs.lemmas.Int.{ints}
use Rattle.std.proofs.Math.IntN.{+ℤ_idl, +ℤ_assoc, *ℤ_comm, zero-*ℤ}
use Rattle.i_shape_core.proofs.Arithmetic.WholeNumbers.{add-mul, mul-add, mul_assoc, one-mul, equal_of_difference, add_swap}

-- a polynomial as written
pub data Term : Type 0 where
  number : ℤ → Term
  variable : ℕ → Term
  plus : Term → Term → Term
  times : Term → Term → Term
  minus : Term → Term

-- the value of a term whose variables have the values v
abbrev pub value : List ℤ → Term → ℤ
value v (number n) = n
value v (variable k) = get_or v k (pos 0)
value v (plus s t) = value v s +ℤ value v t
value v (times s t) = value v s *ℤ value v t
value v (minus t) = neg_ℤ (value v t)

-- a coefficient and a product of variables, whose indices are in order
pub record Monomial : Type 0 where
  pub factor : ℤ
  pub places : List ℕ

-- the value of a product of variables
abbrev pub product : List ℤ → List ℕ → ℤ
product v [] = pos 1
product v (k ∷ ks) = get_or v k (pos 0) *ℤ product v ks

-- the value of a sum of monomials
abbrev pub total : List ℤ → List Monomial → ℤ
total v [] = pos 0
total v (m ∷ ms) = m.factor *ℤ product v m.places +ℤ total v ms

-- whether two products have the same variables
abbrev pub same_variables : List ℕ → List ℕ → Bool
same_variables [] [] = true
same_variables [] (k ∷ ks) = false
same_variables (j ∷ js) [] = false
same_variables (j ∷ js) (k ∷ ks) = cond (eqb j k) (same_variables js ks) false

-- whether a coefficient is zero
abbrev pub is_zero : ℤ → Bool
is_zero (pos zero) = true
is_zero (pos (suc n)) = false
is_zero (negsuc n) = false

-- a monomial before others, unless its coefficient is zero
abbrev pub unless_zero : ℤ → List ℕ → List Monomial → List Monomial
unless_zero n ks ms = cond (is_zero n) ms (record { factor = n; places = ks } ∷ ms)

-- the sum of a monomial and a sum of monomials
abbrev pub with_monomial : ℤ → List ℕ → List Monomial → List Monomial
with_monomial n ks [] = record { factor = n; places = ks } ∷ []
with_monomial n ks (m ∷ ms) = cond (same_variables ks m.places) (unless_zero (n +ℤ m.factor) ks ms) (m ∷ with_monomial n ks ms)

-- the sum of two sums
abbrev pub sum_of : List Monomial → List Monomial → List Monomial
sum_of [] qs = qs
sum_of (m ∷ ms) qs = with_monomial m.factor m.places (sum_of ms qs)

-- inserts a variable into an ordered product
abbrev pub with_variable : ℕ → List ℕ → List ℕ
with_variable k [] = k ∷ []
with_variable k (j ∷ js) = cond (ltb j k) (j ∷ with_variable k js) (k ∷ j ∷ js)

-- the variables of two products in order
abbrev pub merged_variables : List ℕ → List ℕ → List ℕ
merged_variables [] js = js
merged_variables (k ∷ ks) js = with_variable k (merged_variables ks js)

-- a sum times a monomial
abbrev pub times_monomial : ℤ → List ℕ → List Monomial → List Monomial
times_monomial n ks [] = []
times_monomial n ks (m ∷ ms) = with_monomial (n *ℤ m.factor) (merged_variables ks m.places) (times_monomial n ks ms)

-- the product of two sums
abbrev pub product_of : List Monomial → List Monomial → List Monomial
product_of [] qs = []
product_of (m ∷ ms) qs = sum_of (times_monomial m.factor m.places qs) (product_of ms qs)

-- the polynomial as a sum of monomials
abbrev pub normal : Term → List Monomial
normal (number n) = unless_zero n [] []
normal (variable k) = record { factor = pos 1; places = k ∷ [] } ∷ []
normal (plus s t) = sum_of (normal s) (normal t)
normal (times s t) = product_of (normal s) (normal t)
normal (minus t) = times_monomial (negsuc 0) [] (normal t)

-- ---- `normal` keeps the value
same_is : (js ks : List ℕ) → T (same_variables js ks) → js ≡ ks
same_is [] [] h = refl
same_is [] (k ∷ ks) h = absurd h
same_is (j ∷ js) [] h = absurd h
same_is (j ∷ js) (k ∷ ks) h = first (same_is js ks) (eqb j k) refl h
  where
    first : (T (same_variables js ks) → js ≡ ks) → (t : Bool) → eqb j k ≡ t → T (cond t (same_variables js ks) false) → j ∷ js ≡ k ∷ ks
    first rest true e h = ap (λ (n : ℕ). n ∷ js) (eqb→eq j k (subst T (sym e) tt)) ∙ ap (λ (ns : List ℕ). k ∷ ns) (rest h)
    first rest false e h = absurd h

same_is_path : (js ks : List ℕ) → same_variables js ks ≡ true → js ≡ ks
same_is_path js ks e = same_is js ks (subst T (sym e) tt)

kept_total : (v : List ℤ) (n : ℤ) (ks : List ℕ) (ms : List Monomial) → total v (unless_zero n ks ms) ≡ n *ℤ product v ks +ℤ total v ms
kept_total v (pos zero) ks ms = sym (ap (λ (z : ℤ). z +ℤ total v ms) (zero-*ℤ (product v ks)) ∙ +ℤ_idl (total v ms))
kept_total v (pos (suc n)) ks ms = refl
kept_total v (negsuc n) ks ms = refl

with_monomial_total : (v : List ℤ) (n : ℤ) (ks : List ℕ) (ms : List Monomial) → total v (with_monomial n ks ms) ≡ n *ℤ product v ks +ℤ total v ms
with_monomial_total v n ks [] = refl
with_monomial_total v n ks (m ∷ ms) = step (with_monomial_total v n ks ms) (same_variables ks m.places) refl
  where
    step : total v (with_monomial n ks ms) ≡ n *ℤ product v ks +ℤ total v ms → (t : Bool) → same_variables ks m.places ≡ t → total v (cond t (unless_zero (n +ℤ m.factor) ks ms) (m ∷ with_monomial n ks ms)) ≡ n *ℤ product v ks +ℤ (m.factor *ℤ product v m.places +ℤ total v ms)
    step rest true e = kept_total v (n +ℤ m.factor) ks ms
        ∙ ap (λ (z : ℤ). z +ℤ total v ms) (add-mul n m.factor (product v ks))
        ∙ +ℤ_assoc (n *ℤ product v ks) (m.factor *ℤ product v ks) (total v ms)
        ∙ ap (λ (ns : List ℕ). n *ℤ product v ks +ℤ (m.factor *ℤ product v ns +ℤ total v ms)) (same_is_path ks m.places e)
    step rest false e = ap (λ (z : ℤ). m.factor *ℤ product v m.places +ℤ z) rest
        ∙ add_swap (m.factor *ℤ product v m.places) (n *ℤ product v ks) (total v ms)

sum_of_total : (v : List ℤ) (ms qs : List Monomial) → total v (sum_of ms qs) ≡ total v ms +ℤ total v qs
sum_of_total v [] qs = sym (+ℤ_idl (total v qs))
sum_of_total v (m ∷ ms) qs = with_monomial_total v m.factor m.places (sum_of ms qs)
    ∙ ap (λ (z : ℤ). m.factor *ℤ product v m.places +ℤ z) (sum_of_total v ms qs)
    ∙ sym (+ℤ_assoc (m.factor *ℤ product v m.places) (total v ms) (total v qs))

swapped_factors : (a b c : ℤ) → a *ℤ (b *ℤ c) ≡ b *ℤ (a *ℤ c)
swapped_factors a b c = sym (mul_assoc a b c) ∙ ap (λ (z : ℤ). z *ℤ c) (*ℤ_comm a b) ∙ mul_assoc b a c

inserted_product : (v : List ℤ) (k : ℕ) (js : List ℕ) → product v (with_variable k js) ≡ get_or v k (pos 0) *ℤ product v js
inserted_product v k [] = refl
inserted_product v k (j ∷ js) = step (inserted_product v k js) (ltb j k)
  where
    step : product v (with_variable k js) ≡ get_or v k (pos 0) *ℤ product v js → (t : Bool) → product v (cond t (j ∷ with_variable k js) (k ∷ j ∷ js)) ≡ get_or v k (pos 0) *ℤ (get_or v j (pos 0) *ℤ product v js)
    step rest true = ap (λ (z : ℤ). get_or v j (pos 0) *ℤ z) rest ∙ swapped_factors (get_or v j (pos 0)) (get_or v k (pos 0)) (product v js)
    step rest false = refl

merged_product : (v : List ℤ) (ks js : List ℕ) → product v (merged_variables ks js) ≡ product v ks *ℤ product v js
merged_product v [] js = sym (one-mul (product v js))
merged_product v (k ∷ ks) js = inserted_product v k (merged_variables ks js)
    ∙ ap (λ (z : ℤ). get_or v k (pos 0) *ℤ z) (merged_product v ks js)
    ∙ sym (mul_assoc (get_or v k (pos 0)) (product v ks) (product v js))

four_factors : (a b c d : ℤ) → (a *ℤ b) *ℤ (c *ℤ d) ≡ (a *ℤ c) *ℤ (b *ℤ d)
four_factors a b c d = mul_assoc a b (c *ℤ d) ∙ ap (λ (z : ℤ). a *ℤ z) (swapped_factors b c d) ∙ sym (mul_assoc a c (b *ℤ d))

scaled_total : (v : List ℤ) (n : ℤ) (ks : List ℕ) (ms : List Monomial) → total v (times_monomial n ks ms) ≡ (n *ℤ product v ks) *ℤ total v ms
scaled_total v n ks [] = sym (*ℤ_comm (n *ℤ product v ks) (pos 0) ∙ zero-*ℤ (n *ℤ product v ks))
scaled_total v n ks (m ∷ ms) = with_monomial_total v (n *ℤ m.factor) (merged_variables ks m.places) (times_monomial n ks ms)
    ∙ ap (λ (z : ℤ). (n *ℤ m.factor) *ℤ z +ℤ total v (times_monomial n ks ms)) (merged_product v ks m.places)
    ∙ ap (λ (z : ℤ). z +ℤ total v (times_monomial n ks ms)) (four_factors n m.factor (product v ks) (product v m.places))
    ∙ ap (λ (z : ℤ). (n *ℤ product v ks) *ℤ (m.factor *ℤ product v m.places) +ℤ z) (scaled_total v n ks ms)
    ∙ sym (mul-add (n *ℤ product v ks) (m.factor *ℤ product v m.places) (total v ms))

product_of_total : (v : List ℤ) (ms qs : List Monomial) → total v (product_of ms qs) ≡ total v ms *ℤ total v qs
product_of_total v [] qs = sym (zero-*ℤ (total v qs))
product_of_total v (m ∷ ms) qs = sum_of_total v (times_monomial m.factor m.places qs) (product_of ms qs)
    ∙ ap (λ (z : ℤ). z +ℤ total v (product_of ms qs)) (scaled_total v m.factor m.places qs)
    ∙ ap (λ (z : ℤ). (m.factor *ℤ product v m.places) *ℤ total v qs +ℤ z) (product_of_total v ms qs)
    ∙ sym (add-mul (m.factor *ℤ product v m.places) (total v ms) (total v qs))

one_more : (a : ℤ) → pos 1 *ℤ (a *ℤ pos 1) +ℤ pos 0 ≡ a
one_more a = omega (arith, ints)

number_total : (n : ℤ) → n *ℤ pos 1 +ℤ pos 0 ≡ n
number_total n = omega (arith, ints)

minus_one : (a : ℤ) → (negsuc 0 *ℤ pos 1) *ℤ a ≡ neg_ℤ a
minus_one a = omega (arith, ints)

normal_total : (v : List ℤ) (t : Term) → total v (normal t) ≡ value v t
normal_total v (number n) = kept_total v n [] [] ∙ number_total n
normal_total v (variable k) = one_more (get_or v k (pos 0))
normal_total v (plus s t) = sum_of_total v (normal s) (normal t) ∙ ap (λ (z : ℤ). z +ℤ total v (normal t)) (normal_total v s) ∙ ap (λ (z : ℤ). value v s +ℤ z) (normal_total v t)
normal_total v (times s t) = product_of_total v (normal s) (normal t) ∙ ap (λ (z : ℤ). z *ℤ total v (normal t)) (normal_total v s) ∙ ap (λ (z : ℤ). value v s *ℤ z) (normal_total v t)
normal_total v (minus t) = scaled_total v (negsuc 0) [] (normal t) ∙ ap (λ (z : ℤ). (negsuc 0 *ℤ pos 1) *ℤ z) (normal_total v t) ∙ minus_one (value v t)

-- two terms are equal at all values if their difference has no monomials
pub by_polynomials : (v : List ℤ) (s t : Term) → normal (plus s (minus t)) ≡ [] → value v s ≡ value v t
by_polynomials v s t e = equal_of_difference (value v s) (value v t) (sym (normal_total v (plus s (minus t))) ∙ ap (total v) e)
