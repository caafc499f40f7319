-- The order of points and of lists of points.
use Rattle.std.proofs.Common.{◌≡◌, ◌⊎◌, List, [], ◌∷◌, ℤ, ◌<ℤ◌, ◌≤ℤ◌, inl, inr, refl, sym, ◌∙◌, subst, arith}
use Rattle.std.proofs.lemmas.Int.{ints, by_lt_z}
use Rattle.i_shape_core.proofs.Common.{Point, IsBefore, IsAtMost}
use Rattle.i_shape_core.proofs.Plane.CrossProducts.{same_point}

-- p comes before q, equals it, or comes after it
pub data Order3 (p q : Point) : Type 0 where
  comes_before : IsBefore p q → Order3 p q
  comes_level : p ≡ q → Order3 p q
  comes_after : IsBefore q p → Order3 p q

before_by_x : (p q : Point) → p.x <ℤ q.x → IsBefore p q
before_by_x p q h = inl h

before_by_y : (p q : Point) → p.x ≡ q.x → p.y <ℤ q.y → IsBefore p q
before_by_y p q e h = inr (e, h)

antisym_z : (a b : ℤ) → a ≤ℤ b → b ≤ℤ a → a ≡ b
antisym_z a b h k = omega (arith, ints)

order3_y : (p q : Point) → p.x ≡ q.x → Order3 p q
order3_y p q e = by_lt_z p.y q.y (λ h. comes_before (before_by_y p q e h)) (λ h. by_lt_z q.y p.y (λ k. comes_after (before_by_y q p (sym e) k)) (λ k. comes_level (same_point p q e (antisym_z p.y q.y k h))))

-- any two points are in this order
pub order3 : (p q : Point) → Order3 p q
order3 p q = by_lt_z p.x q.x (λ h. comes_before (before_by_x p q h)) (λ h. by_lt_z q.x p.x (λ k. comes_after (before_by_x q p k)) (λ k. order3_y p q (antisym_z p.x q.x k h)))

-- coming before is transitive
pub before_trans : (p q r : Point) → IsBefore p q → IsBefore q r → IsBefore p r
before_trans p q r (inl a) (inl b) = inl (omega (arith, ints))
before_trans p q r (inl a) (inr b) = inl (omega (arith, ints))
before_trans p q r (inr a) (inl b) = inl (omega (arith, ints))
before_trans p q r (inr a) (inr b) = inr (omega (arith, ints), omega (arith, ints))

-- two points don't both come before the other
pub before_clash : (p q : Point) → IsBefore p q → IsBefore q p → ⊥
before_clash p q (inl a) (inl b) = omega (arith, ints)
before_clash p q (inl a) (inr b) = omega (arith, ints)
before_clash p q (inr a) (inl b) = omega (arith, ints)
before_clash p q (inr a) (inr b) = omega (arith, ints)

-- a list is at most itself
pub at_most_refl : (c : List Point) → IsAtMost c c
at_most_refl [] = tt
at_most_refl (p ∷ c) = inr (refl, at_most_refl c)

-- of two lists one is at most the other
pub at_most_total : (c d : List Point) → IsAtMost c d ⊎ IsAtMost d c
at_most_total [] d = inl tt
at_most_total (p ∷ c) [] = inr tt
at_most_total (p ∷ c) (q ∷ d) = go (order3 p q) (at_most_total c d)
  where
    go : Order3 p q → IsAtMost c d ⊎ IsAtMost d c → IsAtMost (p ∷ c) (q ∷ d) ⊎ IsAtMost (q ∷ d) (p ∷ c)
    go (comes_before h) t = inl (inl h)
    go (comes_after h) t = inr (inl h)
    go (comes_level e) (inl t) = inl (inr (e, t))
    go (comes_level e) (inr t) = inr (inr (sym e, t))

-- being at most is transitive
pub at_most_trans : (c d e : List Point) → IsAtMost c d → IsAtMost d e → IsAtMost c e
at_most_trans [] d e h k = tt
at_most_trans (p ∷ c) [] e h k = absurd h
at_most_trans (p ∷ c) (q ∷ d) [] h k = absurd k
at_most_trans (p ∷ c) (q ∷ d) (r ∷ e) (inl h) (inl k) = inl (before_trans p q r h k)
at_most_trans (p ∷ c) (q ∷ d) (r ∷ e) (inl h) (inr k) = inl (subst (λ (x : Point). IsBefore p x) k.0 h)
at_most_trans (p ∷ c) (q ∷ d) (r ∷ e) (inr h) (inl k) = inl (subst (λ (x : Point). IsBefore x r) (sym h.0) k)
at_most_trans (p ∷ c) (q ∷ d) (r ∷ e) (inr h) (inr k) = inr (h.0 ∙ k.0, at_most_trans c d e h.1 k.1)

-- lists that are at most each other are equal
pub at_most_antisym : (c d : List Point) → IsAtMost c d → IsAtMost d c → c ≡ d
at_most_antisym [] [] h k = refl
at_most_antisym [] (q ∷ d) h k = absurd k
at_most_antisym (p ∷ c) [] h k = absurd h
at_most_antisym (p ∷ c) (q ∷ d) (inl h) (inl k) = absurd (before_clash p q h k)
at_most_antisym (p ∷ c) (q ∷ d) (inl h) (inr k) = let x = subst (λ (x : Point). IsBefore p x) k.0 h in absurd (before_clash p p x x)
at_most_antisym (p ∷ c) (q ∷ d) (inr h) (inl k) = let x = subst (λ (x : Point). IsBefore q x) h.0 k in absurd (before_clash q q x x)
at_most_antisym (p ∷ c) (q ∷ d) (inr h) (inr k) = let e = at_most_antisym c d h.1 k.1 in let f = h.0 in cc
