-- Laws of concatenated lists.
use Rattle.std.proofs.Common.{◌≡◌, ◌⊎◌, ℕ, List, [], ◌∷◌, ◌++◌, length, take, drop, inl, inr, refl, sym, subst}
use Rattle.std.proofs.Math.Seq.{take-append_seam, drop-append_seam}

-- the first n items of xs ++ ys are xs, if xs has n items
pub front_taken : {A : Type 0} (n : ℕ) (xs ys : List A) → length xs ≡ n → take n (xs ++ ys) ≡ xs
front_taken n xs ys many = subst (λ m. take m (xs ++ ys) ≡ xs) many (take-append_seam xs ys)

-- xs ++ ys without its first n items is ys, if xs has n items
pub back_left : {A : Type 0} (n : ℕ) (xs ys : List A) → length xs ≡ n → drop n (xs ++ ys) ≡ ys
back_left n xs ys many = subst (λ m. drop m (xs ++ ys) ≡ ys) many (drop-append_seam xs ys)

-- equal lists have equal first items
pub same_head : {A : Type 0} (a b : A) (x y : List A) → a ∷ x ≡ b ∷ y → a ≡ b
same_head a b x y e = cc

-- equal lists have equal rests
pub same_tail : {A : Type 0} (a b : A) (x y : List A) → a ∷ x ≡ b ∷ y → x ≡ y
same_tail a b x y e = cc

-- if u ++ t is x ++ y, one cut lies within a part of the other
abbrev pub Seams : {A : Type 0} (u t x y : List A) → Type 0
Seams {A} u t x y = ((w : List A) × (x ≡ u ++ w) × (t ≡ w ++ y)) ⊎ ((w : List A) × (u ≡ x ++ w) × (y ≡ w ++ t))

-- of two ways to cut a list, one cut lies within a part of the other
pub two_seams : {A : Type 0} (u t x y : List A) → u ++ t ≡ x ++ y → Seams u t x y
two_seams [] t x y e = inl (x, refl, e)
two_seams (a ∷ u) t [] y e = inr (a ∷ u, refl, sym e)
two_seams {A} (a ∷ u) t (b ∷ x) y e = go (two_seams u t x y (same_tail a b (u ++ t) (x ++ y) e))
  where
    head : a ≡ b
    head = same_head a b (u ++ t) (x ++ y) e

    go : Seams u t x y → Seams (a ∷ u) t (b ∷ x) y
    go (inl r) = let p = r.1 in inl (r.0, cc, r.2)
    go (inr r) = let p = r.1 in inr (r.0, cc, r.2)
