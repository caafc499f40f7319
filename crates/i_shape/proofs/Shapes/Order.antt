-- The order of shapes, contour by contour.
use Rattle.std.proofs.Common.{◌≡◌, ◌⊎◌, inl, inr, List, [], ◌∷◌, refl, sym, ◌∙◌, subst}
use Rattle.i_shape.proofs.Common.{Point, IsAtMost, IsShapeAtMost}
use Rattle.i_shape_core.proofs.Removal.Repeats.{same_decided}
use Rattle.i_shape_core.proofs.LeastRotation.Order.{at_most_total, at_most_trans, at_most_antisym}

-- equality of lists is decidable if that of their items is
module _ {X : Type 0} (decide : (x y : X) → Dec (x ≡ y)) where
  list_decided : (xs ys : List X) → Dec (xs ≡ ys)
  list_decided [] [] = yes refl
  list_decided [] (y ∷ ys) = no (λ e. cc)
  list_decided (x ∷ xs) [] = no (λ e. cc)
  list_decided (x ∷ xs) (y ∷ ys) = go (decide x y) (list_decided xs ys)
    where
      go : Dec (x ≡ y) → Dec (xs ≡ ys) → Dec (x ∷ xs ≡ y ∷ ys)
      go (yes e) (yes f) = yes (λ i. e i ∷ f i)
      go (yes e) (no f) = no (λ h. f cc)
      go (no e) f = no (λ h. e cc)

-- equality of contours is decidable
pub contour_decided : (c d : List Point) → Dec (c ≡ d)
contour_decided = list_decided same_decided

-- equality of shapes is decidable
pub shape_decided : (s t : List (List Point)) → Dec (s ≡ t)
shape_decided = list_decided contour_decided

-- a shape is at most itself
pub shape_itself : (s : List (List Point)) → IsShapeAtMost s s
shape_itself [] = tt
shape_itself (c ∷ s) = inr (refl, shape_itself s)

-- two shapes that are each at most the other are equal
pub shape_antisym : (s t : List (List Point)) → IsShapeAtMost s t → IsShapeAtMost t s → s ≡ t
shape_antisym [] [] h k = refl
shape_antisym [] (d ∷ t) h k = absurd k
shape_antisym (c ∷ s) [] h k = absurd h
shape_antisym (c ∷ s) (d ∷ t) (inl h) (inl k) = absurd (h.1 (at_most_antisym c d h.0 k.0))
shape_antisym (c ∷ s) (d ∷ t) (inl h) (inr k) = absurd (h.1 (sym k.0))
shape_antisym (c ∷ s) (d ∷ t) (inr h) (inl k) = absurd (k.1 (sym h.0))
shape_antisym (c ∷ s) (d ∷ t) (inr h) (inr k) = let rest = shape_antisym s t h.1 k.1 in λ i. h.0 i ∷ rest i

-- of two shapes one is at most the other
pub shape_total : (s t : List (List Point)) → IsShapeAtMost s t ⊎ IsShapeAtMost t s
shape_total [] t = inl tt
shape_total (c ∷ s) [] = inr tt
shape_total (c ∷ s) (d ∷ t) = go (contour_decided c d) (at_most_total c d) (shape_total s t)
  where
    go : Dec (c ≡ d) → IsAtMost c d ⊎ IsAtMost d c → IsShapeAtMost s t ⊎ IsShapeAtMost t s → IsShapeAtMost (c ∷ s) (d ∷ t) ⊎ IsShapeAtMost (d ∷ t) (c ∷ s)
    go (yes e) h (inl k) = inl (inr (e, k))
    go (yes e) h (inr k) = inr (inr (sym e, k))
    go (no n) (inl h) k = inl (inl (h, n))
    go (no n) (inr h) k = inr (inl (h, λ e. n (sym e)))

-- `IsShapeAtMost` is transitive
pub shape_trans : (s t u : List (List Point)) → IsShapeAtMost s t → IsShapeAtMost t u → IsShapeAtMost s u
shape_trans [] t u h k = tt
shape_trans (c ∷ s) [] u h k = absurd h
shape_trans (c ∷ s) (d ∷ t) [] h k = absurd k
shape_trans (c ∷ s) (d ∷ t) (e ∷ u) (inl h) (inl k) =
    inl (at_most_trans c d e h.0 k.0, λ comes_level. h.1 (at_most_antisym c d h.0 (subst (λ (w : List Point). IsAtMost d w) (sym comes_level) k.0)))
shape_trans (c ∷ s) (d ∷ t) (e ∷ u) (inl h) (inr k) = inl (subst (λ (w : List Point). IsAtMost c w × (c ≡ w → ⊥)) k.0 h)
shape_trans (c ∷ s) (d ∷ t) (e ∷ u) (inr h) (inl k) = inl (subst (λ (w : List Point). IsAtMost w e × (w ≡ e → ⊥)) (sym h.0) k)
shape_trans (c ∷ s) (d ∷ t) (e ∷ u) (inr h) (inr k) = inr (h.0 ∙ k.0, shape_trans s t u h.1 k.1)
