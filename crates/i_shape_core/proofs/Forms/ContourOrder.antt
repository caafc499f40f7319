-- What comparisons of points and of lists of points return.
use Rattle.std.proofs.Common.{◌≡◌, inl, inr, ℤ, ◌<ℤ◌, List, [], ◌∷◌, map, false, true≢false, refl, sym, subst, Ordering, Less, Equal, Greater}
use Rattle.std.specs.Cmp.{IsTotalOrder}
use Rattle.std.specs.Cmp.Lexicographic.{slice_cmp}
use Rattle.std.specs.Ordering.{MatchOrdering, ordering_then, is_lt, int_cmp}
use Rattle.std.proofs.lemmas.Cmp.{int_ranked, then_total, on_total}
use Rattle.i_shape_core.proofs.Common.{Point, point_of, IntPoint, IsBefore, IsAtMost}
use Rattle.i_shape_core.proofs.LeastRotation.Order.{at_most_refl, before_clash}

-- cmp returns the order of the images under f, if Before is a strict order
abbrev pub Tells : {X Y : Type 0} → (X → X → Ordering) → (X → Y) → (Y → Y → Type 0) → Type 0
Tells {X} cmp f Before = (x y : X) → MatchOrdering (cmp x y) (Before (f x) (f y)) (f x ≡ f y) (Before (f y) (f x))

-- c comes before d
abbrev pub IsContourBefore : List Point → List Point → Type 0
IsContourBefore c d = IsAtMost c d × (c ≡ d → ⊥)

module _ {X : Type 0} (cmp : X → X → Ordering) (f : X → Point) (told : Tells cmp f IsBefore) where
  longer : (x : X) (xs : List X) → IsContourBefore [] (map f (x ∷ xs))
  longer x xs = (tt, (λ e. cc))

  before_at : (p q : Point) (c d : List Point) → IsBefore p q → IsContourBefore (p ∷ c) (q ∷ d)
  before_at p q c d h = (inl h, (λ e. let same : p ≡ q = cc in let x = subst (λ (z : Point). IsBefore p z) (sym same) h in before_clash p p x x))

  before_on : (p q : Point) (c d : List Point) → p ≡ q → IsContourBefore c d → IsContourBefore (p ∷ c) (q ∷ d)
  before_on p q c d e h = (inr (e, h.0), (λ k. h.1 cc))

  -- comparing lists of points item by item returns the order of their contours
  pub contours_told : Tells (slice_cmp cmp) (map f) IsContourBefore
  contours_told [] [] = refl
  contours_told [] (y ∷ ys) = longer y ys
  contours_told (x ∷ xs) [] = longer x xs
  contours_told (x ∷ xs) (y ∷ ys) = go (cmp x y) (told x y) (slice_cmp cmp xs ys) (contours_told xs ys)
    where
      go : (o : Ordering) → MatchOrdering o (IsBefore (f x) (f y)) (f x ≡ f y) (IsBefore (f y) (f x))
          → (r : Ordering) → MatchOrdering r (IsContourBefore (map f xs) (map f ys)) (map f xs ≡ map f ys) (IsContourBefore (map f ys) (map f xs))
          → MatchOrdering (ordering_then o r) (IsContourBefore (map f (x ∷ xs)) (map f (y ∷ ys))) (map f (x ∷ xs) ≡ map f (y ∷ ys)) (IsContourBefore (map f (y ∷ ys)) (map f (x ∷ xs)))
      go Less h r k = before_at (f x) (f y) (map f xs) (map f ys) h
      go Greater h r k = before_at (f y) (f x) (map f ys) (map f xs) h
      go Equal h Less k = before_on (f x) (f y) (map f xs) (map f ys) h k
      go Equal h Equal k = λ i. h i ∷ k i
      go Equal h Greater k = before_on (f y) (f x) (map f ys) (map f xs) (sym h) k

module _ {X : Type 0} (cmp : X → X → Ordering) (f : X → List Point) (told : Tells cmp f IsContourBefore) where
  -- if y doesn't compare less than x, x's contour is at most y's
  pub contour_told : (x y : X) → is_lt (cmp y x) ≡ false → IsAtMost (f x) (f y)
  contour_told x y h = go (cmp y x) (told y x) h
    where
      go : (o : Ordering) → MatchOrdering o (IsContourBefore (f y) (f x)) (f y ≡ f x) (IsContourBefore (f x) (f y)) → is_lt o ≡ false → IsAtMost (f x) (f y)
      go Less t e = absurd (true≢false e)
      go Equal t e = subst (λ c. IsAtMost (f x) c) (sym t) (at_most_refl (f x))
      go Greater t e = t.0

-- Points are compared by x, and then by y.
module _ {I : Type 0} (value : I → ℤ) (cmp : I → I → Ordering) (order : (a b : I) → cmp a b ≡ int_cmp (value a) (value b)) where
  -- the program's comparison of points: by x, and then by y
  abbrev pub point_cmp : IntPoint I → IntPoint I → Ordering
  point_cmp p q = ordering_then (cmp p.x q.x) (cmp p.y q.y)

  -- that comparison returns the order of the points
  pub points_told : Tells point_cmp (point_of value) IsBefore
  points_told p q = go (cmp p.x q.x) (int_ranked (value p.x) (value q.x) (cmp p.x q.x) (order p.x q.x)) (cmp p.y q.y) (int_ranked (value p.y) (value q.y) (cmp p.y q.y) (order p.y q.y))
    where
      go : (o : Ordering) → MatchOrdering o (value p.x <ℤ value q.x) (value p.x ≡ value q.x) (value q.x <ℤ value p.x)
          → (r : Ordering) → MatchOrdering r (value p.y <ℤ value q.y) (value p.y ≡ value q.y) (value q.y <ℤ value p.y)
          → MatchOrdering (ordering_then o r) (IsBefore (point_of value p) (point_of value q)) (point_of value p ≡ point_of value q) (IsBefore (point_of value q) (point_of value p))
      go Less h r k = inl h
      go Greater h r k = inl h
      go Equal h Less k = inr (h, k)
      go Equal h Equal k = λ i. record { x = h i; y = k i }
      go Equal h Greater k = inr (sym h, k)

  -- that comparison is a total order if the comparison of coordinates is one
  pub points_total : IsTotalOrder cmp → IsTotalOrder point_cmp
  points_total total = then_total (on_total (λ p. p.x) total) (on_total (λ p. p.y) total)
