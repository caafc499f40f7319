-- Sorted lists of the program, read as lists of contours and of shapes.
use Rattle.std.proofs.Common.{◌≡◌, inl, inr, ◌<◌, List, [], ◌∷◌, length, get_or, map, false, true≢false, sym, arith, IsSorted, AllPairs, Ordering, Less, Equal, Greater}
use Rattle.std.specs.Cmp.{IsTotalOrder}
use Rattle.std.specs.Cmp.Lexicographic.{slice_cmp}
use Rattle.std.specs.Ordering.{MatchOrdering, ordering_then, is_lt}
use Rattle.std.proofs.lemmas.List.{get_or-map, length-map}
use Rattle.std.proofs.lemmas.List.Sorted.{ranks_by, sorted_far}
use Rattle.i_shape.proofs.Common.{Point, IsShapeAtMost}
use Rattle.i_shape_core.proofs.Forms.ContourOrder.{Tells, IsContourBefore}

module _ {X : Type 0} (cmp : X → X → Ordering) (f : X → List Point) (told : Tells cmp f IsContourBefore) where
  -- if ys doesn't compare less than xs, the shape of xs is at most that of ys
  pub shape_told : (xs ys : List X) → is_lt (slice_cmp cmp ys xs) ≡ false → IsShapeAtMost (map f xs) (map f ys)
  shape_told [] ys h = tt
  shape_told (x ∷ xs) [] h = absurd (true≢false h)
  shape_told (x ∷ xs) (y ∷ ys) h = go (cmp y x) (told y x) (shape_told xs ys) h
    where
      go : (o : Ordering) → MatchOrdering o (IsContourBefore (f y) (f x)) (f y ≡ f x) (IsContourBefore (f x) (f y))
          → (is_lt (slice_cmp cmp ys xs) ≡ false → IsShapeAtMost (map f xs) (map f ys))
          → is_lt (ordering_then o (slice_cmp cmp ys xs)) ≡ false → IsShapeAtMost (f x ∷ map f xs) (f y ∷ map f ys)
      go Less t more e = absurd (true≢false e)
      go Equal t more e = inr (sym t, more e)
      go Greater t more e = inl t

-- if a sort orders values, what they represent is in order
pub sorted_pairs : {X Y : Type 0} (cmp : X → X → Ordering) (f : X → Y) (AtMost : Y → Y → Type 0) → IsTotalOrder cmp → ((x y : X) → is_lt (cmp y x) ≡ false → AtMost (f x) (f y))
    → (xs : List X) → IsSorted cmp xs → AllPairs AtMost (map f xs)
sorted_pairs {X} {Y} cmp f AtMost total told xs sorted i j d p q = go xs sorted q
  where
    go : (zs : List X) → IsSorted cmp zs → j < length (map f zs) → AtMost (get_or (map f zs) i d) (get_or (map f zs) j d)
    go [] up lt = absurd (omega arith)
    go (z ∷ zs) up lt =
        let long : length (map f (z ∷ zs)) ≡ length (z ∷ zs) = length-map (z ∷ zs) f in
        let far = sorted_far (λ a b. is_lt (cmp a b)) (ranks_by total (λ x. x)) (z ∷ zs) up i j z (omega arith) (omega arith) in
        rw (get_or-map f (z ∷ zs) i z d (omega arith), get_or-map f (z ∷ zs) j z d (omega arith)) (told (get_or (z ∷ zs) i z) (get_or (z ∷ zs) j z) far)
