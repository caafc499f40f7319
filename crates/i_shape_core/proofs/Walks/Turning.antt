-- The turns of a path from an index on that are no zero turns.
use Rattle.std.proofs.Common.{map, ◌≡◌, ℕ, ℤ, ◌+◌, ◌<◌, ◌≤◌, List, length, get_or, take, drop, inl, inr, arith, subst, All, Bool, true, false, IsTrue, refl, ◌∙◌}
use Rattle.std.proofs.lemmas.Bool.{cases_lt}
use Rattle.std.proofs.lemmas.List.{get_or-take, get_or-drop}
use Rattle.std.specs.Int.{Width}
use mir.Val.{bool_byte}
use Rattle.i_shape_core.proofs.Common.{point_at, point_of, contour_of, IsSafe, Point, IsZeroTurn, IntPoint}
use Rattle.i_shape_core.specs.Turning.{IsTurning, IsZeroTurnFrom}
use Rattle.i_shape_core.proofs.Plane.Contours.{read-point, read-safe}
use Rattle.i_shape_core.proofs.Plane.PointLists.{points-length, points-item}

-- p is safe, and is the contour's point at index k
pub record IsPlaced {I : Type 0} (w : Width) (value : I → ℤ) (c : List Point) (k : ℕ) (p : IntPoint I) : Type 0 where
  pub safe : IsSafe w (point_of value p)
  pub at : point_of value p ≡ point_at c k

pub placed : {A I : Type 0} (point : A → IntPoint I) (points : List A → List (IntPoint I)) → ((list : List A) → points list ≡ map point list) → (w : Width) (value : I → ℤ) (list : List A) (k : ℕ) (a : A) (p : IntPoint I)
    → All (IsSafe w) (contour_of value (points list)) → p ≡ point a → k < length list → a ≡ get_or list k a → IsPlaced w value (contour_of value (points list)) k p
placed point points each w value list k a p safe is within read =
    let item = points-item point points each list k a p is within read in
    let inside : k < length (points list) = omega (arith, within, points-length point points each list) in
    record { safe = read-safe w value (points list) k p safe inside item; at = read-point value (points list) k p inside item }

-- the point read at index k of n items from i on is such a point
pub placed_in_part : {A I : Type 0} (point : A → IntPoint I) (points : List A → List (IntPoint I)) → ((list : List A) → points list ≡ map point list) → (w : Width) (value : I → ℤ) (list : List A) (i n k : ℕ) (a : A) (p : IntPoint I)
    → All (IsSafe w) (contour_of value (points list)) → p ≡ point a → k < n → i + n ≤ length list → a ≡ get_or (take n (drop i list)) k a → IsPlaced w value (contour_of value (points list)) (i + k) p
placed_in_part point points each w value list i n k a p safe is within room read =
    placed point points each w value list (i + k) a p safe is (omega arith) (read ∙ get_or-take n (drop i list) k a within ∙ get_or-drop i list k a)

-- a count plus a test's byte is at most one more
pub counted_most : (n most : ℕ) (b : Bool) → n ≤ most → n + bool_byte b ≤ most + 1
counted_most n most true h = omega arith
counted_most n most false h = omega arith

-- a count plus a test's byte is 0 only if both are
pub none_counted : (n : ℕ) (b : Bool) → n + bool_byte b ≡ 0 → (n ≡ 0) × (b ≡ false)
none_counted n true e = absurd (omega arith)
none_counted n false e = (omega arith, refl)

module _ (c : List Point) where
  -- if no turn from `first` to `middle` or from `next` to `last` is a zero turn, and the ranges meet, none from `first`
  -- to `end` is
  pub turning_on : (first middle next last end : ℕ) → next ≤ middle → end ≤ last → IsTurning c first middle → IsTurning c next last → IsTurning c first end
  turning_on first middle next last end le most one two k from less z = elim (cases_lt k middle) [ inl early ↦ one k from early z | inr late ↦ two k (omega arith) (omega arith) z ]

  -- if no turn from `first` to before n is a zero turn, nor turn n, none from `first` to before n + 1 is
  pub turning_more : (first n end : ℕ) → end ≤ n + 1 → IsTurning c first n → ¬ (IsZeroTurnFrom c n) → IsTurning c first end
  turning_more first n end most turning here k from less z = elim (cases_lt k n) [ inl early ↦ turning k from early z | inr late ↦ (let e : k ≡ n = omega arith in here (subst (IsZeroTurnFrom c) e z)) ]

  -- if the test of three consecutive points returns false, their turn is no zero turn
  pub no_zero_turn : (n x y z : ℕ) (p q r : Point) (b : Bool) → x ≡ n → y ≡ n + 1 → z ≡ n + 2 → p ≡ point_at c x → q ≡ point_at c y → r ≡ point_at c z → (IsZeroTurn p q r → IsTrue b) → b ≡ false → ¬ (IsZeroTurnFrom c n)
  no_zero_turn n x y z p q r b ex ey ez ep eq er tells fails zero = let t : IsTrue b = tells (rw (ep, eq, er, ex, ey, ez) zero) in absurd (cc)
