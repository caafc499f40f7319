-- Back vertices under an affine map.
use Rattle.std.proofs.Common.{◌≡◌, ◌≢◌, [], ◌∷◌, ℤ, pos, ◌+ℤ◌, ◌-ℤ◌, ◌*ℤ◌, ◌≤ℤ◌, ◌<ℤ◌, int_lt, refl, sym, ap, subst, ◌∙◌, arith}
use Rattle.std.proofs.lemmas.Int.{ints, by_lt_z}
use Rattle.i_shape_core.specs.Point.{Point, cross, dot, IsBack}
use Rattle.i_shape_core.specs.Moves.{Move, determinant, moved_point}
use Rattle.i_shape_core.proofs.Arithmetic.Polynomials.{Term, number, variable, plus, times, minus, by_polynomials}
use Rattle.i_shape_core.proofs.Arithmetic.WholeNumbers.{not_positive_of, drop_last, alike_scaled, low_of_zero, zero_not_above, zero_not_below}
use Rattle.i_shape_core.proofs.Plane.CrossProducts.{coordinates, cross_term, dot_term, A, B, C}
use Rattle.i_shape_core.proofs.Plane.Back as plane
use Rattle.i_shape_core.proofs.Plane.Back.{way_squared, square_term, square_at_least, dot_same-first}
use Rattle.i_shape_core.proofs.Convex.Laws.{IsReversed}
use Rattle.i_shape_core.proofs.Moved.Mapped.{Carries}
use Rattle.i_shape_core.proofs.Moved.ZeroTurns.{numbers_of_move, new_place, zero_moved}
use Rattle.i_shape_laws.proofs.Moved.Ends.{Returns}
use Rattle.i_shape_laws.proofs.Moved.Points.{zero_back, moved_apart}

-- the dot product of the moved vector from a to b and that vector rotated by a right angle and then moved
abbrev skew : Move → Point → Point → ℤ
skew m a b = (m.xx *ℤ (b.x -ℤ a.x) +ℤ m.xy *ℤ (b.y -ℤ a.y)) *ℤ (m.xy *ℤ (b.x -ℤ a.x) -ℤ m.xx *ℤ (b.y -ℤ a.y)) +ℤ (m.yx *ℤ (b.x -ℤ a.x) +ℤ m.yy *ℤ (b.y -ℤ a.y)) *ℤ (m.yy *ℤ (b.x -ℤ a.x) -ℤ m.yx *ℤ (b.y -ℤ a.y))

abbrev skew_term : Term
skew_term =
    let u : Term = plus B.x (minus A.x) in
    let v : Term = plus B.y (minus A.y) in
    plus
    (times (plus (times (variable 6) u) (times (variable 7) v)) (plus (times (variable 7) u) (minus (times (variable 6) v))))
    (times (plus (times (variable 8) u) (times (variable 9) v)) (plus (times (variable 9) u) (minus (times (variable 8) v))))

dot_moved : (m : Move) (a b c : Point) → way_squared a b *ℤ dot (moved_point m a) (moved_point m b) (moved_point m c) ≡ way_squared (moved_point m a) (moved_point m b) *ℤ dot a b c +ℤ skew m a b *ℤ cross a b c
unfolding way_squared cross dot
dot_moved m a b c = by_polynomials (numbers_of_move a b c m)
    (times (square_term A B) (dot_term (new_place A) (new_place B) (new_place C)))
    (plus (times (square_term (new_place A) (new_place B)) (dot_term A B C)) (times skew_term (cross_term A B C))) refl

-- points whose squared distance is at most 0 are equal
pub equal_of_low_distance : (a p : Point) → way_squared a p ≤ℤ pos 0 → a ≡ p
equal_of_low_distance a p h = plane.equal_of_distance a p (omega (arith, ints, square_at_least a p))

dot_standing_still : (a b c : Point) → a ≡ b → dot a b c ≤ℤ pos 0
dot_standing_still a b c e = subst (λ (x : Point). dot a x c ≤ℤ pos 0) e (low_of_zero (dot a a c) (dot_same-first a c))

-- a move keeps back vertices
pub back_moved : (m : Move) → Carries (moved_point m) IsBack IsBack
back_moved m a b c (z, d) = (
  zero_moved m a b c z,
  by_lt_z (pos 0) (way_squared a b)
      (λ h. not_positive_of (way_squared (moved_point m a) (moved_point m b)) (way_squared a b) (dot a b c) _ (square_at_least _ _) h (sym (drop_last _ _ _ _ (dot_moved m a b c) z)) d)
      (λ h. dot_standing_still (moved_point m a) (moved_point m b) (moved_point m c) (ap (moved_point m) (equal_of_low_distance a b h))),
)

-- at a move with a determinant other than 0 only back vertices become back vertices
pub back_back : (m : Move) → determinant m ≢ pos 0 → Returns (moved_point m) IsBack IsBack
back_back m some a b c (z, d) =
    let z' = zero_back m some a b c z in (
      z',
      by_lt_z (pos 0) (way_squared (moved_point m a) (moved_point m b))
          (λ h. not_positive_of (way_squared a b) (way_squared (moved_point m a) (moved_point m b)) (dot (moved_point m a) (moved_point m b) (moved_point m c)) _ (square_at_least _ _) h (drop_last _ _ _ _ (dot_moved m a b c) z') d)
          (λ h. dot_standing_still a b c (moved_apart m some a b (equal_of_low_distance (moved_point m a) (moved_point m b) h))),
    )

-- ---- reversals
not_still : (a b c : Point) → dot a b c <ℤ pos 0 → pos 0 <ℤ way_squared a b
not_still a b c h = by_lt_z (pos 0) (way_squared a b) (λ l. l) (λ l. absurd (zero_not_below (dot a b c) (subst (λ (x : Point). dot a x c ≡ pos 0) (equal_of_low_distance a b l) (dot_same-first a c)) h))

same_sign : (m : Move) (a b c : Point) → cross a b c ≡ pos 0 → pos 0 <ℤ way_squared a b → pos 0 <ℤ way_squared (moved_point m a) (moved_point m b)
    → int_lt (dot (moved_point m a) (moved_point m b) (moved_point m c)) (pos 0) ≡ int_lt (dot a b c) (pos 0)
same_sign m a b c z g h = (alike_scaled (way_squared (moved_point m a) (moved_point m b)) (way_squared a b) (dot (moved_point m a) (moved_point m b) (moved_point m c)) (dot a b c) h g (drop_last _ _ _ _ (dot_moved m a b c) z)).below

below : (x y : ℤ) → int_lt x (pos 0) ≡ int_lt y (pos 0) → y <ℤ pos 0 → x <ℤ pos 0
below x y e h = grind (arith, ints)

no_square : (a b : Point) → a ≡ b → pos 0 <ℤ way_squared a b → ⊥
unfolding way_squared
no_square a b e h = zero_not_above (way_squared a b) (sym (ap (λ (x : Point). way_squared a x) e) ∙ zero a) h
  where
    zero : (a : Point) → way_squared a a ≡ pos 0
    zero a = by_polynomials (coordinates (a ∷ [])) (square_term A A) (number (pos 0)) refl

apart_squares : (m : Move) → determinant m ≢ pos 0 → (a b : Point) → pos 0 <ℤ way_squared a b → pos 0 <ℤ way_squared (moved_point m a) (moved_point m b)
apart_squares m some a b h = by_lt_z (pos 0) (way_squared (moved_point m a) (moved_point m b)) (λ l. l) (λ l. absurd (no_square a b (moved_apart m some a b (equal_of_low_distance (moved_point m a) (moved_point m b) l)) h))

squares_apart : (m : Move) (a b : Point) → pos 0 <ℤ way_squared (moved_point m a) (moved_point m b) → pos 0 <ℤ way_squared a b
squares_apart m a b h = by_lt_z (pos 0) (way_squared a b) (λ l. l) (λ l. absurd (no_square (moved_point m a) (moved_point m b) (ap (moved_point m) (equal_of_low_distance a b l)) h))

-- a move with a determinant other than 0 keeps reversals
pub reverses_moved : (m : Move) → determinant m ≢ pos 0 → Carries (moved_point m) IsReversed IsReversed
reverses_moved m some a b c (z, d) =
    let s = not_still a b c d in
    (zero_moved m a b c z, below _ (dot a b c) (same_sign m a b c z s (apart_squares m some a b s)) d)

-- at a move with a determinant other than 0 only reversals become reversals
pub reverses_back : (m : Move) → determinant m ≢ pos 0 → Returns (moved_point m) IsReversed IsReversed
reverses_back m some a b c (z, d) =
    let z' = zero_back m some a b c z in
    let s' = not_still (moved_point m a) (moved_point m b) (moved_point m c) d in
    (z', below (dot a b c) _ (sym (same_sign m a b c z' (squares_apart m a b s') s')) d)
