-- Moves with a determinant other than 0: only zero turns become zero turns, and different points stay different.
use Rattle.std.proofs.Common.{◌≡◌, ◌≢◌, ℤ, pos, ◌+ℤ◌, ◌-ℤ◌, ◌*ℤ◌, neg_ℤ, refl, sym, ap, ◌∙◌, inl, inr, ◌⊎◌}
use Rattle.i_shape_core.specs.Point.{Point, cross, IsZeroTurn}
use Rattle.i_shape_core.specs.Moves.{Move, determinant, moved_point}
use Rattle.i_shape_core.proofs.Arithmetic.Polynomials.{variable, plus, times, minus, by_polynomials}
use Rattle.i_shape_core.proofs.Arithmetic.WholeNumbers.{zero_product, equal_of_difference, difference_of_equal}
use Rattle.i_shape_core.proofs.Plane.CrossProducts.{A, B, same_point, both_zero}
use Rattle.i_shape_core.proofs.Moved.ZeroTurns.{numbers_of_move, new_x, new_y, area_factor, cross_moved}
use Rattle.i_shape_laws.proofs.Moved.Ends.{Returns, Apart}

other_factor : (d x y : ℤ) → d ≢ pos 0 → x ≡ d *ℤ y → x ≡ pos 0 → y ≡ pos 0
other_factor d x y some e f = go (zero_product d y (sym e ∙ f))
  where
    go : (d ≡ pos 0) ⊎ (y ≡ pos 0) → y ≡ pos 0
    go (inl h) = absurd (some h)
    go (inr h) = h

-- at a move with a determinant other than 0 only zero turns become zero turns
pub zero_back : (m : Move) → determinant m ≢ pos 0 → Returns (moved_point m) IsZeroTurn IsZeroTurn
zero_back m some a b c e = other_factor (determinant m) _ (cross a b c) some (cross_moved m a b c) e

-- ---- different points stay different
back_x : (m : Move) (p q : Point) → m.yy *ℤ ((moved_point m p).x -ℤ (moved_point m q).x) +ℤ neg_ℤ m.xy *ℤ ((moved_point m p).y -ℤ (moved_point m q).y) ≡ determinant m *ℤ (p.x -ℤ q.x)
back_x m p q = by_polynomials (numbers_of_move p q q m)
    (plus (times (variable 9) (plus (new_x A) (minus (new_x B)))) (times (minus (variable 7)) (plus (new_y A) (minus (new_y B)))))
    (times area_factor (plus A.x (minus B.x))) refl

back_y : (m : Move) (p q : Point) → m.xx *ℤ ((moved_point m p).y -ℤ (moved_point m q).y) +ℤ neg_ℤ m.yx *ℤ ((moved_point m p).x -ℤ (moved_point m q).x) ≡ determinant m *ℤ (p.y -ℤ q.y)
back_y m p q = by_polynomials (numbers_of_move p q q m)
    (plus (times (variable 6) (plus (new_y A) (minus (new_y B)))) (times (minus (variable 8)) (plus (new_x A) (minus (new_x B)))))
    (times area_factor (plus A.y (minus B.y))) refl

-- a move with a determinant other than 0 keeps different points different
pub moved_apart : (m : Move) → determinant m ≢ pos 0 → Apart (moved_point m)
moved_apart m some p q e =
    let x = difference_of_equal _ _ (ap (λ (r : Point). r.x) e) in
    let y = difference_of_equal _ _ (ap (λ (r : Point). r.y) e) in
    same_point p q
    (equal_of_difference _ _ (other_factor (determinant m) _ (p.x -ℤ q.x) some (back_x m p q) (both_zero _ m.yy (neg_ℤ m.xy) _ _ x y refl)))
    (equal_of_difference _ _ (other_factor (determinant m) _ (p.y -ℤ q.y) some (back_y m p q) (both_zero _ m.xx (neg_ℤ m.yx) _ _ y x refl)))
