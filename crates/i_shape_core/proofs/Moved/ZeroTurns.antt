-- Removals from a contour that an affine map moves.
use Rattle.std.proofs.Common.{◌≡◌, List, [], ◌∷◌, ℤ, pos, ◌*ℤ◌, refl, ap, ◌∙◌}
use Rattle.i_shape_core.specs.Point.{Point, cross, IsZeroTurn}
use Rattle.std.proofs.Math.IntN.{*ℤ-zero}
use Rattle.i_shape_core.proofs.Arithmetic.Polynomials.{Term, variable, plus, times, minus, by_polynomials}
use Rattle.i_shape_core.proofs.Plane.CrossProducts.{Place, cross_term, A, B, C}
use Rattle.i_shape_core.specs.Moves.{Move, determinant, moved_point}
use Rattle.i_shape_core.proofs.Moved.Mapped.{Carries}

-- the coordinates of three points, and then the coefficients of a move
abbrev pub numbers_of_move : Point → Point → Point → Move → List ℤ
numbers_of_move a b c m = a.x ∷ a.y ∷ b.x ∷ b.y ∷ c.x ∷ c.y ∷ m.xx ∷ m.xy ∷ m.yx ∷ m.yy ∷ m.x ∷ m.y ∷ []

-- the x of a moved point, as a term
abbrev pub new_x : Place → Term
new_x p = plus (plus (times (variable 6) p.x) (times (variable 7) p.y)) (variable 10)

-- the y of a moved point, as a term
abbrev pub new_y : Place → Term
new_y p = plus (plus (times (variable 8) p.x) (times (variable 9) p.y)) (variable 11)

-- a moved point, as terms
abbrev pub new_place : Place → Place
new_place p = record { x = new_x p; y = new_y p }

-- the factor by which areas grow, as a term
abbrev pub area_factor : Term
area_factor = plus (times (variable 6) (variable 9)) (minus (times (variable 7) (variable 8)))

-- a move multiplies the cross product by its determinant
pub cross_moved : (m : Move) (a b c : Point) → cross (moved_point m a) (moved_point m b) (moved_point m c) ≡ determinant m *ℤ cross a b c
unfolding cross
cross_moved m a b c = by_polynomials (numbers_of_move a b c m) (cross_term (new_place A) (new_place B) (new_place C)) (times area_factor (cross_term A B C)) refl

times_zero : (d x y : ℤ) → x ≡ d *ℤ y → y ≡ pos 0 → x ≡ pos 0
times_zero d x y e f = e ∙ ap (λ (z : ℤ). d *ℤ z) f ∙ *ℤ-zero d

-- a moved zero turn is a zero turn
pub zero_moved : (m : Move) → Carries (moved_point m) IsZeroTurn IsZeroTurn
zero_moved m a b c e = times_zero (determinant m) _ (cross a b c) (cross_moved m a b c) e
