-- Segments that follow one another share more than their common end exactly where the path turns straight back there.
use Rattle.std.proofs.Common.{◌≡◌, [], ◌∷◌, ℤ, pos, negsuc, zero, suc, ◌+ℤ◌, ◌-ℤ◌, ◌*ℤ◌, neg_ℤ, ◌≤ℤ◌, ◌<ℤ◌, refl, ap, ◌∙◌, arith, ◌⊎◌, inl, inr}
use Rattle.std.proofs.lemmas.Int.{ints}
use Rattle.i_shape_core.specs.Point.{Point, cross, dot}
use Rattle.i_shape_core.proofs.Arithmetic.Polynomials.{variable, plus, times, minus, by_polynomials}
use Rattle.i_shape_core.proofs.Arithmetic.WholeNumbers.{zero_product, squares_zero, zero_of_positive}
use Rattle.i_shape_core.proofs.Plane.CrossProducts.{coordinates, cross_term, dot_term, A, B, C}
use Rattle.i_shape_core.proofs.Plane.Back.{way_squared, square_term, square_at_least}
use Rattle.i_shape_contacts.specs.Meeting.{MeetAgain}
use Rattle.i_shape_contacts.specs.Steps.Deciding.{IsReversal}
use Rattle.i_shape_contacts.proofs.Signs.{product_least, compared}

-- a place of both segments: shares of the two ways add up to nothing
balance : (d s t a b c p : ℤ) → p ≡ d *ℤ a +ℤ s *ℤ (b -ℤ a) → p ≡ d *ℤ b +ℤ t *ℤ (c -ℤ b) → (d -ℤ s) *ℤ (b -ℤ a) +ℤ t *ℤ (c -ℤ b) ≡ pos 0
balance d s t a b c p f g =
    by_polynomials (d ∷ s ∷ t ∷ a ∷ b ∷ c ∷ [])
    (plus (times (plus (variable 0) (minus (variable 1))) (plus (variable 4) (minus (variable 3)))) (times (variable 2) (plus (variable 5) (minus (variable 4)))))
    (plus (plus (times (variable 0) (variable 4)) (times (variable 2) (plus (variable 5) (minus (variable 4))))) (minus (plus (times (variable 0) (variable 3)) (times (variable 1) (plus (variable 4) (minus (variable 3))))))) refl
    ∙ none (d *ℤ b +ℤ t *ℤ (c -ℤ b)) (d *ℤ a +ℤ s *ℤ (b -ℤ a)) p g f
  where
    none : (x y p : ℤ) → p ≡ x → p ≡ y → x -ℤ y ≡ pos 0
    none x y p f g = omega (arith, ints)

cross_balanced : (u t : ℤ) (a b c : Point) → t *ℤ cross a b c ≡ (b.x -ℤ a.x) *ℤ (u *ℤ (b.y -ℤ a.y) +ℤ t *ℤ (c.y -ℤ b.y)) -ℤ (b.y -ℤ a.y) *ℤ (u *ℤ (b.x -ℤ a.x) +ℤ t *ℤ (c.x -ℤ b.x))
unfolding cross
cross_balanced u t a b c = by_polynomials (a.x ∷ a.y ∷ b.x ∷ b.y ∷ c.x ∷ c.y ∷ u ∷ t ∷ [])
    (times (variable 7) (cross_term A B C))
    (plus (times (plus B.x (minus A.x)) (plus (times (variable 6) (plus B.y (minus A.y))) (times (variable 7) (plus C.y (minus B.y)))))
    (minus (times (plus B.y (minus A.y)) (plus (times (variable 6) (plus B.x (minus A.x))) (times (variable 7) (plus C.x (minus B.x))))))) refl

dot_balanced : (u t : ℤ) (a b c : Point) → t *ℤ dot a b c ≡ ((b.x -ℤ a.x) *ℤ (u *ℤ (b.x -ℤ a.x) +ℤ t *ℤ (c.x -ℤ b.x)) +ℤ (b.y -ℤ a.y) *ℤ (u *ℤ (b.y -ℤ a.y) +ℤ t *ℤ (c.y -ℤ b.y))) -ℤ u *ℤ way_squared a b
unfolding dot way_squared
dot_balanced u t a b c = by_polynomials (a.x ∷ a.y ∷ b.x ∷ b.y ∷ c.x ∷ c.y ∷ u ∷ t ∷ [])
    (times (variable 7) (dot_term A B C))
    (plus (plus (times (plus B.x (minus A.x)) (plus (times (variable 6) (plus B.x (minus A.x))) (times (variable 7) (plus C.x (minus B.x)))))
    (times (plus B.y (minus A.y)) (plus (times (variable 6) (plus B.y (minus A.y))) (times (variable 7) (plus C.y (minus B.y))))))
    (minus (times (variable 6) (square_term A B)))) refl

zeros_less : (v w : ℤ) → v *ℤ pos 0 -ℤ w *ℤ pos 0 ≡ pos 0
zeros_less v w = omega (arith, ints)

zeros_more : (v w q : ℤ) → (v *ℤ pos 0 +ℤ w *ℤ pos 0) -ℤ q ≡ neg_ℤ q
zeros_more v w q = omega (arith, ints)

-- a share of a way without length leads nowhere
no_share_x : (u : ℤ) (a b : Point) → (u ≡ pos 0) ⊎ (way_squared a b ≡ pos 0) → u *ℤ (b.x -ℤ a.x) ≡ pos 0
unfolding way_squared
no_share_x u a b (inl e) = ap (λ (z : ℤ). z *ℤ (b.x -ℤ a.x)) e ∙ nothing (b.x -ℤ a.x)
  where
    nothing : (v : ℤ) → pos 0 *ℤ v ≡ pos 0
    nothing v = omega (arith, ints)
no_share_x u a b (inr e) = ap (λ (z : ℤ). u *ℤ z) (squares_zero (b.x -ℤ a.x) (b.y -ℤ a.y) e).0 ∙ nothing u
  where
    nothing : (v : ℤ) → v *ℤ pos 0 ≡ pos 0
    nothing v = omega (arith, ints)

no_share_y : (u : ℤ) (a b : Point) → (u ≡ pos 0) ⊎ (way_squared a b ≡ pos 0) → u *ℤ (b.y -ℤ a.y) ≡ pos 0
unfolding way_squared
no_share_y u a b (inl e) = ap (λ (z : ℤ). z *ℤ (b.y -ℤ a.y)) e ∙ nothing (b.y -ℤ a.y)
  where
    nothing : (v : ℤ) → pos 0 *ℤ v ≡ pos 0
    nothing v = omega (arith, ints)
no_share_y u a b (inr e) = ap (λ (z : ℤ). u *ℤ z) (squares_zero (b.x -ℤ a.x) (b.y -ℤ a.y) e).1 ∙ nothing u
  where
    nothing : (v : ℤ) → v *ℤ pos 0 ≡ pos 0
    nothing v = omega (arith, ints)

-- where such segments share a point other than b, the path turns straight back at b
pub meets_again : (a b c : Point) → MeetAgain a b c → IsReversal a b c
meets_again a b c m =
    let d = m.divisor in
    let t = m.on_second.share in
    let u = d -ℤ m.on_first.share in
    let even_x = balance d m.on_first.share t a.x b.x c.x m.scaled.x m.on_first.x m.on_second.x in
    let even_y = balance d m.on_first.share t a.y b.y c.y m.scaled.y m.on_first.y m.on_second.y in
    let some : pos 0 <ℤ t = moves t m.on_second.least (λ none. m.other (record {
      x = m.on_second.x ∙ ap (λ (z : ℤ). d *ℤ b.x +ℤ z *ℤ (c.x -ℤ b.x)) none ∙ stays d b.x (c.x -ℤ b.x);
      y = m.on_second.y ∙ ap (λ (z : ℤ). d *ℤ b.y +ℤ z *ℤ (c.y -ℤ b.y)) none ∙ stays d b.y (c.y -ℤ b.y);
    })) in
    let crossed : t *ℤ cross a b c ≡ pos 0 =
    cross_balanced u t a b c ∙ ap (λ (z : ℤ). (b.x -ℤ a.x) *ℤ z -ℤ (b.y -ℤ a.y) *ℤ (u *ℤ (b.x -ℤ a.x) +ℤ t *ℤ (c.x -ℤ b.x))) even_y ∙ ap (λ (z : ℤ). (b.x -ℤ a.x) *ℤ pos 0 -ℤ (b.y -ℤ a.y) *ℤ z) even_x ∙ zeros_less (b.x -ℤ a.x) (b.y -ℤ a.y) in
    let dotted : t *ℤ dot a b c ≡ neg_ℤ (u *ℤ way_squared a b) =
    dot_balanced u t a b c
    ∙ ap (λ (z : ℤ). ((b.x -ℤ a.x) *ℤ z +ℤ (b.y -ℤ a.y) *ℤ (u *ℤ (b.y -ℤ a.y) +ℤ t *ℤ (c.y -ℤ b.y))) -ℤ u *ℤ way_squared a b) even_x
    ∙ ap (λ (z : ℤ). ((b.x -ℤ a.x) *ℤ pos 0 +ℤ (b.y -ℤ a.y) *ℤ z) -ℤ u *ℤ way_squared a b) even_y ∙ zeros_more (b.x -ℤ a.x) (b.y -ℤ a.y) (u *ℤ way_squared a b) in
    let length_least : pos 0 ≤ℤ (u *ℤ way_squared a b) = product_least u (way_squared a b) (rest d m.on_first.share m.on_first.most) (square_at_least a b) in
    let length_some : u *ℤ way_squared a b ≡ pos 0 → ⊥ = λ none.
    let nowhere = zero_product u (way_squared a b) none in
    m.other (record {
      x = m.on_second.x ∙ ap (λ (z : ℤ). d *ℤ b.x +ℤ z) (other_share (u *ℤ (b.x -ℤ a.x)) (t *ℤ (c.x -ℤ b.x)) (no_share_x u a b nowhere) even_x) ∙ plus_none (d *ℤ b.x);
      y = m.on_second.y ∙ ap (λ (z : ℤ). d *ℤ b.y +ℤ z) (other_share (u *ℤ (b.y -ℤ a.y)) (t *ℤ (c.y -ℤ b.y)) (no_share_y u a b nowhere) even_y) ∙ plus_none (d *ℤ b.y);
    }) in
    record {
      straight = zero_of_positive t (cross a b c) some crossed;
      back = below t (dot a b c) (u *ℤ way_squared a b) m.on_second.least dotted length_least length_some;
    }
  where
    moves : (t : ℤ) → pos 0 ≤ℤ t → (t ≡ pos 0 → ⊥) → pos 0 <ℤ t
    moves (pos zero) h k = absurd (k refl)
    moves (pos (suc n)) h k = omega (arith, ints)
    moves (negsuc n) h k = absurd (omega (arith, ints))

    stays : (d b w : ℤ) → d *ℤ b +ℤ pos 0 *ℤ w ≡ d *ℤ b
    stays d b w = omega (arith, ints)

    rest : (d s : ℤ) → s ≤ℤ d → pos 0 ≤ℤ (d -ℤ s)
    rest d s h = omega (arith, ints)

    other_share : (x y : ℤ) → x ≡ pos 0 → x +ℤ y ≡ pos 0 → y ≡ pos 0
    other_share x y h k = omega (arith, ints)

    plus_none : (x : ℤ) → x +ℤ pos 0 ≡ x
    plus_none x = omega (arith, ints)

    below : (t z q : ℤ) → pos 0 ≤ℤ t → t *ℤ z ≡ neg_ℤ q → pos 0 ≤ℤ q → (q ≡ pos 0 → ⊥) → z <ℤ pos 0
    below t z q h e k some = elim (compared (pos 0) z) [
      | inr low ↦ low
      | inl high ↦ absurd (some (both (t *ℤ z) q (product_least t z h high) e k))
    ]
      where
        both : (p q : ℤ) → pos 0 ≤ℤ p → p ≡ neg_ℤ q → pos 0 ≤ℤ q → q ≡ pos 0
        both p q h e k = omega (arith, ints)

-- ---- the other way
back_x : (a b c : Point) → (way_squared a b -ℤ dot a b c) *ℤ a.x +ℤ way_squared a b *ℤ (b.x -ℤ a.x) ≡ ((way_squared a b -ℤ dot a b c) *ℤ b.x +ℤ way_squared a b *ℤ (c.x -ℤ b.x)) +ℤ (b.y -ℤ a.y) *ℤ cross a b c
unfolding cross dot way_squared
back_x a b c = by_polynomials (coordinates (a ∷ b ∷ c ∷ []))
    (plus (times (plus (square_term A B) (minus (dot_term A B C))) A.x) (times (square_term A B) (plus B.x (minus A.x))))
    (plus (plus (times (plus (square_term A B) (minus (dot_term A B C))) B.x) (times (square_term A B) (plus C.x (minus B.x)))) (times (plus B.y (minus A.y)) (cross_term A B C))) refl

back_y : (a b c : Point) → (way_squared a b -ℤ dot a b c) *ℤ a.y +ℤ way_squared a b *ℤ (b.y -ℤ a.y) ≡ ((way_squared a b -ℤ dot a b c) *ℤ b.y +ℤ way_squared a b *ℤ (c.y -ℤ b.y)) +ℤ neg_ℤ (b.x -ℤ a.x) *ℤ cross a b c
unfolding cross dot way_squared
back_y a b c = by_polynomials (coordinates (a ∷ b ∷ c ∷ []))
    (plus (times (plus (square_term A B) (minus (dot_term A B C))) A.y) (times (square_term A B) (plus B.y (minus A.y))))
    (plus (plus (times (plus (square_term A B) (minus (dot_term A B C))) B.y) (times (square_term A B) (plus C.y (minus B.y)))) (times (minus (plus B.x (minus A.x))) (cross_term A B C))) refl

-- how far the shared place is from b
beside : (q z a b : ℤ) → (q -ℤ z) *ℤ a +ℤ q *ℤ (b -ℤ a) ≡ (q -ℤ z) *ℤ b → z *ℤ (b -ℤ a) ≡ pos 0
beside q z a b e =
    by_polynomials (q ∷ z ∷ a ∷ b ∷ [])
    (times (variable 1) (plus (variable 3) (minus (variable 2))))
    (plus (plus (times (plus (variable 0) (minus (variable 1))) (variable 2)) (times (variable 0) (plus (variable 3) (minus (variable 2))))) (minus (times (plus (variable 0) (minus (variable 1))) (variable 3)))) refl
    ∙ none _ _ e
  where
    none : (p q : ℤ) → p ≡ q → p -ℤ q ≡ pos 0
    none p q e = omega (arith, ints)

no_dot : (a b c : Point) → b.x -ℤ a.x ≡ pos 0 → b.y -ℤ a.y ≡ pos 0 → dot a b c ≡ pos 0
unfolding dot
no_dot a b c e f = ap (λ (z : ℤ). z *ℤ (c.x -ℤ b.x) +ℤ (b.y -ℤ a.y) *ℤ (c.y -ℤ b.y)) e ∙ ap (λ (z : ℤ). pos 0 *ℤ (c.x -ℤ b.x) +ℤ z *ℤ (c.y -ℤ b.y)) f ∙ zeros (c.x -ℤ b.x) (c.y -ℤ b.y)
  where
    zeros : (v w : ℤ) → pos 0 *ℤ v +ℤ pos 0 *ℤ w ≡ pos 0
    zeros v w = omega (arith, ints)

-- where the path turns straight back at b, they share a point other than b
pub turns_back : (a b c : Point) → IsReversal a b c → MeetAgain a b c
turns_back a b c h =
    let q = way_squared a b in
    let z = dot a b c in
    record {
      divisor = q -ℤ z;
      positive = above q z (square_at_least a b) h.back;
      scaled = record { x = (q -ℤ z) *ℤ a.x +ℤ q *ℤ (b.x -ℤ a.x); y = (q -ℤ z) *ℤ a.y +ℤ q *ℤ (b.y -ℤ a.y) };
      on_first = record { share = q; least = square_at_least a b; most = longer q z h.back; x = refl; y = refl };
      on_second = record {
        share = q;
        least = square_at_least a b;
        most = longer q z h.back;
        x = back_x a b c ∙ ap (λ (y : ℤ). ((q -ℤ z) *ℤ b.x +ℤ q *ℤ (c.x -ℤ b.x)) +ℤ (b.y -ℤ a.y) *ℤ y) h.straight ∙ plus_none ((q -ℤ z) *ℤ b.x +ℤ q *ℤ (c.x -ℤ b.x)) (b.y -ℤ a.y);
        y = back_y a b c ∙ ap (λ (y : ℤ). ((q -ℤ z) *ℤ b.y +ℤ q *ℤ (c.y -ℤ b.y)) +ℤ neg_ℤ (b.x -ℤ a.x) *ℤ y) h.straight ∙ plus_none ((q -ℤ z) *ℤ b.y +ℤ q *ℤ (c.y -ℤ b.y)) (neg_ℤ (b.x -ℤ a.x));
      };
      other = λ at. never (zero_product z (b.x -ℤ a.x) (beside q z a.x b.x at.x)) (zero_product z (b.y -ℤ a.y) (beside q z a.y b.y at.y)) h.back;
    }
  where
    above : (q z : ℤ) → pos 0 ≤ℤ q → z <ℤ pos 0 → pos 0 <ℤ (q -ℤ z)
    above q z h k = omega (arith, ints)

    longer : (q z : ℤ) → z <ℤ pos 0 → q ≤ℤ (q -ℤ z)
    longer q z k = omega (arith, ints)

    plus_none : (x v : ℤ) → x +ℤ v *ℤ pos 0 ≡ x
    plus_none x v = omega (arith, ints)

    zero_not_below : (z : ℤ) → z ≡ pos 0 → z <ℤ pos 0 → ⊥
    zero_not_below z e h = omega (arith, ints)

    never : (dot a b c ≡ pos 0) ⊎ (b.x -ℤ a.x ≡ pos 0) → (dot a b c ≡ pos 0) ⊎ (b.y -ℤ a.y ≡ pos 0) → dot a b c <ℤ pos 0 → ⊥
    never (inl e) g low = zero_not_below (dot a b c) e low
    never (inr f) (inl e) low = zero_not_below (dot a b c) e low
    never (inr f) (inr g) low = zero_not_below (dot a b c) (no_dot a b c f g) low
