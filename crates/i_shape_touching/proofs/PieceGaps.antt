-- Neighbouring marks about a point of an edge.
use Rattle.std.proofs.Common.{◌≡◌, ◌⊎◌, [], ◌∷◌, ℕ, ℤ, pos, ◌<◌, ◌+ℤ◌, ◌-ℤ◌, ◌*ℤ◌, ◌<ℤ◌, ◌≤ℤ◌, List, length, refl, subst, arith, inl, inr}
use Rattle.std.proofs.lemmas.Bool.{cases_eq}
use Rattle.std.proofs.lemmas.Int.{ints}
use Rattle.std.proofs.lemmas.List.Elements.{All-nil, All-cons, All-head, All-tail, All-weaker, All-contains}
use Rattle.std.specs.List.{All}
use Rattle.i_shape_core.specs.Point.{Point}
use Rattle.i_shape_core.specs.Contour.{point_at}
use Rattle.i_shape_core.proofs.Arithmetic.Polynomials.{number, variable, plus, times, minus, by_polynomials}
use Rattle.i_shape_contacts.specs.Contacts.{IsAfter}
use Rattle.i_shape_contacts.proofs.Crossing.{segment_reversed}
use Rattle.i_shape_contacts.proofs.Signs.{product_least, product_positive, compared}
use Rattle.i_shape_touching.specs.Places.{LiesOn}
use Rattle.i_shape_touching.specs.Steps.Pieces.{IsMark, IsListed, MarkOf, AreMarks}
use Rattle.i_shape_touching.specs.Steps.Pieces.IsMark.{start, end}
use Rattle.i_shape_touching.proofs.PieceNumbers.{cancel_less}
use Rattle.i_shape_touching.proofs.PieceOrder.{height, height_least, height_most}

lies_reversed : (d : ℤ) (p a b : Point) → LiesOn d p a b → LiesOn d p b a
lies_reversed d p a b h = record { factor = h.factor; positive = h.positive; on = segment_reversed _ _ a b h.on }

-- where z divided by n lies between x / d and the middle of p and q, not at x: it is above p and below q
module _ (g t d x p q z v : ℤ) (some : pos 0 <ℤ t) (most : t ≤ℤ g) (above : pos 0 <ℤ d) (low : (d *ℤ p) ≤ℤ x) (high : x ≤ℤ (d *ℤ q)) (order : p <ℤ q)
    (is : z ≡ g *ℤ (pos 2 *ℤ x) +ℤ t *ℤ (d *ℤ (p +ℤ q) -ℤ pos 2 *ℤ x)) (whole : z ≡ (g *ℤ (d *ℤ pos 2)) *ℤ v) where
  n_above : pos 0 <ℤ (g *ℤ (d *ℤ pos 2))
  n_above = product_positive g (d *ℤ pos 2) (omega (arith, ints)) (product_positive d (pos 2) above (omega (arith, ints)))

  way : pos 0 <ℤ (t *ℤ (d *ℤ (q -ℤ p)))
  way = product_positive t (d *ℤ (q -ℤ p)) some (product_positive d (q -ℤ p) above (omega (arith, ints)))

  pub above_first : p <ℤ v
  above_first =
      let room = product_least (pos 2 *ℤ (g -ℤ t)) (x -ℤ d *ℤ p) (twice g t most) (rest x (d *ℤ p) low) in
      let same : (g *ℤ (pos 2 *ℤ x) +ℤ t *ℤ (d *ℤ (p +ℤ q) -ℤ pos 2 *ℤ x)) -ℤ (g *ℤ (d *ℤ pos 2)) *ℤ p ≡ (pos 2 *ℤ (g -ℤ t)) *ℤ (x -ℤ d *ℤ p) +ℤ t *ℤ (d *ℤ (q -ℤ p)) =
      by_polynomials (g ∷ t ∷ d ∷ x ∷ p ∷ q ∷ [])
      (plus (plus (times (variable 0) (times (number (pos 2)) (variable 3))) (times (variable 1) (plus (times (variable 2) (plus (variable 4) (variable 5))) (minus (times (number (pos 2)) (variable 3))))))
      (minus (times (times (variable 0) (times (variable 2) (number (pos 2)))) (variable 4))))
      (plus (times (times (number (pos 2)) (plus (variable 0) (minus (variable 1)))) (plus (variable 3) (minus (times (variable 2) (variable 4)))))
      (times (variable 1) (times (variable 2) (plus (variable 5) (minus (variable 4)))))) refl in
      cancel_less (g *ℤ (d *ℤ pos 2)) p v n_above
      (close ((g *ℤ (d *ℤ pos 2)) *ℤ p) ((g *ℤ (d *ℤ pos 2)) *ℤ v) z (g *ℤ (pos 2 *ℤ x) +ℤ t *ℤ (d *ℤ (p +ℤ q) -ℤ pos 2 *ℤ x)) ((pos 2 *ℤ (g -ℤ t)) *ℤ (x -ℤ d *ℤ p)) (t *ℤ (d *ℤ (q -ℤ p))) is whole same room way)
    where
      close : (u v z w r s : ℤ) → z ≡ w → z ≡ v → w -ℤ u ≡ r +ℤ s → pos 0 ≤ℤ r → pos 0 <ℤ s → u <ℤ v
      close u v z w r s e f g h k = omega (arith, ints)

      rest : (x y : ℤ) → y ≤ℤ x → pos 0 ≤ℤ (x -ℤ y)
      rest x y h = omega (arith, ints)

      twice : (g t : ℤ) → t ≤ℤ g → pos 0 ≤ℤ (pos 2 *ℤ (g -ℤ t))
      twice g t h = product_least (pos 2) (g -ℤ t) (omega (arith, ints)) (rest g t h)

  pub below_second : v <ℤ q
  below_second =
      let room = product_least (pos 2 *ℤ (g -ℤ t)) (d *ℤ q -ℤ x) (twice g t most) (rest (d *ℤ q) x high) in
      let same : (g *ℤ (d *ℤ pos 2)) *ℤ q -ℤ (g *ℤ (pos 2 *ℤ x) +ℤ t *ℤ (d *ℤ (p +ℤ q) -ℤ pos 2 *ℤ x)) ≡ (pos 2 *ℤ (g -ℤ t)) *ℤ (d *ℤ q -ℤ x) +ℤ t *ℤ (d *ℤ (q -ℤ p)) =
      by_polynomials (g ∷ t ∷ d ∷ x ∷ p ∷ q ∷ [])
      (plus (times (times (variable 0) (times (variable 2) (number (pos 2)))) (variable 5))
      (minus (plus (times (variable 0) (times (number (pos 2)) (variable 3))) (times (variable 1) (plus (times (variable 2) (plus (variable 4) (variable 5))) (minus (times (number (pos 2)) (variable 3))))))))
      (plus (times (times (number (pos 2)) (plus (variable 0) (minus (variable 1)))) (plus (times (variable 2) (variable 5)) (minus (variable 3))))
      (times (variable 1) (times (variable 2) (plus (variable 5) (minus (variable 4)))))) refl in
      cancel_less (g *ℤ (d *ℤ pos 2)) v q n_above
      (close ((g *ℤ (d *ℤ pos 2)) *ℤ q) ((g *ℤ (d *ℤ pos 2)) *ℤ v) z (g *ℤ (pos 2 *ℤ x) +ℤ t *ℤ (d *ℤ (p +ℤ q) -ℤ pos 2 *ℤ x)) ((pos 2 *ℤ (g -ℤ t)) *ℤ (d *ℤ q -ℤ x)) (t *ℤ (d *ℤ (q -ℤ p))) is whole same room way)
    where
      close : (u v z w r s : ℤ) → z ≡ w → z ≡ v → u -ℤ w ≡ r +ℤ s → pos 0 ≤ℤ r → pos 0 <ℤ s → v <ℤ u
      close u v z w r s e f g h k = omega (arith, ints)

      rest : (x y : ℤ) → y ≤ℤ x → pos 0 ≤ℤ (x -ℤ y)
      rest x y h = omega (arith, ints)

      twice : (g t : ℤ) → t ≤ℤ g → pos 0 ≤ℤ (pos 2 *ℤ (g -ℤ t))
      twice g t h = product_least (pos 2) (g -ℤ t) (omega (arith, ints)) (rest g t h)

-- ---- marks by heights
-- a mark of edge k whose height is between those of p and q
abbrev pub IsOutside : ℕ → ℤ → ℤ → Point → Point → MarkOf → Type 0
IsOutside k m n p q t = t.edge ≡ k → height m n p <ℤ height m n t.point → height m n t.point <ℤ height m n q → ⊥

-- x divided by d is between two marks of edge k, and none of the list is
pub record Gap (offsets : List ℕ) (c : List Point) (k : ℕ) (m n d : ℤ) (x : Point) (marks : List MarkOf) : Type 0 where
  pub first : Point
  pub second : Point
  pub is_first : IsMark offsets c k first
  pub is_second : IsMark offsets c k second
  pub order : height m n first <ℤ height m n second
  pub low : (d *ℤ height m n first) ≤ℤ height m n x
  pub high : height m n x ≤ℤ (d *ℤ height m n second)
  pub none : All (IsOutside k m n first second) marks

module _ (offsets : List ℕ) (c : List Point) (k : ℕ) (m n d : ℤ) (x : Point) where
  -- a mark more
  narrowed : (t : MarkOf) (ts : List MarkOf) → IsMark offsets c t.edge t.point → Gap offsets c k m n d x ts → Gap offsets c k m n d x (t ∷ ts)
  narrowed t ts mark g = elim (cases_eq t.edge k) [
    | inr other ↦ kept (λ same. absurd (other same))
    | inl same ↦ elim (compared (height m n t.point) (height m n g.first)) [
      | inl low ↦ kept (λ e below above. never_below _ _ low below)
      | inr above ↦ elim (compared (height m n g.second) (height m n t.point)) [
        | inl high ↦ kept (λ e lower upper. never_below _ _ high upper)
        | inr below ↦ elim (compared (d *ℤ height m n t.point) (height m n x)) [
          | inl low ↦ record {
            first = t.point;
            second = g.second;
            is_first = subst (λ (j : ℕ). IsMark offsets c j t.point) same mark;
            is_second = g.is_second;
            order = below;
            low = low;
            high = g.high;
            none = All-cons (IsOutside k m n t.point g.second) t ts (λ e lower upper. never (height m n t.point) lower)
                (All-weaker (IsOutside k m n g.first g.second) (IsOutside k m n t.point g.second) (λ u out e lower upper. out e (through _ _ _ above lower) upper) ts g.none);
          }
          | inr high ↦ record {
            first = g.first;
            second = t.point;
            is_first = g.is_first;
            is_second = subst (λ (j : ℕ). IsMark offsets c j t.point) same mark;
            order = above;
            low = g.low;
            high = weaken (height m n x) (d *ℤ height m n t.point) high;
            none = All-cons (IsOutside k m n g.first t.point) t ts (λ e lower upper. never (height m n t.point) upper)
                (All-weaker (IsOutside k m n g.first g.second) (IsOutside k m n g.first t.point) (λ u out e lower upper. out e lower (through _ _ _ upper below)) ts g.none);
          }
        ]
      ]
    ]
  ]
    where
      kept : IsOutside k m n g.first g.second t → Gap offsets c k m n d x (t ∷ ts)
      kept out = record {
        first = g.first;
        second = g.second;
        is_first = g.is_first;
        is_second = g.is_second;
        order = g.order;
        low = g.low;
        high = g.high;
        none = All-cons (IsOutside k m n g.first g.second) t ts out g.none;
      }

      never_below : (u v : ℤ) → u ≤ℤ v → v <ℤ u → ⊥
      never_below u v h l = omega (arith, ints)

      never : (u : ℤ) → u <ℤ u → ⊥
      never u l = omega (arith, ints)

      through : (u v w : ℤ) → u <ℤ v → v <ℤ w → u <ℤ w
      through u v w h l = omega (arith, ints)

      weaken : (u v : ℤ) → u <ℤ v → u ≤ℤ v
      weaken u v h = omega (arith, ints)

  -- all marks
  pub gap_of : (marks : List MarkOf) → All (λ t. IsMark offsets c t.edge t.point) marks → Gap offsets c k m n d x [] → Gap offsets c k m n d x marks
  gap_of [] each g = g
  gap_of (t ∷ ts) each g = narrowed t ts (All-head (λ t. IsMark offsets c t.edge t.point) t ts each) (gap_of ts (All-tail (λ t. IsMark offsets c t.edge t.point) t ts each) g)

  -- the ends alone
  pub whole_gap : (e : ℕ) → k < length c → IsAfter offsets k e → (height m n (point_at c k) ≡ height m n (point_at c e) → ⊥) → LiesOn d x (point_at c k) (point_at c e) → Gap offsets c k m n d x []
  whole_gap e within after differ on = elim (compared (height m n (point_at c k)) (height m n (point_at c e))) [
    | inl up ↦ record {
      first = point_at c k;
      second = point_at c e;
      is_first = start within refl;
      is_second = end e after refl;
      order = strictly (height m n (point_at c k)) (height m n (point_at c e)) up differ;
      low = height_least m n d x (point_at c k) (point_at c e) up on;
      high = height_most m n d x (point_at c k) (point_at c e) up on;
      none = All-nil (IsOutside k m n (point_at c k) (point_at c e));
    }
    | inr down ↦ record {
      first = point_at c e;
      second = point_at c k;
      is_first = end e after refl;
      is_second = start within refl;
      order = down;
      low = height_least m n d x (point_at c e) (point_at c k) (weaken _ _ down) (lies_reversed d x (point_at c k) (point_at c e) on);
      high = height_most m n d x (point_at c e) (point_at c k) (weaken _ _ down) (lies_reversed d x (point_at c k) (point_at c e) on);
      none = All-nil (IsOutside k m n (point_at c e) (point_at c k));
    }
  ]
    where
      weaken : (u v : ℤ) → u <ℤ v → u ≤ℤ v
      weaken u v h = omega (arith, ints)

      strictly : (u v : ℤ) → u ≤ℤ v → (u ≡ v → ⊥) → u <ℤ v
      strictly u v h differ = elim (compared v u) [
        | inr l ↦ l
        | inl l ↦ absurd (differ (both u v h l))
      ]
        where
          both : (u v : ℤ) → u ≤ℤ v → v ≤ℤ u → u ≡ v
          both u v h l = omega (arith, ints)

-- ---- edges with marks
-- the list has a mark of edge k, which is one to look at, or none
some_mark : (offsets : List ℕ) (c : List Point) (k : ℕ) (marks : List MarkOf) → All (λ t. IsListed offsets c t.edge) marks → IsListed offsets c k ⊎ All (λ t. t.edge ≡ k → ⊥) marks
some_mark offsets c k [] listed = inr (All-nil (λ t. t.edge ≡ k → ⊥))
some_mark offsets c k (t ∷ ts) listed = elim (cases_eq t.edge k) [
  | inl same ↦ inl (subst (λ (j : ℕ). IsListed offsets c j) same (All-head (λ t. IsListed offsets c t.edge) t ts listed))
  | inr other ↦ elim (some_mark offsets c k ts (All-tail (λ t. IsListed offsets c t.edge) t ts listed)) [
    | inl found ↦ inl found
    | inr none ↦ inr (All-cons (λ t. t.edge ≡ k → ⊥) t ts other none)
  ]
]

-- an edge is one to look at or not
pub listed_or_not : (offsets : List ℕ) (c : List Point) (k : ℕ) (marks : List MarkOf) → k < length c → AreMarks offsets c marks → IsListed offsets c k ⊎ (IsListed offsets c k → ⊥)
listed_or_not offsets c k marks within are = elim (some_mark offsets c k marks are.listed) [
  | inl found ↦ inl found
  | inr none ↦ inr (λ listed. All-contains (λ t. t.edge ≡ k → ⊥) marks (record { edge = k; point = point_at c k }) none (are.all k (point_at c k) listed (start within refl)) refl)
]
