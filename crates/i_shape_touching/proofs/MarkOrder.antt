-- Marks sorted by edge and then by point.
use Rattle.std.proofs.Common.{◌≡◌, ℕ, zero, suc, ◌+◌, ◌<◌, Bool, true, false, cond, eqb, ltb, List, [], ◌∷◌, length, get_or, map, AllPairs, ℤ, ◌<ℤ◌, int_lt, refl, sym, ap, ap₂, subst, ◌∙◌, arith, ◌⊎◌, inl, inr, Ordering, Less, Equal, Greater}
use Rattle.std.proofs.lemmas.Int.{ints}
use Rattle.std.proofs.lemmas.Bool.{cases_lt, lt-ltb, eq-eqb}
use Rattle.std.proofs.lemmas.List.{get_or-map, length-map}
use Rattle.std.specs.Ordering.{int_cmp, nat_cmp, is_lt, ordering_then}
use Rattle.i_shape_core.specs.Point.{Point}
use Rattle.i_shape_touching.specs.Touching.{IsLess}
use Rattle.i_shape_touching.specs.Steps.Pieces.{MarkOf, mark_of, IsOrdered}
use Rattle.i_shape_touching.specs.declared.marks.Mark.{Mark}

-- ---- one comparison
-- what a comparison of two parts tells, of which the first is of unsigned numbers
nat_part : (s t : Bool) (rest : Ordering) → is_lt (ordering_then (cond s Less (cond t Equal Greater)) rest) ≡ false → (s ≡ false) × ((t ≡ false) ⊎ (is_lt rest ≡ false))
nat_part true t rest e = absurd (cc)
nat_part false true rest e = (refl, inr e)
nat_part false false rest e = (refl, inl refl)

-- the same, where the first is of integers
int_part : (s t : Bool) (rest : Ordering) → is_lt (ordering_then (cond s Less (cond t Greater Equal)) rest) ≡ false → (s ≡ false) × ((t ≡ true) ⊎ (is_lt rest ≡ false))
int_part true t rest e = absurd (cc)
int_part false true rest e = (refl, inl refl)
int_part false false rest e = (refl, inr e)

-- and where it is the only part
int_last : (s t : Bool) → is_lt (cond s Less (cond t Greater Equal)) ≡ false → s ≡ false
int_last true t e = absurd (cc)
int_last false t e = refl

-- by the numbers
nat_step : (x y : ℕ) (rest : Ordering) → is_lt (ordering_then (nat_cmp y x) rest) ≡ false → (x < y) ⊎ ((x ≡ y) × (is_lt rest ≡ false))
nat_step x y rest e =
    let told = nat_part (ltb y x) (eqb y x) rest e in
    elim (cases_lt x y) [
      | inl l ↦ inl l
      | inr l ↦ elim (cases_lt y x) [
        | inl m ↦ (let t = lt-ltb y x m in let unless = told.0 in absurd (cc))
        | inr m ↦ (let same : x ≡ y = omega (arith, l, m) in elim told.1 [
          | inl unless ↦ (let t = eq-eqb y x (sym same) in absurd (cc))
          | inr less ↦ inr (same, less)
        ])
      ]
    ]

-- by the integers
int_step : (x y : ℤ) (rest : Ordering) → is_lt (ordering_then (int_cmp y x) rest) ≡ false → (x <ℤ y) ⊎ ((x ≡ y) × (is_lt rest ≡ false))
int_step x y rest e = go (int_lt y x) (int_lt x y) refl refl (int_part (int_lt y x) (int_lt x y) rest e)
  where
    go : (s t : Bool) → int_lt y x ≡ s → int_lt x y ≡ t → (s ≡ false) × ((t ≡ true) ⊎ (is_lt rest ≡ false)) → (x <ℤ y) ⊎ ((x ≡ y) × (is_lt rest ≡ false))
    go true t f g told = let unless = told.0 in absurd (cc)
    go false true f g told = inl (omega (arith, ints))
    go false false f g told = elim told.1 [
      | inl unless ↦ absurd (cc)
      | inr less ↦ inr (omega (arith, ints), less)
    ]

-- by the last integers
int_end : (x y : ℤ) → is_lt (int_cmp y x) ≡ false → (x <ℤ y) ⊎ (x ≡ y)
int_end x y e = go (int_lt y x) (int_lt x y) refl refl (int_last (int_lt y x) (int_lt x y) e)
  where
    go : (s t : Bool) → int_lt y x ≡ s → int_lt x y ≡ t → s ≡ false → (x <ℤ y) ⊎ (x ≡ y)
    go true t f g told = absurd (cc)
    go false true f g told = inl (omega (arith, ints))
    go false false f g told = inr (omega (arith, ints))

-- marks that are compared so are in order
told_order : (a b : MarkOf) → is_lt (ordering_then (nat_cmp b.edge a.edge) (ordering_then (int_cmp b.point.x a.point.x) (int_cmp b.point.y a.point.y))) ≡ false → IsOrdered a b
told_order a b e = elim (nat_step a.edge b.edge _ e) [
  | inl l ↦ inl l
  | inr f ↦ elim (int_step a.point.x b.point.x _ f.1) [
    | inl l ↦ inr (f.0, inr (inl l))
    | inr g ↦ elim (int_end a.point.y b.point.y g.1) [
      | inl l ↦ inr (f.0, inr (inr (g.0, l)))
      | inr h ↦ inr (f.0, inl (ap₂ (λ (x y : ℤ). record { x = x; y = y }) g.0 h))
    ]
  ]
]

-- ---- the order of points and marks
-- the order of points is transitive
pub less_less : (p q r : Point) → IsLess p q → IsLess q r → IsLess p r
less_less p q r (inl f) (inl g) = inl (omega (arith, ints))
less_less p q r (inl f) (inr g) = let x = g.0 in inl (omega (arith, ints))
less_less p q r (inr f) (inl g) = let x = f.0 in inl (omega (arith, ints))
less_less p q r (inr f) (inr g) = let a = f.1 in let b = g.1 in inr (f.0 ∙ g.0, omega (arith, ints))

-- no point is less than itself
pub not_less_itself : (p : Point) → IsLess p p → ⊥
not_less_itself p (inl f) = omega (arith, ints)
not_less_itself p (inr f) = let a = f.1 in omega (arith, ints)

-- the order of marks is transitive
pub ordered_on : (a b d : MarkOf) → IsOrdered a b → IsOrdered b d → IsOrdered a d
ordered_on a b d (inl f) (inl g) = inl (omega (arith, f, g))
ordered_on a b d (inl f) (inr g) = let e = g.0 in inl (omega (arith, f, e))
ordered_on a b d (inr f) (inl g) = let e = f.0 in inl (omega (arith, e, g))
ordered_on a b d (inr f) (inr g) = inr (
  f.0 ∙ g.0,
  elim f.1 [
    | inl e ↦ subst (λ (p : Point). (p ≡ d.point) ⊎ IsLess p d.point) (sym e) g.1
    | inr l ↦ elim g.1 [
      | inl e ↦ inr (subst (λ (p : Point). IsLess a.point p) e l)
      | inr m ↦ inr (less_less a.point b.point d.point l m)
    ]
  ],
)

-- ---- the list
-- where each two neighbours are related so, and the relation goes on, each two items are
pairs_of_neighbours : {X : Type 0} (R : X → X → Type 0) → ((a b d : X) → R a b → R b d → R a d) → (xs : List X) → ((k : ℕ) (d : X) → k + 1 < length xs → R (get_or xs k d) (get_or xs (k + 1) d)) → AllPairs R xs
pairs_of_neighbours R on xs near i zero d h k = absurd (omega (arith, h))
pairs_of_neighbours R on xs near i (suc j) d h k =
    let next : j + 1 ≡ suc j = omega arith in
    let step = subst (λ (n : ℕ). R (get_or xs j d) (get_or xs n d)) next (near j d (omega (arith, k))) in
    elim (cases_lt i j) [
      | inl l ↦ on (get_or xs i d) (get_or xs j d) (get_or xs (suc j) d) (pairs_of_neighbours R on xs near i j d l (omega (arith, k))) step
      | inr l ↦ (let same : j ≡ i = omega (arith, h, l) in subst (λ (n : ℕ). R (get_or xs n d) (get_or xs (suc j) d)) same step)
    ]

-- comparisons in turn are associative
then_then : (u v w : Ordering) → ordering_then (ordering_then u v) w ≡ ordering_then u (ordering_then v w)
then_then Less v w = refl
then_then Equal v w = refl
then_then Greater v w = refl

-- marks that a sort has put in order
pub sorted_marks : {I : Type 0} (value : I → ℤ) (cmp : I → I → Ordering) → ((a b : I) → cmp a b ≡ int_cmp (value a) (value b)) → (ms : List (Mark I))
    → ((k : ℕ) (d : Mark I) → k + 1 < length ms → is_lt (ordering_then (ordering_then (nat_cmp (get_or ms (k + 1) d).edge (get_or ms k d).edge) (cmp (get_or ms (k + 1) d).point.x (get_or ms k d).point.x)) (cmp (get_or ms (k + 1) d).point.y (get_or ms k d).point.y)) ≡ false)
    → AllPairs IsOrdered (map (mark_of value) ms)
sorted_marks value cmp order [] up = λ i j d h k. absurd (omega (arith, k))
sorted_marks value cmp order (m ∷ ms) up = pairs_of_neighbours IsOrdered ordered_on (map (mark_of value) (m ∷ ms)) near
  where
    near : (k : ℕ) (d : MarkOf) → k + 1 < length (map (mark_of value) (m ∷ ms)) → IsOrdered (get_or (map (mark_of value) (m ∷ ms)) k d) (get_or (map (mark_of value) (m ∷ ms)) (k + 1) d)
    near k d h =
        let within : k + 1 < length (m ∷ ms) = omega (arith, h, length-map (m ∷ ms) (mark_of value)) in
        let a = get_or (m ∷ ms) k m in
        let b = get_or (m ∷ ms) (k + 1) m in
        let told = ap₂ (λ (u v : Ordering). is_lt (ordering_then (nat_cmp b.edge a.edge) (ordering_then u v))) (sym (order b.point.x a.point.x)) (sym (order b.point.y a.point.y))
        ∙ ap is_lt (sym (then_then (nat_cmp b.edge a.edge) (cmp b.point.x a.point.x) (cmp b.point.y a.point.y))) ∙ up k m within in
        let first = get_or-map (mark_of value) (m ∷ ms) k m d (omega (arith, within)) in
        let second = get_or-map (mark_of value) (m ∷ ms) (k + 1) m d within in
        subst (λ (x : MarkOf). IsOrdered x (get_or (map (mark_of value) (m ∷ ms)) (k + 1) d)) (sym first) (subst (λ (y : MarkOf). IsOrdered (mark_of value a) y) (sym second) (told_order (mark_of value a) (mark_of value b) told))
