-- The walk over a contour that starts from its last point and tests whether a point lies on each edge.
use Rattle.std.proofs.Common.{◌≡◌, ◌↔◌, ℕ, suc, ◌+◌, ◌-◌, ◌<◌, ◌≤◌, List, length, get_or, Bool, true, false, IsTrue, ℤ, refl, sym, ap, subst, subst₂, ◌∙◌, arith, inl, inr}
use Rattle.std.proofs.lemmas.Bool.{cases_eq}
use Rattle.i_shape_core.proofs.Common.{Point, point_of, contour_of, IntPoint, point_at, place_before, place_after}
use Rattle.i_shape_core.specs.Boundary.{IsBetween, IsOnEdge}
use Rattle.i_shape_core.proofs.Plane.Contours.{read-point, length-contour}
use Rattle.i_shape_core.proofs.Removal.Places.{before_first, before_later, before_within, before_is, before_from, after_is, after_within, after_from}

-- p is on the edge that ends at place k
abbrev pub EndsOn : List Point → Point → ℕ → Type 0
EndsOn c p k = IsBetween (point_at c (place_before (length c) k)) p (point_at c k)

-- p is on no edge that ends before place k
abbrev pub NoneEndsOn : List Point → Point → ℕ → Type 0
NoneEndsOn c p k = (j : ℕ) → j < k → j < length c → EndsOn c p j → ⊥

-- if p is on no edge that ends before k, nor on that ending at k, it is on none that ends before k + 1
pub none_more : (c : List Point) (p : Point) (k : ℕ) → NoneEndsOn c p k → (EndsOn c p k → ⊥) → NoneEndsOn c p (k + 1)
none_more c p k none not j h within on = elim (cases_eq j k) [
  | inl e ↦ not (subst (EndsOn c p) e on)
  | inr n ↦ none j (omega (arith, h, n)) within on
]

-- if p is on the edge that ends at place k, it is on an edge of the contour
pub on_edge : (c : List Point) (p : Point) (k : ℕ) → k < length c → EndsOn c p k → IsOnEdge c p
on_edge c p k h on =
    let n = length c in
    let before = place_before n k in
    let within = before_within n k h in
    let next : place_after n before ≡ k = after_from n before k within (before_is n k h) in
    record { place = before; within = within; between = subst (λ j. IsBetween (point_at c before) p (point_at c j)) (sym next) on }

-- if p is on no edge that ends before the length, it is on no edge of the contour
pub on_none : (c : List Point) (p : Point) (k : ℕ) → length c ≤ k → NoneEndsOn c p k → IsOnEdge c p → ⊥
on_none c p k all none w =
    let n = length c in
    let next = place_after n w.place in
    let h = after_within n w.place w.within in
    let back : place_before n next ≡ w.place = before_from n w.place next w.within h (after_is n w.place w.within) in
    none next (omega (arith, h, all)) h (subst (λ j. IsBetween (point_at c j) p (point_at c next)) (sym back) w.between)

-- if p is on no edge, false is the test's result
pub told_none : (c : List Point) (p : Point) (k : ℕ) → length c ≤ k → NoneEndsOn c p k → IsTrue false ↔ IsOnEdge c p
told_none c p k all none = (λ e. absurd (cc), λ w. absurd (on_none c p k all none w))

-- if p is on the edge that ends at place k, true is the test's result
pub told_on : (c : List Point) (p : Point) (k : ℕ) → k < length c → EndsOn c p k → IsTrue true ↔ IsOnEdge c p
told_on c p k h on = (λ e. on_edge c p k h on, λ w. refl)

module _ {I : Type 0} (value : I → ℤ) (cs : List (IntPoint I)) where
  -- the walk starts from the last point, the one before place 0
  pub from_last : (last : IntPoint I) → 0 < length cs → last ≡ get_or cs (length cs - 1) last → point_of value last ≡ point_at (contour_of value cs) (place_before (length (contour_of value cs)) 0)
  from_last last some e =
      let count = length-contour value cs in
      let first = before_first (length (contour_of value cs)) (omega (arith, count, some)) in
      read-point value cs (length cs - 1) last (omega (arith, some)) e ∙ ap (point_at (contour_of value cs)) (ap (λ n. n - 1) (sym count) ∙ sym first)

  -- the point at place k is the one before place k + 1
  pub from_next : (k : ℕ) (x : IntPoint I) → k + 1 < length (contour_of value cs) → x ≡ get_or cs k x → point_of value x ≡ point_at (contour_of value cs) (place_before (length (contour_of value cs)) (k + 1))
  from_next k x h e =
      let count = length-contour value cs in
      let next : suc k ≡ k + 1 = omega arith in
      let back : place_before (length (contour_of value cs)) (k + 1) ≡ k = subst (λ m. place_before (length (contour_of value cs)) m ≡ k) next (before_later (length (contour_of value cs)) k (omega (arith, h))) in
      read-point value cs k x (omega (arith, h, count)) e ∙ ap (point_at (contour_of value cs)) (sym back)

  -- the test of the edge from `start` to x is that of the edge that ends at place k
  pub edge_read : (p : Point) (k : ℕ) (start x : IntPoint I) → k < length cs → x ≡ get_or cs k x → point_of value start ≡ point_at (contour_of value cs) (place_before (length (contour_of value cs)) k)
      → (t : Bool) → IsTrue t ↔ IsBetween (point_of value start) p (point_of value x) → IsTrue t ↔ EndsOn (contour_of value cs) p k
  edge_read p k start x h e from t told =
      subst₂ (λ a b. IsTrue t ↔ IsBetween a p b) from (read-point value cs k x h e) told
