-- Steps on the cycle: the contour is rotated so that the removable point comes first.
use Rattle.std.proofs.Common.{◌≡◌, ℕ, suc, ◌+◌, ◌-◌, ◌<◌, ◌≤◌, List, [], ◌∷◌, ◌++◌, length, get_or, take, drop, refl, sym, ap, ◌∙◌, subst, arith, append_assoc, append-nil, length-append, get_or-append-add, take_at, drop_at, length-take-le, subst₂, remove}
use Rattle.std.proofs.lemmas.List.{get_or_append_left, get_or_at}
use lib.Seq.{split_at}
use Rattle.i_shape_core.proofs.Common.{Point, origin, point_at, place_before, place_after, Test, IsRemovable, Step, Rotation}
use Rattle.i_shape_core.proofs.Removal.Places.{before_first, before_later, after_earlier, after_last}
use Rattle.i_shape_core.proofs.Removal.Rotations.{rotation_sym, rotation_trans, Cut, cut_from_rotation, rotation_from_cut}

-- the first point of a list
abbrev pub first : List Point → Point
first c = get_or c 0 origin

-- the last point of a list, or the origin if there is none
unfoldable pub last : List Point → Point
last c = get_or c (length c - 1) origin

-- a concatenation ends as its second list does, if that isn't empty
pub last-append : (x y : List Point) → 0 < length y → last (x ++ y) ≡ last y
unfolding last
last-append x y h =
    let e : length (x ++ y) - 1 ≡ length x + (length y - 1) = omega (arith, length-append x y) in
    ap (λ (n : ℕ). get_or (x ++ y) n origin) e ∙ get_or-append-add x y (length y - 1) origin

-- a list ends with the point appended to it
pub last-push : (x : List Point) (p : Point) → last (x ++ p ∷ []) ≡ p
unfolding last
last-push x p = last-append x (p ∷ []) (omega arith)

-- the last point doesn't depend on those before it
pub last_two : (l : List Point) (b x : Point) (a : List Point) → last (l ++ b ∷ x ∷ a) ≡ last (x ∷ a)
last_two l b x a = last-append l (b ∷ x ∷ a) (omega arith) ∙ last-append (b ∷ []) (x ∷ a) (omega arith)

-- dropping a point before the last keeps the last
pub last_over : (l : List Point) (r s : Point) (m : List Point) → last (l ++ r ∷ s ∷ m) ≡ last (l ++ s ∷ m)
last_over l r s m = last_two l r s m ∙ sym (last-append l (s ∷ m) (omega arith))

-- c rotated is the point and the rest, the point passes the test, and d is a rotation of the rest
pub record CycleStep (P : Test) (c d : List Point) : Type 0 where
  pub point : Point
  pub rest : List Point
  pub start : Rotation c (point ∷ rest)
  pub two : 2 ≤ length rest
  pub passes : P (last rest) point (first rest)
  pub finish : Rotation d rest

-- the point at the cut
pub at_seam : (u : List Point) (p : Point) (t : List Point) → point_at (u ++ p ∷ t) (length u) ≡ p
at_seam u p t = get_or_at u p t origin (length u) refl

-- the point before the cut point is the last of the rest, read round the cycle
pub before_seam : (u : List Point) (p : Point) (t : List Point) → 0 < length (t ++ u) → point_at (u ++ p ∷ t) (place_before (length (u ++ p ∷ t)) (length u)) ≡ last (t ++ u)
unfolding last
before_seam [] p [] h = absurd (omega arith)
before_seam [] p (q ∷ t) h =
    let e : place_before (suc (suc (length t))) 0 ≡ suc (length t) = before_first (suc (suc (length t))) (omega arith) ∙ omega arith in
    let l : suc (length (t ++ [])) - 1 ≡ length t = omega (arith, length-append t []) in
    ap (λ (m : ℕ). get_or (p ∷ q ∷ t) m origin) e ∙ (ap (λ (z : List Point). get_or (q ∷ z) (length t) origin) (sym (append-nil t)) ∙ ap (λ (m : ℕ). get_or (q ∷ (t ++ [])) m origin) (sym l))
before_seam (a ∷ u) p t h =
    let e : place_before (length ((a ∷ u) ++ p ∷ t)) (suc (length u)) ≡ length u = before_later (length ((a ∷ u) ++ p ∷ t)) (length u) (omega (arith, length-append u (p ∷ t))) in
    let l : length (t ++ a ∷ u) - 1 ≡ length t + length u = omega (arith, length-append t (a ∷ u)) in
    ap (λ (m : ℕ). get_or ((a ∷ u) ++ p ∷ t) m origin) e ∙ (get_or_append_left (a ∷ u) (p ∷ t) origin (length u) (omega arith) ∙ (sym (get_or-append-add t (a ∷ u) (length u) origin) ∙ ap (λ (m : ℕ). get_or (t ++ a ∷ u) m origin) (sym l)))

-- the point after the cut point is the first of the rest, read round the cycle
pub after_seam : (u : List Point) (p : Point) (t : List Point) → 0 < length (t ++ u) → point_at (u ++ p ∷ t) (place_after (length (u ++ p ∷ t)) (length u)) ≡ first (t ++ u)
after_seam [] p [] h = absurd (omega arith)
after_seam (a ∷ u) p [] h =
    ap (λ (m : ℕ). get_or (a ∷ (u ++ p ∷ [])) m origin) (after_last (length ((a ∷ u) ++ p ∷ [])) (length (a ∷ u)) (omega (arith, length-append u (p ∷ []))))
after_seam u p (q ∷ t) h =
    let e : place_after (length (u ++ p ∷ q ∷ t)) (length u) ≡ length u + 1 = after_earlier (length (u ++ p ∷ q ∷ t)) (length u) (omega (arith, length-append u (p ∷ q ∷ t))) ∙ omega arith in
    ap (λ (m : ℕ). get_or (u ++ p ∷ q ∷ t) m origin) e ∙ (get_or-append-add u (p ∷ q ∷ t) 1 origin)

-- the point of c at place k and its neighbours, where c is cut there
pub record Around (c u : List Point) (p : Point) (t : List Point) (k : ℕ) : Type 0 where
  pub before : point_at c (place_before (length c) k) ≡ last (t ++ u)
  pub at : point_at c k ≡ p
  pub after : point_at c (place_after (length c) k) ≡ first (t ++ u)

-- at a cut, the neighbours are the last and the first of the rest, read round the cycle
pub around_cut : (c u : List Point) (p : Point) (t : List Point) (k : ℕ) → c ≡ u ++ p ∷ t → k ≡ length u → 0 < length (t ++ u) → Around c u p t k
around_cut c u p t k w e h = record {
  before = cc (before_seam u p t h);
  at = cc (at_seam u p t);
  after = cc (after_seam u p t h);
}

-- a removable point passes the test between the last and the first of the rest
pub passes_from_removable : {P : Test} (c u : List Point) (p : Point) (t : List Point) (k : ℕ) → c ≡ u ++ p ∷ t → k ≡ length u → IsRemovable P c k → P (last (t ++ u)) p (first (t ++ u))
passes_from_removable {P} c u p t k w e r =
    let h : 0 < length (t ++ u) = omega (arith, r.enough, ap length w, length-append u (p ∷ t), length-append t u) in
    let a = around_cut c u p t k w e h in
    subst (λ (x : Point). P (last (t ++ u)) x (first (t ++ u))) a.at (subst₂ (λ (x y : Point). P x (point_at c k) y) a.before a.after r.passes)

-- a point that passes the test between the last and the first of the rest is removable
pub removable_from_passes : {P : Test} (c u : List Point) (p : Point) (t : List Point) → c ≡ u ++ p ∷ t → 2 ≤ length (t ++ u) → P (last (t ++ u)) p (first (t ++ u)) → IsRemovable P c (length u)
removable_from_passes {P} c u p t w two h =
    let a = around_cut c u p t (length u) w refl (omega arith) in
    record {
      enough = omega (arith, two, ap length w, length-append u (p ∷ t), length-append t u);
      within = omega (arith, ap length w, length-append u (p ∷ t));
      passes = subst (λ (x : Point). P (point_at c (place_before (length c) (length u))) x (point_at c (place_after (length c) (length u)))) (sym a.at) (subst₂ (λ (x y : Point). P x p y) (sym a.before) (sym a.after) h);
    }

-- removing a point leaves those before and those after it
pub remove_at_seam : (c u : List Point) (p : Point) (t : List Point) → c ≡ u ++ p ∷ t → remove c (length u) ≡ u ++ t
remove_at_seam c u p t w =
    let a : take (length u) (u ++ p ∷ t) ≡ u = take_at u (p ∷ t) (length u) refl in
    let b : drop (length (u ++ p ∷ [])) ((u ++ p ∷ []) ++ t) ≡ t = drop_at (u ++ p ∷ []) t (length (u ++ p ∷ [])) refl in
    let n : length (u ++ p ∷ []) ≡ suc (length u) = omega (arith, length-append u (p ∷ [])) in
    cc (append_assoc u (p ∷ []) t)

-- a step is a step on the cycle
pub cycle_step_of_step : {P : Test} {c d : List Point} → Step P c d → CycleStep P c d
cycle_step_of_step {P} {c} {d} s = record {
  point = p;
  rest = t ++ u;
  start = rotation_from_cut (record { ahead = u; behind = t; whole = whole; others = refl });
  two = omega (arith, ap length whole, length-append u (p ∷ t), length-append t u, s.removable.enough);
  passes = passes_from_removable c u p t s.place whole (sym (length-take-le s.place c (omega (arith, s.removable.within)))) s.removable;
  finish = record { front = u; back = t; before = s.left; after = refl };
}
  where
    u : List Point
    u = take s.place c

    t : List Point
    t = drop (suc s.place) c

    p : Point
    p = point_at c s.place

    whole : c ≡ u ++ p ∷ t
    whole = split_at c s.place origin s.removable.within

-- a step on the cycle is a step, up to rotation
pub step_of_cycle_step : {P : Test} {c d : List Point} → CycleStep P c d → (e : List Point) × Step P c e × Rotation d e
step_of_cycle_step {P} {c} {d} t = go (cut_from_rotation t.start)
  where
    go : Cut c t.point t.rest → (e : List Point) × Step P c e × Rotation d e
    go k = (k.ahead ++ k.behind, record { place = length k.ahead; removable = removable_from_passes c k.ahead t.point k.behind k.whole (omega (arith, t.two, ap length k.others)) (subst (λ (x : List Point). P (last x) t.point (first x)) k.others t.passes); left = sym (remove_at_seam c k.ahead t.point k.behind k.whole) }, rotation_trans t.finish (record { front = k.behind; back = k.ahead; before = k.others; after = refl }))

-- rotations have the same steps on the cycle
pub cycle_step_of_rotated : {P : Test} {c d e : List Point} → Rotation c d → CycleStep P c e → CycleStep P d e
cycle_step_of_rotated r t = record { point = t.point; rest = t.rest; start = rotation_trans (rotation_sym r) t.start; two = t.two; passes = t.passes; finish = t.finish }

-- if c steps to e, each rotation of c steps to a rotation of e
pub step_of_rotated : {P : Test} {c d e : List Point} → Rotation c d → Step P c e → (f : List Point) × Step P d f × Rotation e f
step_of_rotated r s = step_of_cycle_step (cycle_step_of_rotated r (cycle_step_of_step s))
