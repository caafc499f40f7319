-- The ends of a contour read backwards are its ends read backwards.
use Rattle.std.proofs.Common.{◌≡◌, ℕ, ◌-◌, ◌<◌, List, [], ◌∷◌, length, reverse, get_or, refl, sym, ap, ◌∙◌, subst, subst₂, arith, remove}
use Rattle.std.proofs.lemmas.List.{reverse-append, reverse-reverse, length-reverse, get_or-reverse}
use Rattle.i_shape_core.proofs.Common.{Point, origin, Test, IsRemovable, Step, Reach, stay, step, End, Rotation, SameEnd}
use Rattle.i_shape_core.proofs.Removal.Tests.{Slides, Decided, BothWays}
use Rattle.i_shape_core.proofs.Removal.Rotations.{rotation_refl, rotation_sym, rotation_trans}
use Rattle.i_shape_core.proofs.Removal.Steps.{first, last, CycleStep, cycle_step_of_step, cycle_step_of_rotated, step_of_cycle_step}
use Rattle.i_shape_core.proofs.Removal.Ends.{ends_alike, same_end_trans, same_end_of_rotation, no_step}

-- rotations read backwards are rotations
pub rotation_of_reversed : {A : Type 0} {c d : List A} → Rotation c d → Rotation (reverse c) (reverse d)
rotation_of_reversed r = record {
  front = reverse r.back;
  back = reverse r.front;
  before = ap reverse r.before ∙ reverse-append r.front r.back;
  after = ap reverse r.after ∙ reverse-append r.back r.front;
}

last_of_reversed : (x : List Point) → 0 < length x → last (reverse x) ≡ first x
unfolding last
last_of_reversed x h =
    let e : length x - 1 - (length (reverse x) - 1) ≡ 0 = omega (arith, length-reverse x) in
    get_or-reverse x (length (reverse x) - 1) origin (omega (arith, length-reverse x)) ∙ ap (λ (n : ℕ). get_or x n origin) e

first_of_reversed : (x : List Point) → 0 < length x → first (reverse x) ≡ last x
unfolding last
first_of_reversed x h =
    let e : length x - 1 - 0 ≡ length x - 1 = omega arith in
    get_or-reverse x 0 origin h ∙ ap (λ (n : ℕ). get_or x n origin) e

-- a step read backwards is a step by the test read backwards
pub cycle_step_of_reversed : {P Q : Test} {c d : List Point} → ((a p b : Point) → P a p b → Q b p a) → CycleStep P c d → CycleStep Q (reverse c) (reverse d)
cycle_step_of_reversed {Q = Q} back t = record {
  point = t.point;
  rest = reverse t.rest;
  start = rotation_trans (rotation_of_reversed t.start) (record { front = reverse t.rest; back = t.point ∷ []; before = reverse-append (t.point ∷ []) t.rest; after = refl });
  two = omega (arith, length-reverse t.rest, t.two);
  passes = subst₂ (λ (x y : Point). Q x t.point y) (sym (last_of_reversed t.rest (omega (arith, t.two)))) (sym (first_of_reversed t.rest (omega (arith, t.two)))) (back (last t.rest) t.point (first t.rest) t.passes);
  finish = rotation_of_reversed t.finish;
}

-- if c reaches e, each rotation of c read backwards reaches a rotation of e read backwards
reach_of_reversed : {P : Test} {c e d : List Point} → BothWays P → Reach P c e → Rotation (reverse c) d → (f : List Point) × Reach P d f × Rotation (reverse e) f
reach_of_reversed {d = d} both stay r = (d, stay, r)
reach_of_reversed both (step s a) r =
    let t = step_of_cycle_step (cycle_step_of_rotated r (cycle_step_of_reversed both (cycle_step_of_step s))) in
    let m = reach_of_reversed both a t.2 in
    (m.0, step t.1 m.1, m.2)

-- an end read backwards is, up to rotation, an end of the contour read backwards
pub end_of_reversed : {P : Test} {c e : List Point} → BothWays P → End P c e → (f : List Point) × End P (reverse c) f × Rotation (reverse e) f
end_of_reversed {P} {c} {e} both w = (m.0, record { reached = m.1; none_left = none }, m.2)
  where
    m : (f : List Point) × Reach P (reverse c) f × Rotation (reverse e) f
    m = reach_of_reversed both w.reached (rotation_refl (reverse c))

    none : (k : ℕ) → IsRemovable P m.0 k → ⊥
    none k r =
        let s : Step P m.0 (remove m.0 k) = record { place = k; removable = r; left = refl } in
        let t = cycle_step_of_reversed both (cycle_step_of_rotated (rotation_sym m.2) (cycle_step_of_step s)) in
        no_step w.none_left (step_of_cycle_step (subst (λ (x : List Point). CycleStep P x (reverse (remove m.0 k))) (reverse-reverse e) t)).1

-- each end of the contour read backwards is one of its ends read backwards
pub reversed_alike : {P : Test} → Slides P → Decided P → BothWays P → {c e f : List Point} → End P c e → End P (reverse c) f → SameEnd (reverse e) f
reversed_alike sl dec both {c} a b =
    let m = end_of_reversed both a in
    same_end_trans (same_end_of_rotation m.2) (ends_alike sl dec (rotation_refl (reverse c)) m.1 b)
