-- Each contour has an end, unique up to rotation.
use Rattle.std.proofs.Common.{◌≡◌, ℕ, zero, suc, ◌<◌, ◌≤◌, ◌⊎◌, List, length, inl, inr, refl, sym, ap, subst, arith, remove, length-append, length-drop, length-take, take, drop, eq-or-lt_of_le, le_of_suc-le-suc, All}
use Rattle.std.proofs.lemmas.List.Elements.{All-append, All-take, All-drop}
use native.Mathlib.Decide.{dec_le, dec_lt}
use Rattle.i_shape_core.proofs.Common.{Point, Test, IsRemovable, Step, Reach, stay, step, End, Rotation, SameEnd, collapsed, rotated, point_at, place_before, place_after}
use Rattle.i_shape_core.proofs.Removal.Tests.{Slides, Decided}
use Rattle.i_shape_core.proofs.Removal.Rotations.{rotation_refl, rotation_sym, rotation_trans, rotation_length}
use Rattle.i_shape_core.proofs.Removal.Steps.{cycle_step_of_step, cycle_step_of_rotated, step_of_cycle_step, step_of_rotated}
use Rattle.i_shape_core.proofs.Removal.Confluence.{Meets, same, small, common, steps_meet}

-- a step removes one point
pub step_length : {P : Test} {c d : List Point} → Step P c d → length c ≡ suc (length d)
step_length {P} {c} {d} s = omega (arith, ap length s.left, length-append (take s.place c) (drop (suc s.place) c), length-take s.place c, length-drop (suc s.place) c, s.removable.within)

-- removals don't add points
pub reach_shrinks : {P : Test} {c e : List Point} → Reach P c e → length e ≤ length c
reach_shrinks stay = omega arith
reach_shrinks (step s r) = let h = reach_shrinks r in omega (arith, step_length s)

-- two chains of removals are a chain
pub reach_trans : {P : Test} {c d e : List Point} → Reach P c d → Reach P d e → Reach P c e
reach_trans stay s = s
reach_trans (step a r) s = step a (reach_trans r s)

-- if Q holds of each point, it holds of each point left
pub all_left : {P : Test} (Q : Point → Type 0) {c e : List Point} → Reach P c e → All Q c → All Q e
all_left Q stay h = h
all_left Q {c} (step s r) h =
    all_left Q r (subst (All Q) (sym s.left) (All-append Q (take s.place c) (drop (suc s.place) c) (All-take Q s.place c h) (All-drop Q (suc s.place) c h)))

-- a list reached by a test is reached by a weaker one
pub reach_by_weaker : {B Z : Test} → ((a p q : Point) → B a p q → Z a p q) → {c e : List Point} → Reach B c e → Reach Z c e
reach_by_weaker w stay = stay
reach_by_weaker w (step s r) = step (record { place = s.place; removable = record { enough = s.removable.enough; within = s.removable.within; passes = w _ _ _ s.removable.passes }; left = s.left }) (reach_by_weaker w r)

-- an end after a step is an end before it
pub end_of_step : {P : Test} {c d e : List Point} → Step P c d → End P d e → End P c e
end_of_step s w = record { reached = step s w.reached; none_left = w.none_left }

-- `SameEnd` is transitive
pub same_end_trans : {e f g : List Point} → SameEnd e f → SameEnd f g → SameEnd e g
same_end_trans (collapsed a b) (collapsed x y) = collapsed a y
same_end_trans (collapsed a b) (rotated x y r) = absurd (omega arith)
same_end_trans (rotated a b r) (collapsed x y) = absurd (omega arith)
same_end_trans (rotated a b r) (rotated x y s) = rotated a y (rotation_trans r s)

-- rotations have the same end
pub same_end_of_rotation : {e f : List Point} → Rotation e f → SameEnd e f
same_end_of_rotation {e} {f} r = go (dec_le 3 (length e))
  where
    go : Dec (3 ≤ length e) → SameEnd e f
    go (yes h) = rotated h (omega (arith, rotation_length r)) r
    go (no h) = collapsed (omega arith) (omega (arith, rotation_length r))

-- some place passes, or none below m does
find_below : {P : Test} → Decided P → (c : List Point) (m : ℕ) → ((k : ℕ) × IsRemovable P c k) ⊎ ((k : ℕ) → k < m → IsRemovable P c k → ⊥)
find_below {P} dec c zero = inr (λ k h r. absurd (omega arith))
find_below {P} dec c (suc m) = go (find_below dec c m) (dec_le 3 (length c)) (dec_lt m (length c)) (dec (point_at c (place_before (length c) m)) (point_at c m) (point_at c (place_after (length c) m)))
  where
    Found : Type 0
    Found = ((k : ℕ) × IsRemovable P c k) ⊎ ((k : ℕ) → k < suc m → IsRemovable P c k → ⊥)

    none : ((k : ℕ) → k < m → IsRemovable P c k → ⊥) → (IsRemovable P c m → ⊥) → (k : ℕ) → k < suc m → IsRemovable P c k → ⊥
    none below here k h r = elim (eq-or-lt_of_le (le_of_suc-le-suc h)) [ inl e ↦ here (subst (λ (x : ℕ). IsRemovable P c x) e r) | inr l ↦ below k l r ]

    go : ((k : ℕ) × IsRemovable P c k) ⊎ ((k : ℕ) → k < m → IsRemovable P c k → ⊥) → Dec (3 ≤ length c) → Dec (m < length c) → Dec (P (point_at c (place_before (length c) m)) (point_at c m) (point_at c (place_after (length c) m))) → ((k : ℕ) × IsRemovable P c k) ⊎ ((k : ℕ) → k < suc m → IsRemovable P c k → ⊥)
    go (inl x) a b p = inl x
    go (inr n) (yes a) (yes b) (yes p) = inl (m, record { enough = a; within = b; passes = p })
    go (inr n) (no a) b p = inr (none n (λ r. a r.enough))
    go (inr n) (yes a) (no b) p = inr (none n (λ r. b r.within))
    go (inr n) (yes a) (yes b) (no p) = inr (none n (λ r. p r.passes))

-- a contour of at most n points has an end
pub end_within : {P : Test} → Decided P → (n : ℕ) (c : List Point) → length c ≤ n → (e : List Point) × End P c e
end_within {P} dec zero c h = (c, record { reached = stay; none_left = λ k r. absurd (omega (arith, r.enough)) })
end_within {P} dec (suc n) c h = go (λ d l. end_within dec n d l) (find_below dec c (length c))
  where
    go : ((d : List Point) → length d ≤ n → (e : List Point) × End P d e) → ((k : ℕ) × IsRemovable P c k) ⊎ ((k : ℕ) → k < length c → IsRemovable P c k → ⊥) → (e : List Point) × End P c e
    go more (inl f) =
        let s : Step P c (remove c f.0) = record { place = f.0; removable = f.1; left = refl } in
        let w = more (remove c f.0) (omega (arith, step_length s)) in
        (w.0, end_of_step s w.1)
    go more (inr none) = (c, record { reached = stay; none_left = λ k r. none k r.within r })

-- each contour has an end
pub has_end : {P : Test} → Decided P → (c : List Point) → (e : List Point) × End P c e
has_end dec c = end_within dec (length c) c (omega arith)

-- without a removable point there is no step
pub no_step : {P : Test} {c d : List Point} → ((k : ℕ) → IsRemovable P c k → ⊥) → Step P c d → ⊥
no_step n s = n s.place s.removable

-- any two ends of rotations of at most n points are the same
abbrev pub AlikeWithin : Test → ℕ → Type 0
AlikeWithin P n = (c d e f : List Point) → length c ≤ n → Rotation c d → End P c e → End P d f → SameEnd e f

ends_that_meet : {P : Test} → Decided P → (n : ℕ) → AlikeWithin P n → (c d e f : List Point) → length c ≤ n → length d ≤ n → End P c e → End P d f → Meets P c d → SameEnd e f
ends_that_meet dec n alike c d e f h l a b (same r) = alike c d e f h r a b
ends_that_meet dec n alike c d e f h l a b (small x y) = collapsed (omega (arith, reach_shrinks a.reached)) (omega (arith, reach_shrinks b.reached))
ends_that_meet dec n alike c d e f h l a b (common g s t) =
    let x = step_of_cycle_step s in
    let y = step_of_cycle_step t in
    let v = has_end dec x.0 in
    let w = has_end dec y.0 in
    same_end_trans (alike c c e v.0 h (rotation_refl c) a (end_of_step x.1 v.1))
    (same_end_trans (alike x.0 y.0 v.0 w.0 (omega (arith, step_length x.1)) (rotation_trans (rotation_sym x.2) y.2) v.1 w.1)
    (alike d d w.0 f l (rotation_refl d) (end_of_step y.1 w.1) b))

ends_within : {P : Test} → Slides P → Decided P → (n : ℕ) (c d e f : List Point) → length c ≤ n → Rotation c d →
    Reach P c e → ((k : ℕ) → IsRemovable P e k → ⊥) → Reach P d f → ((k : ℕ) → IsRemovable P f k → ⊥) → SameEnd e f
ends_within sl dec n c d e f h r stay x stay y = same_end_of_rotation r
ends_within sl dec n c d e f h r stay x (step s b) y = absurd (no_step x (step_of_rotated (rotation_sym r) s).1)
ends_within sl dec n c d e f h r (step s a) x stay y = absurd (no_step y (step_of_rotated r s).1)
ends_within sl dec zero c d e f h r (step s a) x (step t b) y = absurd (omega (arith, step_length s))
ends_within sl dec (suc n) c d e f h r (step {d = v} s a) x (step {d = w} t b) y =
    ends_that_meet dec n (λ c' d' e' f' h' r' a' b'. ends_within sl dec n c' d' e' f' h' r' a'.reached a'.none_left b'.reached b'.none_left) v w e f
    (omega (arith, step_length s)) (omega (arith, step_length t, rotation_length r))
    (record { reached = a; none_left = x }) (record { reached = b; none_left = y })
    (steps_meet sl (cycle_step_of_step s) (cycle_step_of_rotated (rotation_sym r) (cycle_step_of_step t)))

-- any two ends of rotations are rotations of each other, or both have collapsed
pub ends_alike : {P : Test} → Slides P → Decided P → {c d e f : List Point} → Rotation c d → End P c e → End P d f → SameEnd e f
ends_alike sl dec {c} {d} {e} {f} r a b = ends_within sl dec (length c) c d e f (omega arith) r a.reached a.none_left b.reached b.none_left

-- two ends of a contour are the same up to rotation
pub one_end : {P : Test} → Slides P → Decided P → {c e f : List Point} → End P c e → End P c f → SameEnd e f
one_end sl dec {c} a b = ends_alike sl dec (rotation_refl c) a b
