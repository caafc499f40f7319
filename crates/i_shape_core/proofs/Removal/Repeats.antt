-- A contour without repeated points is an end of removing points that equal a neighbour, so the theory of ends applies
-- to its start and direction.
use Rattle.std.proofs.Common.{◌≡◌, ℕ, ◌<◌, ◌≤◌, List, [], ◌∷◌, ◌++◌, length, reverse, refl, sym, ap, subst, ◌∙◌, arith, ◌⊎◌, inl, inr, Bool, true, false, cond, append_assoc, length-append}
use native.Mathlib.Decide.{dec_le}
use Rattle.i_shape_core.proofs.Common.{Point, origin, IsZeroTurn, Test, point_at, place_before, place_after, IsRemovable, Step, Reach, stay, step, End, Rotation, SameEnd, collapsed, rotated}
use Rattle.i_shape_core.proofs.Removal.Tests.{Decided, Slides, BothWays}
use Rattle.i_shape_core.specs.Convex.{is_same, changes_after, last_of, dedup}
use Rattle.i_shape_core.proofs.Removal.Dedup.{same_yes, same_no, dedup_fewer, last_of_append, last_again, before_part, dedup_apart, apart_places, next_differs}
use Rattle.i_shape_core.proofs.Removal.Steps.{at_seam, remove_at_seam}
use Rattle.i_shape_core.proofs.Plane.Back.{back_from_cases}
use Rattle.std.proofs.lemmas.List.{length-reverse}
use Rattle.i_shape_core.proofs.Removal.Ends.{ends_alike, reach_by_weaker}
use Rattle.i_shape_core.proofs.Removal.Reversal.{reversed_alike}

-- a point equals one of its neighbours
abbrev pub IsRepeat : Test
IsRepeat a b c = (a ≡ b) ⊎ (b ≡ c)

repeat_slides : Slides IsRepeat
repeat_slides a p q b (inr e) s = inl e
repeat_slides a p q b (inl e) (inl f) = inl f
repeat_slides a p q b (inl e) (inr f) = inr (inr f, inl e)

repeat_both_ways : BothWays IsRepeat
repeat_both_ways a b c (inl e) = inr (sym e)
repeat_both_ways a b c (inr e) = inl (sym e)

-- equality of points is decidable
pub same_decided : (a b : Point) → Dec (a ≡ b)
same_decided a b = go (is_same a b) refl
  where
    go : (t : Bool) → is_same a b ≡ t → Dec (a ≡ b)
    go true e = yes (same_yes a b e)
    go false e = no (same_no a b e)

repeat_decided : Decided IsRepeat
repeat_decided a b c = go (same_decided a b) (same_decided b c)
  where
    go : Dec (a ≡ b) → Dec (b ≡ c) → Dec ((a ≡ b) ⊎ (b ≡ c))
    go (yes e) f = yes (inl e)
    go (no e) (yes f) = yes (inr f)
    go (no e) (no f) = no (neither e f)
      where
        neither : (a ≡ b → ⊥) → (b ≡ c → ⊥) → (a ≡ b) ⊎ (b ≡ c) → ⊥
        neither e f (inl x) = e x
        neither e f (inr x) = f x

repeat_taken : (u : List Point) (p : Point) (ps : List Point) → 3 ≤ length (u ++ p ∷ ps) → last_of (last_of p ps) u ≡ p → Step IsRepeat (u ++ p ∷ ps) (u ++ ps)
repeat_taken u p ps h e = record {
  place = length u;
  removable = record {
    enough = h;
    within = omega (arith, length-append u (p ∷ ps));
    passes = inl (before_part u p ps ∙ e ∙ sym (at_seam u p ps));
  };
  left = sym (remove_at_seam (u ++ p ∷ ps) u p ps refl);
}

-- removing repeats of c reaches d, or a list of fewer than three points if d has fewer too
abbrev Leads : List Point → List Point → Type 0
Leads c d = (e : List Point) × Reach IsRepeat c e × ((e ≡ d) ⊎ ((length e < 3) × (length d < 3)))

part_leads : (u : List Point) (q : Point) (ps : List Point) → q ≡ last_of (last_of q ps) u → Leads (u ++ ps) (u ++ changes_after q ps)
part_leads u q [] e = (u ++ [], stay, inl refl)
part_leads u q (p ∷ ps) e = go (part_leads u p ps) (part_leads (u ++ p ∷ []) p ps) (is_same q p) refl (dec_le 3 (length (u ++ p ∷ ps)))
  where
    snoc : (u : List Point) (p : Point) (ps : List Point) → (u ++ p ∷ []) ++ ps ≡ u ++ p ∷ ps
    snoc u p ps = append_assoc u (p ∷ []) ps

    go : (p ≡ last_of (last_of p ps) u → Leads (u ++ ps) (u ++ changes_after p ps))
        → (p ≡ last_of (last_of p ps) (u ++ p ∷ []) → Leads ((u ++ p ∷ []) ++ ps) ((u ++ p ∷ []) ++ changes_after p ps))
        → (t : Bool) → is_same q p ≡ t → Dec (3 ≤ length (u ++ p ∷ ps))
        → Leads (u ++ p ∷ ps) (u ++ cond t (changes_after p ps) (p ∷ changes_after p ps))
    go skip keep true f (yes l) =
        let g : p ≡ last_of (last_of p ps) u = sym (same_yes q p f) ∙ e in
        let r = skip g in
        (r.0, step (repeat_taken u p ps l (sym g)) r.1, r.2)
    go skip keep true f (no l) = (u ++ p ∷ ps, stay, inr (omega arith, omega (arith, dedup_fewer p ps, length-append u (changes_after p ps), length-append u (p ∷ ps))))
    go skip keep false f l =
        let r = keep (sym (last_of_append (last_of p ps) u (p ∷ []))) in
        subst (λ (xs : List Point). Leads xs (u ++ p ∷ changes_after p ps)) (snoc u p ps)
        (subst (λ (xs : List Point). Leads ((u ++ p ∷ []) ++ ps) xs) (snoc u p (changes_after p ps)) r)

dedup_leads_on : (c : List Point) → Leads c (dedup c)
unfolding dedup
dedup_leads_on c = part_leads [] (last_of origin c) c (sym (last_again origin c))

-- if at least three points are left, removing zero turns reaches the contour without repeats
pub dedup_leads : (c : List Point) → 3 ≤ length (dedup c) → Reach IsZeroTurn c (dedup c)
dedup_leads c h = go (dedup_leads_on c)
  where
    turns : (a b d : Point) → IsRepeat a b d → IsZeroTurn a b d
    turns a b d (inl e) = (back_from_cases a b d (inl e)).0
    turns a b d (inr e) = (back_from_cases a b d (inr (inl e))).0

    go : Leads c (dedup c) → Reach IsZeroTurn c (dedup c)
    go (e, r, inl f) = reach_by_weaker turns (subst (Reach IsRepeat c) f r)
    go (e, r, inr f) = absurd (omega (arith, f.1))

no_repeat : (c : List Point) (k : ℕ) → IsRemovable IsRepeat (dedup c) k → ⊥
no_repeat c k r = go r.passes
  where
    go : (point_at (dedup c) (place_before (length (dedup c)) k) ≡ point_at (dedup c) k) ⊎ (point_at (dedup c) k ≡ point_at (dedup c) (place_after (length (dedup c)) k)) → ⊥
    go (inl e) = apart_places (dedup c) k (dedup_apart c) r.within e
    go (inr e) = next_differs (dedup c) k (dedup_apart c) r.within e

-- the contour without repeats is an end of removing them, or both have fewer than three points
pub dedup_end : (c : List Point) → (e : List Point) × End IsRepeat c e × ((e ≡ dedup c) ⊎ ((length e < 3) × (length (dedup c) < 3)))
dedup_end c = go (dedup_leads_on c)
  where
    go : Leads c (dedup c) → (e : List Point) × End IsRepeat c e × ((e ≡ dedup c) ⊎ ((length e < 3) × (length (dedup c) < 3)))
    go (e, r, inl f) = (e, record { reached = r; none_left = λ k x. no_repeat c k (subst (λ (xs : List Point). IsRemovable IsRepeat xs k) f x) }, inl f)
    go (e, r, inr f) = (e, record { reached = r; none_left = λ k x. few k x.enough f.0 }, inr f)
      where
        few : (k : ℕ) → 3 ≤ length e → length e < 3 → ⊥
        few k a b = omega arith

-- both have fewer than three points, or one is a rotation of the other
pub data SameCycle (c d : List Point) : Type 0 where
  few : length c < 3 → length d < 3 → SameCycle c d
  cycle : 3 ≤ length c → 3 ≤ length d → Rotation c d → SameCycle c d

same_cycle : (e f c d : List Point) → (e ≡ c) ⊎ ((length e < 3) × (length c < 3)) → (f ≡ d) ⊎ ((length f < 3) × (length d < 3)) → SameEnd e f → SameCycle c d
same_cycle e f c d (inl x) (inl y) (collapsed a b) = few (subst (λ (xs : List Point). length xs < 3) x a) (subst (λ (xs : List Point). length xs < 3) y b)
same_cycle e f c d (inl x) (inl y) (rotated a b r) = cycle (subst (λ (xs : List Point). 3 ≤ length xs) x a) (subst (λ (xs : List Point). 3 ≤ length xs) y b)
    (subst (λ (xs : List Point). Rotation xs d) x (subst (λ (xs : List Point). Rotation e xs) y r))
same_cycle e f c d (inl x) (inr y) (collapsed a b) = few (subst (λ (xs : List Point). length xs < 3) x a) y.1
same_cycle e f c d (inl x) (inr y) (rotated a b r) = absurd (omega (arith, y.0))
same_cycle e f c d (inr x) (inl y) (collapsed a b) = few x.1 (subst (λ (xs : List Point). length xs < 3) y b)
same_cycle e f c d (inr x) (inl y) (rotated a b r) = absurd (omega (arith, x.0))
same_cycle e f c d (inr x) (inr y) s = few x.1 y.1

-- rotations without repeats are the same cycle
pub dedup_rotated : (c d : List Point) → Rotation c d → SameCycle (dedup c) (dedup d)
dedup_rotated c d r =
    let a = dedup_end c in
    let b = dedup_end d in
    same_cycle a.0 b.0 (dedup c) (dedup d) a.2 b.2 (ends_alike repeat_slides repeat_decided r a.1 b.1)

-- removing repeats and reading backwards is reading backwards and removing repeats, up to rotation
pub dedup_reversed : (c : List Point) → SameCycle (reverse (dedup c)) (dedup (reverse c))
dedup_reversed c =
    let a = dedup_end c in
    let b = dedup_end (reverse c) in
    same_cycle (reverse a.0) b.0 (reverse (dedup c)) (dedup (reverse c)) (backwards a.0 a.2) b.2 (reversed_alike repeat_slides repeat_decided repeat_both_ways a.1 b.1)
  where
    backwards : (e : List Point) → (e ≡ dedup c) ⊎ ((length e < 3) × (length (dedup c) < 3)) → (reverse e ≡ reverse (dedup c)) ⊎ ((length (reverse e) < 3) × (length (reverse (dedup c)) < 3))
    backwards e (inl x) = inl (ap reverse x)
    backwards e (inr x) = inr (omega (arith, length-reverse e, x), omega (arith, length-reverse (dedup c), x))
