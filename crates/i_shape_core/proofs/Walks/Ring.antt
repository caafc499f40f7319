-- The steps of the walk round the ring of the points that are left.
use Rattle.std.proofs.Common.{◌≡◌, ℕ, zero, suc, ◌-◌, ◌<◌, ◌≤◌, min, max, List, [], ◌∷◌, ◌++◌, length, take, drop, inl, inr, refl, sym, ap, ◌∙◌, subst, arith, append_assoc, length-append, take-append-drop, drop_of_length-le, take_all, length-take-le, length-take, length-drop, subst₂}
use native.Mathlib.Decide.{dec_lt}
use lib.Seq.{split_at}
use Rattle.std.proofs.lemmas.List.{drop-append-le, take-append-le}
use Rattle.i_shape_core.proofs.Common.{Point, origin, Test, IsRemovable, Step, Reach, stay, step, End, Rotation, point_at, IsCollapsed, IsRingWalk, LeadKept, LeadRemoved, from_contour_first}
use Rattle.i_shape_core.proofs.Removal.Steps.{first, last, last-push, last_two, passes_from_removable, removable_from_passes, remove_at_seam, cycle_step_of_step, cycle_step_of_rotated, step_of_cycle_step}
use Rattle.i_shape_core.proofs.Removal.Ends.{reach_trans}

abbrev NoneFrom : Test → List Point → ℕ → Type 0
NoneFrom P q u = (k : ℕ) → u ≤ k → IsRemovable P q k → ⊥

-- the item of a list at index k, with the parts of the list before and after it
pub record Place (q : List Point) (k : ℕ) : Type 0 where
  pub ahead : List Point
  pub at : Point
  pub behind : List Point
  pub whole : q ≡ ahead ++ at ∷ behind
  pub place : k ≡ length ahead

-- each index of a list has such parts
pub place_of : (q : List Point) (k : ℕ) → k < length q → Place q k
place_of q k h = record { ahead = take k q; at = point_at q k; behind = drop (suc k) q; whole = split_at q k origin h; place = sym (length-take-le k q (omega arith)) }

-- moving p, which fails the test, to the end makes one fewer untested
kept_tested : {P : Test} (p : Point) (r : List Point) (u : ℕ) → 2 ≤ length r → NoneFrom P (p ∷ r) (suc u) → (P (last r) p (first r) → ⊥) → NoneFrom P (r ++ p ∷ []) u
kept_tested {P} p r u two none here k h m = go (dec_lt k (length r))
  where
    go : Dec (k < length r) → ⊥
    go (yes l) =
        let w = place_of r k l in
        let e : r ++ p ∷ [] ≡ w.ahead ++ w.at ∷ (w.behind ++ p ∷ []) = cc (append_assoc w.ahead (w.at ∷ w.behind) (p ∷ [])) in
        let passes = passes_from_removable {P = P} (r ++ p ∷ []) w.ahead w.at (w.behind ++ p ∷ []) k e w.place m in
        let same : (w.behind ++ p ∷ []) ++ w.ahead ≡ w.behind ++ p ∷ w.ahead = append_assoc w.behind (p ∷ []) w.ahead in
        let old = removable_from_passes {P = P} (p ∷ r) (p ∷ w.ahead) w.at w.behind (ap (λ (x : List Point). p ∷ x) w.whole) (omega (arith, two, ap length w.whole, length-append w.ahead (w.at ∷ w.behind), length-append w.behind (p ∷ w.ahead))) (subst (λ (x : List Point). P (last x) w.at (first x)) same passes) in
        none (suc (length w.ahead)) (omega (arith, w.place)) old
    go (no l) =
        let e : k ≡ length r = omega (arith, m.within, length-append r (p ∷ [])) in
        here (passes_from_removable {P = P} (r ++ p ∷ []) r p [] k refl e m)

first_two : (l : List Point) (b : Point) (a : List Point) (p : Point) → first (l ++ b ∷ a) ≡ first ((l ++ b ∷ []) ++ p ∷ a)
first_two [] b a p = refl
first_two (y ∷ l) b a p = refl

-- removing p and moving b to the front leaves at most max u 2 untested
removed_tested : {P : Test} (p : Point) (r : List Point) (b : Point) (u : ℕ) → NoneFrom P (p ∷ (r ++ b ∷ [])) u → NoneFrom P (b ∷ r) (max u 2)
removed_tested {P} p r b u none zero h m = omega arith
removed_tested {P} p r b u none (suc zero) h m = omega arith
removed_tested {P} p r b u none (suc (suc k)) h m = go (place_of r (suc k) (omega (arith, m.within)))
  where
    go : Place r (suc k) → ⊥
    go w = ends w.ahead w.whole w.place
      where
        ends : (a : List Point) → r ≡ a ++ w.at ∷ w.behind → suc k ≡ length a → ⊥
        ends [] e l = absurd (omega arith)
        ends (x ∷ a) e l =
            let f : b ∷ r ≡ (b ∷ x ∷ a) ++ w.at ∷ w.behind = ap (λ (y : List Point). b ∷ y) e in
            let passes = passes_from_removable {P = P} (b ∷ r) (b ∷ x ∷ a) w.at w.behind (suc (suc k)) f (omega (arith, l)) m in
            let g : p ∷ (r ++ b ∷ []) ≡ (p ∷ x ∷ a) ++ w.at ∷ (w.behind ++ b ∷ []) = cc (append_assoc (x ∷ a) (w.at ∷ w.behind) (b ∷ [])) in
            let s : last (w.behind ++ b ∷ x ∷ a) ≡ last ((w.behind ++ b ∷ []) ++ p ∷ x ∷ a) = last_two w.behind b x a ∙ sym (last_two (w.behind ++ b ∷ []) p x a) in
            let t : first (w.behind ++ b ∷ x ∷ a) ≡ first ((w.behind ++ b ∷ []) ++ p ∷ x ∷ a) = first_two w.behind b (x ∷ a) p in
            none (length (p ∷ x ∷ a)) (omega (arith, l, h)) (removable_from_passes {P = P} (p ∷ (r ++ b ∷ [])) (p ∷ x ∷ a) w.at (w.behind ++ b ∷ []) g (omega (arith, length-append (w.behind ++ b ∷ []) (p ∷ x ∷ a))) (subst₂ (λ (y z : Point). P y w.at z) s t passes))

-- moving the ring's first to its end keeps the order of the contour
kept_order : {A : Type 0} (p : A) (r : List A) (l : ℕ) → l ≤ length r → 0 < l → from_contour_first (p ∷ r) (suc l) ≡ from_contour_first (r ++ p ∷ []) l
kept_order p r l h g =
    let a : drop l (r ++ p ∷ []) ≡ drop l r ++ p ∷ [] = drop-append-le l r (p ∷ []) h in
    let b : take l (r ++ p ∷ []) ≡ take l r = take-append-le l r (p ∷ []) h in
    cc (append_assoc (drop l r) (p ∷ []) (take l r))

kept_order_round : {A : Type 0} (p : A) (r : List A) → from_contour_first (p ∷ r) 1 ≡ from_contour_first (r ++ p ∷ []) (length (r ++ p ∷ []))
kept_order_round p r =
    let a : drop (length (r ++ p ∷ [])) (r ++ p ∷ []) ≡ [] = drop_of_length-le (r ++ p ∷ []) (omega arith) in
    let b : take (length (r ++ p ∷ [])) (r ++ p ∷ []) ≡ r ++ p ∷ [] = take_all (length (r ++ p ∷ [])) (r ++ p ∷ []) (omega arith) in
    cc

-- removing the ring's first, which passes, is a step on the ring in the order of the contour
removed_step : {P : Test} (p : Point) (r : List Point) (l : ℕ) → l ≤ length r → 2 ≤ length r → P (last r) p (first r) → Step P (from_contour_first (p ∷ r) (suc l)) (drop l r ++ take l r)
removed_step {P} p r l h two passes = record {
  place = length (drop l r);
  removable = removable_from_passes {P = P} (from_contour_first (p ∷ r) (suc l)) (drop l r) p (take l r) refl (omega (arith, two, ap length (take-append-drop l r))) (subst (λ (x : List Point). P (last x) p (first x)) (sym (take-append-drop l r)) passes);
  left = sym (remove_at_seam (from_contour_first (p ∷ r) (suc l)) (drop l r) p (take l r) refl);
}

removed_order : {A : Type 0} (r : List A) (b : A) (l : ℕ) → l ≤ length r → drop l (r ++ b ∷ []) ++ take l (r ++ b ∷ []) ≡ from_contour_first (b ∷ r) (suc l)
removed_order r b l h =
    let x : drop l (r ++ b ∷ []) ≡ drop l r ++ b ∷ [] = drop-append-le l r (b ∷ []) h in
    let y : take l (r ++ b ∷ []) ≡ take l r = take-append-le l r (b ∷ []) h in
    cc (append_assoc (drop l r) (b ∷ []) (take l r))

removed_order_round : {A : Type 0} (r : List A) (b : A) (l : ℕ) → l ≡ length (r ++ b ∷ []) → drop l (r ++ b ∷ []) ++ take l (r ++ b ∷ []) ≡ from_contour_first (b ∷ r) 1
removed_order_round r b l h =
    let x : drop l (r ++ b ∷ []) ≡ [] = drop_of_length-le (r ++ b ∷ []) (omega arith) in
    let y : take l (r ++ b ∷ []) ≡ r ++ b ∷ [] = take_all l (r ++ b ∷ []) (omega arith) in
    cc

-- the rotation of a list by k is put back in order by a lead of n - k
pub turned_in_order : {A : Type 0} (c : List A) (k n : ℕ) → length c ≡ n → k < n → c ≡ from_contour_first (drop k c ++ take k c) (n - k)
turned_in_order c k n many within =
    let l : n - k ≡ length (drop k c) = omega (arith, many, length-drop k c) in
    let d = drop-append-le (length (drop k c)) (drop k c) (take k c) (omega arith) in
    let e : drop (length (drop k c)) (drop k c) ≡ [] = drop_of_length-le (drop k c) (omega arith) in
    let t = take-append-le (length (drop k c)) (drop k c) (take k c) (omega arith) in
    let u : take (length (drop k c)) (drop k c) ≡ drop k c = take_all (length (drop k c)) (drop k c) (omega arith) in
    let w = take-append-drop k c in
    cc

-- keeping the ring's first, with the lead that `LeadKept` gives, keeps the order of the contour
pub kept_in_order : {A : Type 0} (q r : List A) (p : A) (l m : ℕ) → q ≡ p ∷ r → l ≤ length q → LeadKept (length q) l m → from_contour_first q l ≡ from_contour_first (r ++ p ∷ []) m
kept_in_order q r p l m e within (inl a) =
    let n : m ≡ length (r ++ p ∷ []) = omega (arith, a.1, ap length e, length-append r (p ∷ [])) in
    let x = a.0 in
    let y = kept_order_round p r in
    cc
kept_in_order q r p l m e within (inr a) =
    let x = a.1 in
    let y = kept_order p r m (omega (arith, a.1, within, ap length e)) (omega (arith, a.0, a.1)) in
    cc

-- removing the ring's first, with the lead that `LeadRemoved` gives, keeps the order of the others
pub removed_in_order : {A : Type 0} (q r : List A) (p b : A) (l m : ℕ) → q ≡ p ∷ (r ++ b ∷ []) → 0 < l → l ≤ length q → LeadRemoved (length q) l m
    → drop (l - 1) (r ++ b ∷ []) ++ take (l - 1) (r ++ b ∷ []) ≡ from_contour_first (b ∷ r) m
removed_in_order q r p b l m e above within (inl a) =
    let x = a.1 in
    let y = removed_order_round r b (l - 1) (omega (arith, a.0, ap length e, length-append r (b ∷ []))) in
    cc
removed_in_order q r p b l m e above within (inr a) =
    let x : m ≡ suc (l - 1) = omega (arith, a.1, above) in
    let y = removed_order r b (l - 1) (omega (arith, a.0, ap length e, length-append r (b ∷ []))) in
    cc

-- The four events of the walk.

-- the walk may start at place k if no place before it passes
pub walk_starts : {P : Test} (c : List Point) (k : ℕ) → 3 ≤ length c → k < length c → ((j : ℕ) → j < k → IsRemovable P c j → ⊥)
    → IsRingWalk P c (drop k c ++ take k c) (length c - k) (length c - k)
walk_starts {P} c k h i earlier = record {
  enough = omega (arith, h, size);
  untested_within = omega (arith, size);
  lead_above = omega (arith, i);
  lead_within = omega (arith, size);
  reached = subst (λ (x : List Point). Reach P c x) (turned_in_order c k (length c) refl i) stay;
  tested = λ j g m. go j g m (place_of (take k c) (j - (length c - k)) (omega (arith, g, m.within, size, i, length-take k c)));
}
  where
    size : length (drop k c ++ take k c) ≡ length c
    size = omega (arith, length-append (drop k c) (take k c), length-drop k c, length-take k c)

    go : (j : ℕ) → length c - k ≤ j → IsRemovable P (drop k c ++ take k c) j → Place (take k c) (j - (length c - k)) → ⊥
    go j g m w =
        let e : drop k c ++ take k c ≡ (drop k c ++ w.ahead) ++ w.at ∷ w.behind = ap (λ (x : List Point). drop k c ++ x) w.whole ∙ sym (append_assoc (drop k c) w.ahead (w.at ∷ w.behind)) in
        let there : j ≡ length (drop k c ++ w.ahead) = omega (arith, g, w.place, length-append (drop k c) w.ahead, length-drop k c) in
        let passes = passes_from_removable {P = P} (drop k c ++ take k c) (drop k c ++ w.ahead) w.at w.behind j e there m in
        let same : w.behind ++ (drop k c ++ w.ahead) ≡ (w.behind ++ drop k c) ++ w.ahead = sym (append_assoc w.behind (drop k c) w.ahead) in
        let whole : c ≡ w.ahead ++ w.at ∷ (w.behind ++ drop k c) = sym (take-append-drop k c) ∙ (ap (λ (x : List Point). x ++ drop k c) w.whole ∙ append_assoc w.ahead (w.at ∷ w.behind) (drop k c)) in
        let old = removable_from_passes {P = P} c w.ahead w.at (w.behind ++ drop k c) whole
        (omega (arith, h, ap length whole, length-append w.ahead (w.at ∷ (w.behind ++ drop k c)), length-append (w.behind ++ drop k c) w.ahead))
        (subst (λ (x : List Point). P (last x) w.at (first x)) same passes) in
        earlier (length w.ahead) (omega (arith, ap length w.whole, length-append w.ahead (w.at ∷ w.behind), length-take k c)) old

-- a point that fails the test goes to the end of the ring
pub walk_keeps : {P : Test} (c q r : List Point) (p : Point) (u v l m : ℕ) → IsRingWalk P c q u l → q ≡ p ∷ r → u ≡ suc v → (P (last r) p (first r) → ⊥) →
    LeadKept (length q) l m → IsRingWalk P c (r ++ p ∷ []) v m
walk_keeps {P} c q r p u v l m w e f here lead = record {
  enough = omega (arith, w.enough, size, size');
  untested_within = omega (arith, w.untested_within, size, size');
  lead_above = elim lead [ inl a ↦ omega (arith, a.0, a.1, w.enough) | inr a ↦ omega (arith, a.0, a.1) ];
  lead_within = elim lead [ inl a ↦ omega (arith, a.1, size, size') | inr a ↦ omega (arith, a.1, w.lead_within, size, size') ];
  reached = subst (λ (x : List Point). Reach P c x) (kept_in_order q r p l m e w.lead_within lead) w.reached;
  tested = kept_tested p r v (omega (arith, w.enough, size)) (λ k g n. w.tested k (omega (arith, g)) (subst (λ (x : List Point). IsRemovable P x k) (sym e) n)) here;
}
  where
    size : length q ≡ suc (length r)
    size = ap length e

    size' : length (r ++ p ∷ []) ≡ suc (length r)
    size' = omega (arith, length-append r (p ∷ []))

removed_reach : {P : Test} (c q r : List Point) (p : Point) (u l : ℕ) → IsRingWalk P c q u l → q ≡ p ∷ r → P (last r) p (first r) → Reach P c (drop (l - 1) r ++ take (l - 1) r)
removed_reach {P} c q r p u l w e passes =
    let n : l ≡ suc (l - 1) = omega (arith, w.lead_above) in
    let x : from_contour_first q l ≡ from_contour_first (p ∷ r) (suc (l - 1)) = cc in
    reach_trans w.reached (step (subst (λ (y : List Point). Step P y (drop (l - 1) r ++ take (l - 1) r)) (sym x)
    (removed_step p r (l - 1) (omega (arith, w.lead_within, ap length e)) (omega (arith, w.enough, ap length e)) passes)) stay)

-- a point that passes is removed, and the walk steps back
pub walk_removes : {P : Test} (c q r : List Point) (p b : Point) (u v l m : ℕ) → IsRingWalk P c q u l → q ≡ p ∷ (r ++ b ∷ []) → P b p (first (r ++ b ∷ [])) → 3 < length q →
    v ≡ min (length (b ∷ r)) (max u 2) → LeadRemoved (length q) l m → IsRingWalk P c (b ∷ r) v m
walk_removes {P} c q r p b u v l m w e passes more f lead = record {
  enough = omega (arith, more, size);
  untested_within = omega (arith, f);
  lead_above = elim lead [ inl a ↦ omega (arith, a.1) | inr a ↦ omega (arith, a.1, w.lead_above) ];
  lead_within = elim lead [ inl a ↦ omega (arith, a.1) | inr a ↦ omega (arith, a.0, a.1, size) ];
  reached = subst (λ (x : List Point). Reach P c x) (removed_in_order q r p b l m e w.lead_above w.lead_within lead) (removed_reach c q (r ++ b ∷ []) p u l w e (subst (λ (x : Point). P x p (first (r ++ b ∷ []))) (sym (last-push r b)) passes));
  tested = λ k g n. removed_tested p r b u (λ j h o. w.tested j h (subst (λ (x : List Point). IsRemovable P x j) (sym e) o)) k (omega (arith, g, f, n.within)) n;
}
  where
    size : length q ≡ suc (suc (length r))
    size = omega (arith, ap length e, length-append r (b ∷ []))

-- if one of three points passes, the contour collapses
pub walk_collapses : {P : Test} (c q r : List Point) (p : Point) (u l : ℕ) → IsRingWalk P c q u l → q ≡ p ∷ r → P (last r) p (first r) → length q ≡ 3 → (d : List Point) × Reach P c d × IsCollapsed d
walk_collapses c q r p u l w e passes three = (
  drop (l - 1) r ++ take (l - 1) r,
  removed_reach c q r p u l w e passes,
  omega (arith, three, ap length e, length-append (drop (l - 1) r) (take (l - 1) r), length-drop (l - 1) r, length-take (l - 1) r),
)

-- if no point is untested, the ring in the order of the contour is an end
pub walk_ends : {P : Test} (c q : List Point) (u l : ℕ) → IsRingWalk P c q u l → u ≡ 0 → End P c (from_contour_first q l) × (3 ≤ length (from_contour_first q l))
walk_ends {P} c q u l w e = (record { reached = w.reached; none_left = none }, omega (arith, w.enough, length-append (drop l q) (take l q), length-drop l q, length-take l q, w.lead_within))
  where
    turn : Rotation (from_contour_first q l) q
    turn = record { front = drop l q; back = take l q; before = refl; after = sym (take-append-drop l q) }

    none : (k : ℕ) → IsRemovable P (from_contour_first q l) k → ⊥
    none k m =
        let t = cycle_step_of_rotated turn (cycle_step_of_step (record { place = k; removable = m; left = refl })) in
        let s = (step_of_cycle_step t).1 in
        w.tested s.place (omega (arith, e)) s.removable
