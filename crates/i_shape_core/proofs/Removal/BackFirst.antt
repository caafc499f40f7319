-- Removing back vertices first keeps the ends, and what is left never collapses.
use Rattle.std.proofs.Common.{◌≡◌, ℕ, ◌≤◌, List, [], ◌∷◌, ◌++◌, length, refl, sym, ap, subst, arith, append-nil, length-append, remove}
use Rattle.i_shape_core.proofs.Common.{Point, Test, IsRemovable, Reach, stay, step, End, Rotation}
use Rattle.i_shape_core.proofs.Removal.Tests.{Straightens}
use Rattle.i_shape_core.proofs.Removal.Rotations.{rotation_refl, rotation_sym, rotation_trans, rotation_length, cut_from_rotation}
use Rattle.i_shape_core.proofs.Removal.Steps.{first, last, last-append, last-push, last_over, CycleStep, cycle_step_of_step, cycle_step_of_rotated, step_of_cycle_step}
use Rattle.i_shape_core.proofs.Removal.Ends.{no_step, reach_trans, reach_by_weaker}

-- no place of the cycle passes the test
abbrev pub IsDone : Test → List Point → Type 0
IsDone P c = (d : List Point) → CycleStep P c d → ⊥

done_from_none_left : {P : Test} (c : List Point) → ((k : ℕ) → IsRemovable P c k → ⊥) → IsDone P c
done_from_none_left c n d t = no_step n (step_of_cycle_step t).1

-- if no place of a cycle passes, none of its rotations has a first point that passes
none_at : {P : Test} (c : List Point) → IsDone P c → (p : Point) (r : List Point) → Rotation c (p ∷ r) → 2 ≤ length r → P (last r) p (first r) → ⊥
none_at c n p r t two h = n r (record { point = p; rest = r; start = t; two = two; passes = h; finish = rotation_refl r })

-- removing a zero turn p makes no other point q of the cycle pass
still_none : {B Z : Test} → Straightens B Z → (p : Point) (u : List Point) (q : Point) (t : List Point) → IsDone B (p ∷ (u ++ q ∷ t)) →
    2 ≤ length (t ++ u) → Z (last (u ++ q ∷ t)) p (first (u ++ q ∷ t)) → B (last (t ++ u)) q (first (t ++ u)) → ⊥
still_none st p [] q [] n two z b = absurd (omega arith)
still_none {B} {Z} st p [] q (y ∷ t) n two z b =
    let e : last (q ∷ y ∷ t) ≡ last (y ∷ t) = last-append (q ∷ []) (y ∷ t) (omega arith) in
    let f : last ((y ∷ t) ++ []) ≡ last (y ∷ t) = ap last (append-nil (y ∷ t)) in
    let g : last ((y ∷ t) ++ p ∷ []) ≡ p = last-push (y ∷ t) p in
    st.keeps_behind (last (y ∷ t)) p q y (subst (λ (x : Point). Z x p q) e z)
    (λ h. none_at _ n p (q ∷ y ∷ t) (rotation_refl _) (omega arith) (subst (λ (x : Point). B x p q) (sym e) h))
    (λ h. none_at _ n q ((y ∷ t) ++ p ∷ []) (record { front = p ∷ []; back = q ∷ y ∷ t; before = refl; after = refl }) (omega (arith, length-append t (p ∷ []))) (subst (λ (x : Point). B x q y) (sym g) h))
    (subst (λ (x : Point). B x q y) f b)
still_none {B} {Z} st p (x ∷ u) q [] n two z b =
    let e : last ((x ∷ u) ++ q ∷ []) ≡ q = last-push (x ∷ u) q in
    let f : last (p ∷ x ∷ u) ≡ last (x ∷ u) = last-append (p ∷ []) (x ∷ u) (omega arith) in
    st.keeps_ahead (last (x ∷ u)) q p x (subst (λ (w : Point). Z w p x) e z)
    (λ h. none_at _ n p ((x ∷ u) ++ q ∷ []) (rotation_refl _) (omega (arith, length-append u (q ∷ []))) (subst (λ (w : Point). B w p x) (sym e) h))
    (λ h. none_at _ n q (p ∷ x ∷ u) (record { front = p ∷ x ∷ u; back = q ∷ []; before = refl; after = refl }) (omega arith) (subst (λ (w : Point). B w q p) (sym f) h))
    b
still_none {B} {Z} st p (x ∷ u) q (y ∷ t) n two z b =
    none_at _ n q ((y ∷ t) ++ p ∷ x ∷ u) (record { front = p ∷ x ∷ u; back = q ∷ y ∷ t; before = refl; after = refl }) (omega (arith, length-append t (p ∷ x ∷ u)))
    (subst (λ (w : Point). B w q y) (sym (last_over (y ∷ t) p x u)) b)

-- a cycle of three points in which none passes has no zero turn
no_flat_triangle : {B Z : Test} → Straightens B Z → (p : Point) (r : List Point) → IsDone B (p ∷ r) → 2 ≤ length r → Z (last r) p (first r) → 3 ≤ length r
unfolding last
no_flat_triangle st p [] n two z = absurd (omega arith)
no_flat_triangle st p (q ∷ []) n two z = absurd (omega arith)
no_flat_triangle st p (q ∷ a ∷ []) n two z =
    absurd (st.flat_triangle a p q z
    (λ h. none_at _ n p (q ∷ a ∷ []) (rotation_refl _) (omega arith) h)
    (λ h. none_at _ n q (a ∷ p ∷ []) (record { front = p ∷ []; back = q ∷ a ∷ []; before = refl; after = refl }) (omega arith) h)
    (λ h. none_at _ n a (p ∷ q ∷ []) (record { front = p ∷ q ∷ []; back = a ∷ []; before = refl; after = refl }) (omega arith) h))
no_flat_triangle st p (q ∷ a ∷ b ∷ r) n two z = omega arith

done_of_rotated : {P : Test} {c d : List Point} → Rotation c d → IsDone P c → IsDone P d
done_of_rotated r n e t = n e (cycle_step_of_rotated (rotation_sym r) t)

-- removing a zero turn from a cycle without back vertices leaves at least three points and no back vertex
pub straight_step : {B Z : Test} → Straightens B Z → {c d : List Point} → IsDone B c → CycleStep Z c d → (3 ≤ length d) × IsDone B d
straight_step {B} {Z} st {c} {d} n t = (omega (arith, long, rotation_length t.finish), done)
  where
    m : IsDone B (t.point ∷ t.rest)
    m = done_of_rotated t.start n

    long : 3 ≤ length t.rest
    long = no_flat_triangle st t.point t.rest m t.two t.passes

    done : IsDone B d
    done e s =
        let k = cut_from_rotation (rotation_trans (rotation_sym t.finish) s.start) in
        still_none st t.point k.ahead s.point k.behind
        (subst (λ (x : List Point). IsDone B (t.point ∷ x)) k.whole m)
        (omega (arith, s.two, ap length k.others))
        (subst (λ (x : List Point). Z (last x) t.point (first x)) k.whole t.passes)
        (subst (λ (x : List Point). B (last x) s.point (first x)) k.others s.passes)

-- removing zero turns from a cycle without back vertices leaves at least three points and no back vertex
stays_done : {B Z : Test} → Straightens B Z → {c e : List Point} → 3 ≤ length c → IsDone B c → Reach Z c e → (3 ≤ length e) × IsDone B e
stays_done st h n stay = (h, n)
stays_done st h n (step s r) =
    let m = straight_step st n (cycle_step_of_step s) in
    stays_done st m.0 m.1 r

-- removing zero turns from a contour without back vertices leaves at least three points and no back vertex
pub keeps_none : {B Z : Test} → Straightens B Z → {c e : List Point} → 3 ≤ length c → ((k : ℕ) → IsRemovable B c k → ⊥) → Reach Z c e → (3 ≤ length e) × ((k : ℕ) → IsRemovable B e k → ⊥)
keeps_none st {c} {e} h n r =
    let m = stays_done st h (done_from_none_left c n) r in
    (m.0, λ k b. m.1 (remove e k) (cycle_step_of_step (record { place = k; removable = b; left = refl })))

-- an end after back vertices are removed is an end of the contour
pub end_by_weaker : {B Z : Test} → Straightens B Z → {c d f : List Point} → Reach B c d → End Z d f → End Z c f
end_by_weaker st r w = record { reached = reach_trans (reach_by_weaker st.weaker r) w.reached; none_left = w.none_left }

-- such an end has at least three points if at least three points were left
pub keeps_three : {B Z : Test} → Straightens B Z → {c d f : List Point} → End B c d → 3 ≤ length d → End Z d f → 3 ≤ length f
keeps_three st w h a = (keeps_none st h w.none_left a.reached).0
