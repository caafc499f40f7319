-- Two steps from one cycle meet again.
use Rattle.std.proofs.Common.{◌≡◌, ◌<◌, ◌≤◌, ◌⊎◌, List, [], ◌∷◌, ◌++◌, length, inl, inr, refl, sym, ap, subst, arith, append-nil, length-append}
use Rattle.i_shape_core.proofs.Common.{Point, Test, Rotation, IsCollapsed}
use Rattle.i_shape_core.proofs.Removal.Tests.{Slides}
use Rattle.i_shape_core.proofs.Removal.Rotations.{rotation_refl, rotation_sym, rotation_trans, rotation_length}
use Rattle.i_shape_core.proofs.Removal.Steps.{first, last, last-append, last-push, last_over, CycleStep, cycle_step_of_rotated}

-- d and e are one cycle, or both have collapsed, or one step from each leads to one cycle
pub data Meets (P : Test) (d e : List Point) : Type 0 where
  same : Rotation d e → Meets P d e
  small : IsCollapsed d → IsCollapsed e → Meets P d e
  common : (f : List Point) → CycleStep P d f → CycleStep P e f → Meets P d e

meets_sym : {P : Test} {d e : List Point} → Meets P d e → Meets P e d
meets_sym (same r) = same (rotation_sym r)
meets_sym (small a b) = small b a
meets_sym (common f a b) = common f b a

meets_rotated : {P : Test} {d e x y : List Point} → Rotation d x → Rotation e y → Meets P x y → Meets P d e
meets_rotated r s (same t) = same (rotation_trans r (rotation_trans t (rotation_sym s)))
meets_rotated r s (small a b) = small (omega (arith, rotation_length r)) (omega (arith, rotation_length s))
meets_rotated r s (common f a b) = common f (cycle_step_of_rotated (rotation_sym r) a) (cycle_step_of_rotated (rotation_sym s) b)

-- removing p and removing q meet if p and q aren't neighbours: x ∷ u lies between p and q, y ∷ v between q and p
apart : {P : Test} (p q x y : Point) (u v : List Point) →
    P (last ((x ∷ u) ++ q ∷ y ∷ v)) p x → P (last ((y ∷ v) ++ p ∷ x ∷ u)) q y → Meets P ((x ∷ u) ++ q ∷ y ∷ v) ((y ∷ v) ++ p ∷ x ∷ u)
apart {P} p q x y u v a b = common ((y ∷ v) ++ (x ∷ u)) (record {
  point = q;
  rest = (y ∷ v) ++ (x ∷ u);
  start = record { front = x ∷ u; back = q ∷ y ∷ v; before = refl; after = refl };
  two = omega (arith, length-append v (x ∷ u));
  passes = subst (λ (z : Point). P z q y) (last_over (y ∷ v) p x u) b;
  finish = rotation_refl _;
}) (record {
  point = p;
  rest = (x ∷ u) ++ (y ∷ v);
  start = record { front = y ∷ v; back = p ∷ x ∷ u; before = refl; after = refl };
  two = omega (arith, length-append u (y ∷ v));
  passes = subst (λ (z : Point). P z p x) (last_over (x ∷ u) q y v) a;
  finish = record { front = y ∷ v; back = x ∷ u; before = refl; after = refl };
})

-- removing p and removing q meet if p and q are neighbours: v leads from q round to p
beside : {P : Test} → Slides P → (p q : Point) (v : List Point) → 0 < length v →
    P (last (q ∷ v)) p q → P (last (v ++ p ∷ [])) q (first (v ++ p ∷ [])) → Meets P (q ∷ v) (v ++ p ∷ [])
beside sl p q [] h a b = absurd (omega arith)
beside sl p q (y ∷ []) h a b = small (omega arith) (omega arith)
beside {P} sl p q (y ∷ z ∷ v) h a b = go (sl (last (y ∷ z ∷ v)) p q y
    (subst (λ (w : Point). P w p q) (last-append (q ∷ []) (y ∷ z ∷ v) (omega arith)) a)
    (subst (λ (w : Point). P w q y) (last-push (y ∷ z ∷ v) p) b))
  where
    go : (p ≡ q) ⊎ (P (last (y ∷ z ∷ v)) q y × P (last (y ∷ z ∷ v)) p y) → Meets P (q ∷ y ∷ z ∷ v) ((y ∷ z ∷ v) ++ p ∷ [])
    go (inl e) = same (record { front = q ∷ []; back = y ∷ z ∷ v; before = refl; after = ap (λ (w : Point). (y ∷ z ∷ v) ++ w ∷ []) e })
    go (inr t) = common (y ∷ z ∷ v)
        (record { point = q; rest = y ∷ z ∷ v; start = rotation_refl _; two = omega arith; passes = t.0; finish = rotation_refl _ })
        (record { point = p; rest = y ∷ z ∷ v; start = record { front = y ∷ z ∷ v; back = p ∷ []; before = refl; after = refl }; two = omega arith; passes = t.1; finish = rotation_refl _ })

seated : {P : Test} → Slides P → (p q : Point) (u v : List Point) → 2 ≤ length (u ++ q ∷ v) →
    P (last (u ++ q ∷ v)) p (first (u ++ q ∷ v)) → P (last (v ++ p ∷ u)) q (first (v ++ p ∷ u)) → Meets P (u ++ q ∷ v) (v ++ p ∷ u)
seated sl p q [] [] h a b = absurd (omega arith)
seated sl p q [] (y ∷ v) h a b = beside sl p q (y ∷ v) (omega arith) a b
seated sl p q (x ∷ u) [] h a b = meets_sym (beside sl q p (x ∷ u) (omega arith) b a)
seated sl p q (x ∷ u) (y ∷ v) h a b = apart p q x y u v a b

-- two steps from one cycle meet again
pub steps_meet : {P : Test} → Slides P → {c d e : List Point} → CycleStep P c d → CycleStep P c e → Meets P d e
steps_meet {P} sl {c} {d} {e} s t = go r.front r.back r.before r.after
  where
    r : Rotation (s.point ∷ s.rest) (t.point ∷ t.rest)
    r = rotation_trans (rotation_sym s.start) t.start

    alike : s.rest ≡ t.rest → Meets P d e
    alike h = same (rotation_trans s.finish (subst (λ (x : List Point). Rotation x e) (sym h) (rotation_sym t.finish)))

    go : (u v : List Point) → s.point ∷ s.rest ≡ u ++ v → t.point ∷ t.rest ≡ v ++ u → Meets P d e
    go [] v b a = alike (cc (append-nil v))
    go (x ∷ u) [] b a = alike (cc (append-nil u))
    go (x ∷ u) (y ∷ v) b a =
        let f : s.rest ≡ u ++ t.point ∷ v = cc in
        let g : t.rest ≡ v ++ s.point ∷ u = cc in
        meets_rotated (subst (λ (z : List Point). Rotation d z) f s.finish) (subst (λ (z : List Point). Rotation e z) g t.finish)
        (seated sl s.point t.point u v (omega (arith, s.two, ap length f))
        (subst (λ (z : List Point). P (last z) s.point (first z)) f s.passes)
        (subst (λ (z : List Point). P (last z) t.point (first z)) g t.passes))
