-- Convexity under rotation, reversal, repeating a point, and removing zero turns.
use Rattle.std.proofs.Common.{◌≡◌, ℕ, ◌<◌, ◌≤◌, List, [], ◌∷◌, ◌++◌, length, reverse, remove, ℤ, pos, ◌<ℤ◌, refl, sym, ap, subst, ◌∙◌, arith, ◌⊎◌, inl, inr, ◌↔◌, cond}
use Rattle.std.proofs.lemmas.Int.{ints}
use Rattle.std.proofs.lemmas.List.{length-reverse, reverse-reverse}
use Rattle.i_shape_core.proofs.Common.{Point, origin, cross, dot, IsZeroTurn, Test, IsRemovable, Step, End, Rotation, SameEnd, collapsed, rotated}
use Rattle.i_shape_core.specs.Convex.{is_same, changes_after, last_of, dedup, cross_at, NoSpikes, Bulges, Convex}
use Rattle.i_shape_core.proofs.Plane.CrossProducts.{cross_reversed, zero_reversed, dot_reversed}
use Rattle.i_shape_core.proofs.Removal.Steps.{cycle_step_of_step, step_of_cycle_step, step_of_rotated}
use Rattle.i_shape_core.proofs.Removal.Reversal.{cycle_step_of_reversed}
use Rattle.i_shape_core.proofs.Removal.Rotations.{rotation_sym}
use Rattle.i_shape_core.proofs.Removal.Ends.{has_end, reach_trans}
use Rattle.i_shape_core.proofs.Removal.Repeats.{SameCycle, few, cycle, dedup_rotated, dedup_reversed, dedup_leads}
use Rattle.i_shape_core.proofs.Convex.Ends.{convex_of_reached}
use Rattle.i_shape_core.specs.Laws.{ConvexKept}
use Rattle.i_shape_core.proofs.Removal.ZeroTurns.{one_end, zero_turn_decided}
use Rattle.i_shape_core.proofs.Removal.Dedup.{same_self}

-- the path turns left
abbrev pub IsLeft : Test
IsLeft a b c = pos 0 <ℤ cross a b c

-- the path turns right
abbrev pub IsRight : Test
IsRight a b c = cross a b c <ℤ pos 0

-- the path reverses
abbrev pub IsReversed : Test
IsReversed a b c = (cross a b c ≡ pos 0) × (dot a b c <ℤ pos 0)

-- the test passes at some place of the contour
unfoldable pub Has : Test → List Point → Type 0
Has P c = (k : ℕ) × IsRemovable P c k

has_rotated : (P : Test) (c d : List Point) → Rotation c d → Has P c → Has P d
unfolding Has
has_rotated P c d r (k, h) =
    let s : Step P c (remove c k) = record { place = k; removable = h; left = refl } in
    let m = step_of_rotated r s in
    (m.1.place, m.1.removable)

has_reversed : {P Q : Test} → ((a b c : Point) → P a b c → Q c b a) → (c : List Point) → Has P c → Has Q (reverse c)
unfolding Has
has_reversed {P} {Q} back c (k, h) =
    let s : Step P c (remove c k) = record { place = k; removable = h; left = refl } in
    let m = step_of_cycle_step (cycle_step_of_reversed back (cycle_step_of_step s)) in
    (m.1.place, m.1.removable)

left_backwards : (a b c : Point) → IsLeft a b c → IsRight c b a
left_backwards a b c h = omega (arith, ints, cross_reversed a b c)

right_backwards : (a b c : Point) → IsRight a b c → IsLeft c b a
right_backwards a b c h = omega (arith, ints, cross_reversed a b c)

reversed_backwards : (a b c : Point) → IsReversed a b c → IsReversed c b a
reversed_backwards a b c h = (zero_reversed a b c h.0, subst (λ (d : ℤ). d <ℤ pos 0) (sym (dot_reversed a b c)) h.1)

-- the contour has no reversal, and not both a left and a right turn
abbrev pub Plain : List Point → Type 0
Plain c = (Has IsReversed c → ⊥) × (Has IsLeft c → Has IsRight c → ⊥)

-- a contour that bulges has no reversal, and not both a left and a right turn
pub plain_from_bulges : (c : List Point) → Bulges c → Plain c
unfolding Has cross_at
plain_from_bulges c b = (
  λ h. b.none h.0 (record { within = h.1.within; straight = h.1.passes.0; back = h.1.passes.1 }),
  λ l r. b.bends.one_way l.0 r.0 l.1.within r.1.within l.1.passes r.1.passes,
)

-- a contour of at least three points bulges if it has no reversal, and not both a left and a right turn
pub bulges_from_plain : (c : List Point) → 3 ≤ length c → Plain c → Bulges c
unfolding Has cross_at
bulges_from_plain c h p = record {
  none = λ k r. p.0 (k, record { enough = h; within = r.within; passes = (r.straight, r.back) });
  bends = record { one_way = λ j k in_j in_k left right. p.1 (j, record { enough = h; within = in_j; passes = left }) (k, record { enough = h; within = in_k; passes = right }) };
}

plain_rotated : (c d : List Point) → Rotation c d → Plain c → Plain d
plain_rotated c d r p = (λ h. p.0 (has_rotated IsReversed d c (rotation_sym r) h), λ x y. p.1 (has_rotated IsLeft d c (rotation_sym r) x) (has_rotated IsRight d c (rotation_sym r) y))

plain_reversed : (c : List Point) → Plain (reverse c) → Plain c
plain_reversed c p = (λ h. p.0 (has_reversed reversed_backwards c h), λ x y. p.1 (has_reversed right_backwards c y) (has_reversed left_backwards c x))

small : (c : List Point) → length c < 3 → length c ≤ 2
small c h = omega arith

convex_of_cycle : (c d : List Point) → SameCycle (dedup c) (dedup d) → Convex c → Convex d
convex_of_cycle c d (few a b) x = inl (small (dedup d) b)
convex_of_cycle c d (cycle a b r) (inl l) = absurd (omega arith)
convex_of_cycle c d (cycle a b r) (inr p) = inr (bulges_from_plain (dedup d) b (plain_rotated (dedup c) (dedup d) r (plain_from_bulges (dedup c) p)))

-- rotation keeps convexity
pub convex_rotated : (c d : List Point) → Rotation c d → Convex c ↔ Convex d
convex_rotated c d r = (convex_of_cycle c d (dedup_rotated c d r), convex_of_cycle d c (dedup_rotated d c (rotation_sym r)))

reverse_back : (c : List Point) → Convex (reverse c) → Convex c
reverse_back c x = go (dedup_reversed c) x
  where
    go : SameCycle (reverse (dedup c)) (dedup (reverse c)) → Convex (reverse c) → Convex c
    go (few a b) x = inl (omega (arith, length-reverse (dedup c), a))
    go (cycle a b r) (inl l) = absurd (omega (arith, l, b))
    go (cycle a b r) (inr p) = inr (bulges_from_plain (dedup c) (omega (arith, length-reverse (dedup c), a))
        (plain_reversed (dedup c) (plain_rotated (dedup (reverse c)) (reverse (dedup c)) (rotation_sym r) (plain_from_bulges (dedup (reverse c)) p))))

-- reading backwards keeps convexity
pub convex_reversed : (c : List Point) → Convex c ↔ Convex (reverse c)
convex_reversed c = (λ x. reverse_back (reverse c) (subst Convex (sym (reverse-reverse c)) x), reverse_back c)

-- repeating a point right after itself adds no change
repeated_after : (q : Point) (u : List Point) (p : Point) (t : List Point) → changes_after q (u ++ p ∷ p ∷ t) ≡ changes_after q (u ++ p ∷ t)
repeated_after q [] p t = rw (same_self p) refl
repeated_after q (x ∷ u) p t = ap (λ (xs : List Point). cond (is_same q x) xs (x ∷ xs)) (repeated_after x u p t)

last_repeated : (q : Point) (u : List Point) (p : Point) (t : List Point) → last_of q (u ++ p ∷ p ∷ t) ≡ last_of q (u ++ p ∷ t)
last_repeated q [] p t = refl
last_repeated q (x ∷ u) p t = last_repeated x u p t

dedup_repeated : (u : List Point) (p : Point) (t : List Point) → dedup (u ++ p ∷ p ∷ t) ≡ dedup (u ++ p ∷ t)
unfolding dedup
dedup_repeated u p t = ap (λ (z : Point). changes_after z (u ++ p ∷ p ∷ t)) (last_repeated origin u p t) ∙ repeated_after (last_of origin (u ++ p ∷ t)) u p t

-- repeating a point right after itself keeps convexity
pub convex_repeated : (u : List Point) (p : Point) (t : List Point) → Convex (u ++ p ∷ t) ↔ Convex (u ++ p ∷ p ∷ t)
convex_repeated u p t = subst (λ (d : List Point). ((length (dedup (u ++ p ∷ t)) ≤ 2) ⊎ Bulges (dedup (u ++ p ∷ t))) ↔ ((length d ≤ 2) ⊎ Bulges d)) (sym (dedup_repeated u p t)) (λ x. x, λ x. x)

-- each end of a contour without spikes has at least three points, and is convex exactly if the contour is
pub convex_kept : (c e : List Point) → NoSpikes c → End IsZeroTurn c e → (3 ≤ length e) × (Convex c ↔ Convex e)
convex_kept c e h r = go (has_end zero_turn_decided (dedup c))
  where
    go : (f : List Point) × End IsZeroTurn (dedup c) f → (3 ≤ length e) × (Convex c ↔ Convex e)
    go (f, s) = same (convex_of_reached c f h s) (one_end c f e (record { reached = reach_trans (dedup_leads c h.enough) s.reached; none_left = s.none_left }) r)
      where
        same : (3 ≤ length f) × (Convex c ↔ Convex f) → SameEnd f e → (3 ≤ length e) × (Convex c ↔ Convex e)
        same x (collapsed a b) = absurd (omega (arith, x.0))
        same x (rotated a b t) =
            let y = convex_rotated f e t in
            (b, (λ z. y.0 (x.1.0 z), λ z. x.1.1 (y.1 z)))

-- rotation, reading backwards, repeating a point and, without spikes, removing zero turns keep convexity
pub convex_laws : (c : List Point) → ConvexKept c
convex_laws c = record {
  ends = λ h e r. convex_kept c e h r;
  rotated = convex_rotated c;
  backwards = convex_reversed c;
  repeated = λ u p t e. subst (λ (x : List Point). Convex x ↔ Convex (u ++ p ∷ p ∷ t)) (sym e) (convex_repeated u p t);
}
