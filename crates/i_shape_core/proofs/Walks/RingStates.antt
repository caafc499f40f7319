-- The events of a cleaner's loop that walks round a ring of places.
use Rattle.std.proofs.Common.{◌≡◌, ℕ, suc, ◌+◌, ◌-◌, ◌<◌, ◌≤◌, min, max, List, [], ◌∷◌, ◌++◌, map, length, get_or, take, drop, refl, sym, ap, ◌∙◌, subst, subst₂, arith, length-append, take-suc, take_all, get_or-take, get_or-drop, drop-cons, length-drop, length-take, length-take-le}
use Rattle.std.proofs.Math.Seq.{split_at}
use Rattle.std.proofs.lemmas.List.{get_or-map, get_or_push, get_or_append_left, map_push, length-map, map-append, take-map, drop-map}
use Rattle.std.proofs.lemmas.List.Elements.{All-get_or, All-push, All-cons, All-drop, All-take, All-append, All-same}
use Rattle.std.proofs.lemmas.List.FromFn.{length-range_with_len, get_or-range_with_len, fill_by_all}
use Rattle.std.specs.List.{All, range_with_len}
use Rattle.i_shape_core.proofs.Common.{Point, origin, Test, point_at, IsRemovable, Finds, Falls, IsFirst, IsRingWalk, IsRingState, RisingPlaces, PlacedRing, ring_of_all, LeadKept, LeadRemoved, PassesAtPlace, from_contour_first}
use Rattle.i_shape_core.proofs.Removal.Steps.{first, last, passes_from_removable}
use Rattle.i_shape_core.proofs.Walks.Ring.{turned_in_order, kept_in_order, removed_in_order, walk_starts, walk_keeps, walk_removes, walk_collapses, walk_ends}
use Rattle.i_shape_core.proofs.Walks.RisingPlaces.{rising_all, rising_without}

abbrev points_at : List Point → List ℕ → List Point
points_at c places = map (point_at c) places

abbrev IsState : ℕ → Test → List Point → List ℕ → ℕ → ℕ → ℕ → Type 0
IsState room P c places untested lead visits = IsRingState P c (record { places = places; untested = untested; lead = lead; room = room }) visits

abbrev IsBelow : List Point → ℕ → Type 0
IsBelow c k = k < length c

-- a contour is its points at the places below its length
pub points_of_all : (c : List Point) → c ≡ points_at c (range_with_len 0 (length c))
points_of_all c = fill_by_all (point_at c) c (length c) origin refl (λ k h. refl)

all_below : (c : List Point) → All (IsBelow c) (range_with_len 0 (length c))
all_below c = λ k d h. let n = length-range_with_len 0 (length c) in let e = get_or-range_with_len 0 (length c) k d (omega arith) in omega (arith, e)

last_of_places : (c : List Point) (r : List ℕ) → 0 < length r → last (points_at c r) ≡ point_at c (get_or r (length r - 1) 0)
unfolding last
last_of_places c r h =
    let e : length (points_at c r) - 1 ≡ length r - 1 = omega (arith, length-map r (point_at c)) in
    ap (λ (j : ℕ). get_or (points_at c r) j origin) e ∙ get_or-map (point_at c) r (length r - 1) 0 origin (omega arith)

first_of_places : (c : List Point) (r : List ℕ) → 0 < length r → first (points_at c r) ≡ point_at c (get_or r 0 0)
first_of_places c r h = get_or-map (point_at c) r 0 0 origin h

last_place : (p : ℕ) (r : List ℕ) → 0 < length r → get_or (p ∷ r) (length (p ∷ r) - 1) 0 ≡ get_or r (length r - 1) 0
last_place p r h =
    let e : length (p ∷ r) - 1 ≡ suc (length r - 1) = omega arith in
    ap (λ (j : ℕ). get_or (p ∷ r) j 0) e

same_last : (c : List Point) (p : ℕ) (r : List ℕ) → 0 < length r → last (points_at c r) ≡ point_at c (get_or (p ∷ r) (length (p ∷ r) - 1) 0)
same_last c p r h = last_of_places c r h ∙ ap (point_at c) (sym (last_place p r h))

passes_as : (P : Test) (c : List Point) (p : ℕ) (r : List ℕ) → 0 < length r → PassesAtPlace P c (p ∷ r) → P (last (points_at c r)) (point_at c p) (first (points_at c r))
passes_as P c p r h a = subst₂ (λ (y z : Point). P y (point_at c p) z) (sym (same_last c p r h)) (sym (first_of_places c r h)) a

passes_back : (P : Test) (c : List Point) (p : ℕ) (r : List ℕ) → 0 < length r → P (last (points_at c r)) (point_at c p) (first (points_at c r)) → PassesAtPlace P c (p ∷ r)
passes_back P c p r h a = subst₂ (λ (y z : Point). P y (point_at c p) z) (same_last c p r h) (first_of_places c r h) a

-- the ring of all places of c from place k on
abbrev rotated_places : List Point → ℕ → List ℕ
rotated_places c k = drop k (range_with_len 0 (length c)) ++ take k (range_with_len 0 (length c))

rotated_size : (c : List Point) (k : ℕ) → length (rotated_places c k) ≡ length c
rotated_size c k =
    let r : List ℕ = range_with_len 0 (length c) in
    omega (arith, length-append (drop k r) (take k r), length-drop k r, length-take k r, length-range_with_len 0 (length c))

rotated_points : (c : List Point) (j k : ℕ) → drop j c ++ take k c ≡ points_at c (drop j (range_with_len 0 (length c)) ++ take k (range_with_len 0 (length c)))
rotated_points c j k =
    let r : List ℕ = range_with_len 0 (length c) in
    let x = map-append (point_at c) (drop j r) (take k r) in
    let y = drop-map (point_at c) j r in
    let z = take-map (point_at c) k r in
    let a = points_of_all c in
    cc

-- if no place before k passes, the walk may start at k with the places before it tested
state_starts : {P : Test} {room : ℕ} (c : List Point) (k : ℕ) → 3 ≤ length c → k < length c → ((j : ℕ) → j < k → IsRemovable P c j → ⊥) → IsState room P c (rotated_places c k) (length c - k) (length c - k) k
state_starts {P} c k h i earlier = record {
  walk = subst (λ (x : List Point). IsRingWalk P c x (length c - k) (length c - k)) (rotated_points c k k) (walk_starts c k h i earlier);
  below = All-append (IsBelow c) (drop k (range_with_len 0 (length c))) (take k (range_with_len 0 (length c))) (All-drop (IsBelow c) k (range_with_len 0 (length c)) (all_below c)) (All-take (IsBelow c) k (range_with_len 0 (length c)) (all_below c));
  rising = subst (RisingPlaces (length c)) (turned_in_order (range_with_len 0 (length c)) k (length c) (length-range_with_len 0 (length c)) i) (rising_all (length c));
  at_most = omega (arith, i, rotated_size c k);
  tested_each = omega (arith, i);
  left_each = omega (arith, rotated_size c k);
}

-- keeping the walk's place moves it to the end of the ring
pub state_keeps : {P : Test} {room room' : ℕ} (c : List Point) (places kept : List ℕ) (u v l m n : ℕ) → IsState room P c places u l n → 0 < u → (PassesAtPlace P c places → ⊥) →
    kept ≡ drop 1 places ++ get_or places 0 0 ∷ [] → v + 1 ≡ u → LeadKept (length places) l m → IsState room' P c kept v m (n + 1)
state_keeps c [] kept u v l m n s h here e f lead = absurd (omega (arith, s.walk.enough))
state_keeps {P} c (p ∷ r) kept u v l m n s h here e f lead = record {
  walk = subst (λ (x : List Point). IsRingWalk P c x v m) points
      (walk_keeps c (points_at c (p ∷ r)) (points_at c r) (point_at c p) u v l m s.walk refl (omega arith)
      (λ passes. here (passes_back P c p r (omega (arith, s.walk.enough, length-map (p ∷ r) (point_at c))) passes)) lead');
  below = below;
  rising = subst (RisingPlaces (length c)) (kept_in_order (p ∷ r) r p l m refl (omega (arith, s.walk.lead_within, length-map (p ∷ r) (point_at c))) lead ∙ ap (λ x. from_contour_first x m) (sym e)) s.rising;
  at_most = omega (arith, s.at_most, size);
  tested_each = omega (arith, s.tested_each);
  left_each = omega (arith, s.left_each, size);
}
  where
    size : length kept ≡ suc (length r)
    size = omega (arith, ap length e, length-append r (p ∷ []))

    points : points_at c r ++ point_at c p ∷ [] ≡ points_at c kept
    points = sym (ap (points_at c) e ∙ map_push (point_at c) r p)

    lead' : LeadKept (length (points_at c (p ∷ r))) l m
    lead' = subst (λ (x : ℕ). LeadKept x l m) (sym (length-map (p ∷ r) (point_at c))) lead

    below : All (IsBelow c) kept
    below = All-same (IsBelow c) kept (r ++ p ∷ []) e (All-push (IsBelow c) r p (All-drop (IsBelow c) 1 (p ∷ r) s.below) (All-get_or (IsBelow c) (p ∷ r) 0 0 (omega arith) s.below))

-- the places left once the walk's place is removed are places of c
removed_below : (c : List Point) (places kept : List ℕ) → All (IsBelow c) places → 0 < length places → kept ≡ get_or places (length places - 1) 0 ∷ drop 1 (take (length places - 1) places) → All (IsBelow c) kept
removed_below c places kept below some e =
    let before : ℕ = get_or places (length places - 1) 0 in
    let others : List ℕ = drop 1 (take (length places - 1) places) in
    All-same (IsBelow c) kept (before ∷ others) e (All-cons (IsBelow c) before others (All-get_or (IsBelow c) places (length places - 1) 0 (omega (arith, some)) below)
    (All-drop (IsBelow c) 1 (take (length places - 1) places) (All-take (IsBelow c) (length places - 1) places below)))

-- the last of them is a place of c
pub removed_last : (c : List Point) (places kept : List ℕ) → All (IsBelow c) places → 0 < length places → kept ≡ get_or places (length places - 1) 0 ∷ drop 1 (take (length places - 1) places)
    → get_or kept (length kept - 1) 0 < length c
removed_last c places kept below some e = All-get_or (IsBelow c) kept (length kept - 1) 0 (omega (arith, ap length e)) (removed_below c places kept below some e)

-- removing the walk's place moves the walk back by one
pub state_removes : {P : Test} {room room' : ℕ} (c : List Point) (places kept : List ℕ) (u v l m n : ℕ) → IsState room P c places u l n → 0 < u → PassesAtPlace P c places → 3 < length places →
    kept ≡ get_or places (length places - 1) 0 ∷ drop 1 (take (length places - 1) places) → v ≡ min (length places - 1) (max u 2) → LeadRemoved (length places) l m → IsState room' P c kept v m (n + 1)
state_removes c [] kept u v l m n s o a more e f lead = absurd (omega arith)
state_removes {P} c (p ∷ r) kept u v l m n s o a more e f lead = record {
  walk = subst (λ (x : List Point). IsRingWalk P c x v m) (sym (ap (points_at c) e'))
      (walk_removes c (points_at c (p ∷ r)) (points_at c r0) (point_at c p) (point_at c b) u v l m s.walk whole passes
      (omega (arith, more, length-map (p ∷ r) (point_at c))) (f ∙ ap (λ (x : ℕ). min x (max u 2)) left) lead');
  below = removed_below c (p ∷ r) kept s.below (omega arith) e;
  rising = subst (RisingPlaces (length c)) (removed_in_order (p ∷ r) r0 p b l m (ap (λ x. p ∷ x) parts) s.walk.lead_above (omega (arith, s.walk.lead_within, length-map (p ∷ r) (point_at c))) lead ∙ ap (λ x. from_contour_first x m) (sym e')) without;
  at_most = omega (arith, s.at_most, size, f);
  tested_each = omega (arith, s.tested_each, s.walk.untested_within, length-map (p ∷ r) (point_at c), f);
  left_each = omega (arith, s.left_each, size);
}
  where
    r0 : List ℕ
    r0 = take (length r - 1) r

    b : ℕ
    b = get_or r (length r - 1) 0

    parts : r ≡ r0 ++ b ∷ []
    parts =
        let x = take-suc r (length r - 1) 0 (omega arith) in
        let y : suc (length r - 1) ≡ length r = omega arith in
        sym (take_all (length r) r (omega arith)) ∙ (ap (λ (j : ℕ). take j r) (sym y) ∙ x)

    e' : kept ≡ b ∷ r0
    e' =
        let y : length (p ∷ r) - 1 ≡ suc (length r - 1) = omega arith in
        let z : drop 1 (take (length (p ∷ r) - 1) (p ∷ r)) ≡ r0 = ap (λ (j : ℕ). drop 1 (take j (p ∷ r))) y in
        let w = last_place p r (omega arith) in
        cc

    -- the places left rise in the order of the contour
    without : RisingPlaces (length c) (drop (l - 1) (r0 ++ b ∷ []) ++ take (l - 1) (r0 ++ b ∷ []))
    without =
        let n : l ≡ suc (l - 1) = omega (arith, s.walk.lead_above) in
        rw (← parts) (rising_without (length c) (drop (l - 1) r) p (take (l - 1) r) (rw n at s.rising))

    size : length kept ≡ length r
    size = omega (arith, ap length e', ap length parts, length-append r0 (b ∷ []))

    whole : points_at c (p ∷ r) ≡ point_at c p ∷ (points_at c r0 ++ point_at c b ∷ [])
    whole = ap (λ (x : List ℕ). point_at c p ∷ points_at c x) parts ∙ ap (λ (x : List Point). point_at c p ∷ x) (map_push (point_at c) r0 b)

    points_of_rest : points_at c r ≡ points_at c r0 ++ point_at c b ∷ []
    points_of_rest = ap (points_at c) parts ∙ map_push (point_at c) r0 b

    passes : P (point_at c b) (point_at c p) (first (points_at c r0 ++ point_at c b ∷ []))
    passes = subst₂ (λ (y z : Point). P y (point_at c p) z) (last_of_places c r (omega arith)) (ap first points_of_rest) (passes_as P c p r (omega arith) a)

    left : length (p ∷ r) - 1 ≡ length (point_at c b ∷ points_at c r0)
    left = omega (arith, length-map r0 (point_at c), ap length parts, length-append r0 (b ∷ []))

    lead' : LeadRemoved (length (points_at c (p ∷ r))) l m
    lead' = subst (λ (x : ℕ). LeadRemoved x l m) (sym (length-map (p ∷ r) (point_at c))) lead

-- if three places are left and one passes, the contour collapses
pub state_collapses : {P : Test} {room : ℕ} (c : List Point) (places : List ℕ) (u l n : ℕ) → IsState room P c places u l n → PassesAtPlace P c places → length places ≡ 3 → Falls P c (n + 1)
state_collapses c [] u l n s a three = absurd (omega arith)
state_collapses {P} c (p ∷ r) u l n s a three =
    let d = walk_collapses c (points_at c (p ∷ r)) (points_at c r) (point_at c p) u l s.walk refl (passes_as P c p r (omega arith) a) (omega (arith, three, length-map (p ∷ r) (point_at c))) in
    record { rest = d.0; reached = d.1; few = d.2; least = omega (arith, s.left_each, three); most = omega (arith, s.at_most, three) }

-- if no place is untested, the ring in the order of the contour is an end
pub state_ends : {P : Test} {room : ℕ} (c e : List Point) (places : List ℕ) (u l n : ℕ) → IsState room P c places u l n → u ≡ 0 → e ≡ map (point_at c) (from_contour_first places l) → Finds P c e n
state_ends {P} c e places u l n s none shown =
    let w = walk_ends c (points_at c places) u l s.walk none in
    let x = map-append (point_at c) (drop l places) (take l places) in
    let y = drop-map (point_at c) l places in
    let z = take-map (point_at c) l places in
    let same : from_contour_first (points_at c places) l ≡ e = cc in
    subst (λ (k : List Point). Finds P c k n) same (record { ended = w.0; enough = w.1; least = omega (arith, s.tested_each, none); most = omega (arith, s.at_most) })

-- r is the ring of all places of c, with the walk at place k and room for `room` places
abbrev pub StartsAt : List Point → PlacedRing → ℕ → ℕ → Type 0
StartsAt c r k room = r ≡ ring_of_all (length c) k room

-- at place 0 it is the state of a walk without visits
pub first_state : {P : Test} (c : List Point) (r : PlacedRing) (room : ℕ) → 3 ≤ length c → StartsAt c r 0 room → IsRingState P c r 0
first_state c r room h e = rw e (state_starts c 0 h (omega arith) (λ j before _. absurd (omega (arith, before))))

-- it has as many places as c
pub starting_size : (c : List Point) (r : PlacedRing) (k room : ℕ) → StartsAt c r k room → length r.places ≡ length c
starting_size c r k room e = rw e (rotated_size c k)

-- if no place before k passes, it is the state of a walk after k visits
starting_state : {P : Test} (c : List Point) (r : PlacedRing) (k room : ℕ) → IsFirst P c k → StartsAt c r k room → IsRingState P c r k
starting_state c r k room f e = rw e (state_starts c k f.here.enough f.here.within f.earlier)

-- if k is the first place that passes, the walk's place passes
starting_passes : {P : Test} (c : List Point) (r : PlacedRing) (k room : ℕ) → IsFirst P c k → StartsAt c r k room → PassesAtPlace P c r.places
starting_passes {P} c r k room f e = rw e (subst (PassesAtPlace P c) (sym parts) (passes_back P c k rest (omega (arith, f.here.enough, size)) (subst (λ (x : List Point). P (last x) (point_at c k) (first x)) (rotated_points c (suc k) k) passes)))
  where
    all : List ℕ
    all = range_with_len 0 (length c)

    rest : List ℕ
    rest = drop (suc k) all ++ take k all

    parts : rotated_places c k ≡ k ∷ rest
    parts =
        let d : drop k all ≡ get_or all k 0 ∷ drop (suc k) all = drop-cons all k 0 (omega (arith, f.here.within, length-range_with_len 0 (length c))) in
        let g : get_or all k 0 ≡ 0 + k = get_or-range_with_len 0 (length c) k 0 f.here.within in
        let z : 0 + k ≡ k = omega arith in
        cc

    size : length (k ∷ rest) ≡ length c
    size = ap length (sym parts) ∙ rotated_size c k

    passes : P (last (drop (suc k) c ++ take k c)) (point_at c k) (first (drop (suc k) c ++ take k c))
    passes = passes_from_removable {P = P} c (take k c) (point_at c k) (drop (suc k) c) k (split_at c k origin f.here.within) (sym (length-take-le k c (omega (arith, f.here.within)))) f.here

-- removing place k, the first that passes, leaves the state of a walk after k + 1 visits
pub starting_removes : {P : Test} (c : List Point) (r t : PlacedRing) (k room visits : ℕ) → IsFirst P c k → StartsAt c r k room → 3 < length c → visits ≡ k + 1
    → t.places ≡ get_or r.places (length r.places - 1) 0 ∷ drop 1 (take (length r.places - 1) r.places) → t.untested ≡ min (length r.places - 1) (max r.untested 2)
    → LeadRemoved (length r.places) r.lead t.lead → IsRingState P c t visits
starting_removes {P} c r t k room visits f e more v places untested lead =
    rw v (state_removes c r.places t.places r.untested t.untested r.lead t.lead k (starting_state c r k room f e) (rw e (omega (arith, f.here.within))) (starting_passes c r k room f e)
    (omega (arith, more, starting_size c r k room e)) places untested lead)

-- p, q and r are the points before the walk's place, at it and after it
pub record IsHeld (c : List Point) (places : List ℕ) (p q r : Point) : Type 0 where
  pub before : p ≡ point_at c (get_or places (length places - 1) 0)
  pub here : q ≡ point_at c (get_or places 0 0)
  pub after : r ≡ point_at c (get_or places 1 0)

-- keeping the place moves the three points on by one
pub held_kept : (c : List Point) (places kept : List ℕ) (p q r next : Point) → IsHeld c places p q r → 1 < length places → kept ≡ drop 1 places ++ get_or places 0 0 ∷ []
    → next ≡ point_at c (get_or kept 1 0) → IsHeld c kept q r next
held_kept c places kept p q r next held many e read =
    let size = length-drop 1 places in
    let last : length (drop 1 places) ≡ length kept - 1 = omega (arith, size, ap length e, length-append (drop 1 places) (get_or places 0 0 ∷ []), many) in
    let ends : get_or kept (length kept - 1) 0 ≡ get_or places 0 0 = ap (λ l. get_or l (length kept - 1) 0) e ∙ get_or_push (drop 1 places) (get_or places 0 0) 0 (length kept - 1) last in
    let begins : get_or kept 0 0 ≡ get_or places 1 0 = ap (λ l. get_or l 0 0) e ∙ get_or_append_left (drop 1 places) (get_or places 0 0 ∷ []) 0 0 (omega (arith, size, many)) ∙ get_or-drop 1 places 0 0 in
    record {
      before = held.here ∙ ap (point_at c) (sym ends);
      here = held.after ∙ ap (point_at c) (sym begins);
      after = read;
    }

-- removing the place moves the three points back by one
pub held_removed : (c : List Point) (places kept : List ℕ) (p q r next : Point) → IsHeld c places p q r → 3 < length places
    → kept ≡ get_or places (length places - 1) 0 ∷ drop 1 (take (length places - 1) places) → next ≡ point_at c (get_or kept (length kept - 1) 0) → IsHeld c kept next p r
held_removed c places kept p q r next held more e read =
    let begins : get_or kept 0 0 ≡ get_or places (length places - 1) 0 = ap (λ l. get_or l 0 0) e in
    let follows : get_or kept 1 0 ≡ get_or places 1 0 = ap (λ l. get_or l 1 0) e ∙ get_or-drop 1 (take (length places - 1) places) 0 0 ∙ get_or-take (length places - 1) places 1 0 (omega (arith, more)) in
    record {
      before = read;
      here = held.before ∙ ap (point_at c) (sym begins);
      after = held.after ∙ ap (point_at c) (sym follows);
    }
