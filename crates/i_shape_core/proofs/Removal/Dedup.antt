-- Removing repeated points leaves none.
use Rattle.std.proofs.Common.{◌≡◌, ◌≢◌, ℕ, zero, suc, ◌-◌, ◌<◌, ◌≤◌, List, [], ◌∷◌, ◌++◌, length, get_or, refl, sym, ap, subst, ◌∙◌, arith, Bool, true, false, cond, ◌&&◌, length-append, int_eq}
use Rattle.std.specs.Cmp.{signed_Decides}
use Rattle.i_shape_core.proofs.Common.{Point, origin, point_at, place_before, place_after}
use Rattle.i_shape_core.specs.Convex.{is_same, changes_after, last_of, dedup}
use Rattle.i_shape_core.proofs.Plane.CrossProducts.{same_point}
use Rattle.i_shape_core.proofs.Removal.Places.{before_first, before_later, before_from, after_is, after_within}

-- ---- the test of two points
both_true : (a b : Bool) → a && b ≡ true → (a ≡ true) × (b ≡ true)
both_true true b e = (refl, e)
both_true false b e = absurd (cc)

-- points that test the same are equal
pub same_yes : (a b : Point) → is_same a b ≡ true → a ≡ b
unfolding is_same
same_yes a b e = let t = both_true (int_eq a.x b.x) (int_eq a.y b.y) e in
    same_point a b ((signed_Decides a.x b.x).0 t.0) ((signed_Decides a.y b.y).0 t.1)

-- each point tests the same as itself
pub same_self : (a : Point) → is_same a a ≡ true
unfolding is_same
same_self a = rw ((signed_Decides a.x a.x).1 refl, (signed_Decides a.y a.y).1 refl) refl

-- points that test different differ
pub same_no : (a b : Point) → is_same a b ≡ false → a ≢ b
same_no a b e h = let t : is_same a b ≡ true = subst (λ (q : Point). is_same a q ≡ true) h (same_self a) in cc

-- different points test different
pub apart_no : (a b : Point) → a ≢ b → is_same a b ≡ false
apart_no a b h = go (is_same a b) refl
  where
    go : (t : Bool) → is_same a b ≡ t → is_same a b ≡ false
    go true e = absurd (h (same_yes a b e))
    go false e = e

-- ---- each point left differs from the one before it
abbrev pub AllApart : Point → List Point → Type 0
AllApart q [] = Unit {0}
AllApart q (p ∷ ps) = (q ≢ p) × AllApart p ps

-- no point left equals the one before it
pub changes_apart : (q : Point) (ps : List Point) → AllApart q (changes_after q ps)
changes_apart q [] = tt
changes_apart q (p ∷ ps) = go (changes_apart p ps) (is_same q p) refl
  where
    go : AllApart p (changes_after p ps) → (t : Bool) → is_same q p ≡ t → AllApart q (cond t (changes_after p ps) (p ∷ changes_after p ps))
    go a true e = subst (λ (x : Point). AllApart x (changes_after p ps)) (sym (same_yes q p e)) a
    go a false e = (same_no q p e, a)

-- removing repeats keeps the last point
pub changes_last : (q : Point) (ps : List Point) → last_of q (changes_after q ps) ≡ last_of q ps
changes_last q [] = refl
changes_last q (p ∷ ps) = go (changes_last p ps) (is_same q p) refl
  where
    go : last_of p (changes_after p ps) ≡ last_of p ps → (t : Bool) → is_same q p ≡ t → last_of q (cond t (changes_after p ps) (p ∷ changes_after p ps)) ≡ last_of p ps
    go a true e = subst (λ (x : Point). last_of x (changes_after p ps) ≡ last_of p ps) (sym (same_yes q p e)) a
    go a false e = a

changes-same : (q : Point) (ps : List Point) → AllApart q ps → changes_after q ps ≡ ps
changes-same q [] a = refl
changes-same q (p ∷ ps) a = rw (apart_no q p a.0) (ap (λ (xs : List Point). p ∷ xs) (changes-same p ps a.1))

-- removing repeats adds no points
pub dedup_fewer : (q : Point) (ps : List Point) → length (changes_after q ps) ≤ length ps
dedup_fewer q [] = omega arith
dedup_fewer q (p ∷ ps) = go (dedup_fewer p ps) (is_same q p)
  where
    go : length (changes_after p ps) ≤ length ps → (t : Bool) → length (cond t (changes_after p ps) (p ∷ changes_after p ps)) ≤ suc (length ps)
    go h true = omega arith
    go h false = omega arith

-- no point of the cycle equals the one before it
abbrev pub IsApart : List Point → Type 0
IsApart c = AllApart (last_of origin c) c

-- with the last point as the default, the last point is the same
pub last_again : (q : Point) (c : List Point) → last_of (last_of q c) c ≡ last_of q c
last_again q [] = refl
last_again q (p ∷ c) = refl

-- removing repeated points leaves none
pub dedup_apart : (c : List Point) → IsApart (dedup c)
unfolding dedup
dedup_apart c = go (changes_after (last_of origin c) c) (changes_apart (last_of origin c) c) (changes_last (last_of origin c) c)
  where
    go : (d : List Point) → AllApart (last_of origin c) d → last_of (last_of origin c) d ≡ last_of (last_of origin c) c → AllApart (last_of origin d) d
    go [] a e = tt
    go (p ∷ d) a e = subst (λ (x : Point). AllApart x (p ∷ d)) (sym (e ∙ last_again origin c)) a

-- removing repeated points from a contour without them changes nothing
pub dedup-same : (c : List Point) → IsApart c → dedup c ≡ c
unfolding dedup
dedup-same c a = changes-same (last_of origin c) c a

-- ---- by index
pub last_at : (p : Point) (ps : List Point) → get_or (p ∷ ps) (suc (length ps) - 1) origin ≡ last_of p ps
last_at p ps = ap (λ (i : ℕ). get_or (p ∷ ps) i origin) (let less : suc (length ps) - 1 ≡ length ps = omega arith in less) ∙ from_end p ps
  where
    from_end : (p : Point) (ps : List Point) → get_or (p ∷ ps) (length ps) origin ≡ last_of p ps
    from_end p [] = refl
    from_end p (q ∷ ps) = from_end q ps

apart_at : (q : Point) (ps : List Point) (k : ℕ) → k < length ps → AllApart q ps → get_or (q ∷ ps) k origin ≢ get_or ps k origin
apart_at q [] k h a = absurd (omega arith)
apart_at q (p ∷ ps) zero h a = a.0
apart_at q (p ∷ ps) (suc k) h a = apart_at p ps k (omega arith) a.1

apart_from : (q : Point) (ps : List Point) → ((k : ℕ) → k < length ps → get_or (q ∷ ps) k origin ≢ get_or ps k origin) → AllApart q ps
apart_from q [] h = tt
apart_from q (p ∷ ps) h = (h 0 (omega arith), apart_from p ps (λ k l. h (suc k) (omega arith)))

-- in a contour without repeats, each point differs from the one before it on the cycle
pub apart_places : (c : List Point) (k : ℕ) → IsApart c → k < length c → point_at c (place_before (length c) k) ≢ point_at c k
apart_places [] k a h = absurd (omega arith)
apart_places (p ∷ ps) zero a h = rw (before_first (suc (length ps)) (omega arith), last_at p ps) a.0
apart_places (p ∷ ps) (suc k) a h = rw (before_later (suc (length ps)) k h) (apart_at p ps k (omega arith) a.1)

-- each point differs from the one after it
pub next_differs : (c : List Point) (k : ℕ) → IsApart c → k < length c → point_at c k ≢ point_at c (place_after (length c) k)
next_differs c k a h = subst (λ (i : ℕ). point_at c i ≢ point_at c (place_after (length c) k))
    (before_from (length c) k (place_after (length c) k) h (after_within (length c) k h) (after_is (length c) k h))
    (apart_places c (place_after (length c) k) a (after_within (length c) k h))

-- a contour in which each point differs from the one before it has no repeats
pub apart_from_places : (c : List Point) → ((k : ℕ) → k < length c → point_at c (place_before (length c) k) ≢ point_at c k) → IsApart c
apart_from_places [] h = tt
apart_from_places (p ∷ ps) h = (first, apart_from p ps (λ k l. subst (λ (i : ℕ). get_or (p ∷ ps) i origin ≢ get_or ps k origin) (before_later (suc (length ps)) k (omega arith)) (h (suc k) (omega arith))))
  where
    first : last_of p ps ≢ p
    first = subst (λ (q : Point). q ≢ p) (ap (λ (i : ℕ). get_or (p ∷ ps) i origin) (before_first (suc (length ps)) (omega arith)) ∙ last_at p ps) (h 0 (omega arith))

-- the last point of a concatenation
pub last_of_append : (q : Point) (u ps : List Point) → last_of q (u ++ ps) ≡ last_of (last_of q u) ps
last_of_append q [] ps = refl
last_of_append q (p ∷ u) ps = last_of_append p u ps

before_seam : (q : Point) (u : List Point) (p : Point) (ps : List Point) → get_or (q ∷ (u ++ p ∷ ps)) (length u) origin ≡ last_of q u
before_seam q [] p ps = refl
before_seam q (r ∷ u) p ps = before_seam r u p ps

-- on the cycle u ++ p ∷ ps, the point before p is the last of u, or of the whole if u is empty
pub before_part : (u : List Point) (p : Point) (ps : List Point)
    → point_at (u ++ p ∷ ps) (place_before (length (u ++ p ∷ ps)) (length u)) ≡ last_of (last_of p ps) u
before_part [] p ps = rw (before_first (suc (length ps)) (omega arith), last_at p ps) refl
before_part (q ∷ u) p ps = rw (before_later (suc (length (u ++ p ∷ ps))) (length u) (omega (arith, length-append u (p ∷ ps)))) (before_seam q u p ps)
