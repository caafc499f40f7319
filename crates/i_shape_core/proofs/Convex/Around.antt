-- The turns of a contour in the order of a walk that starts with its last two points.
use Rattle.std.proofs.Common.{◌≡◌, ◌≢◌, ℕ, zero, suc, ◌+◌, ◌-◌, ◌<◌, ◌≤◌, List, [], ◌∷◌, length, get_or, refl, sym, ap, subst, subst₂, ◌∙◌, arith, ◌⊎◌, inl, inr, ◌↔◌, Bool, true, false, cond, ◌++◌, append_assoc, length-append, add-one}
use Rattle.i_shape_core.proofs.Common.{Point, origin, Test, point_at, place_before, place_after, IsRemovable}
use Rattle.i_shape_core.specs.Convex.{is_same, changes_after, last_of, dedup, Bulges}
use Rattle.i_shape_core.proofs.Removal.Places.{Follows, after_is, before_is, after_from, before_within, after_within}
use Rattle.i_shape_core.proofs.Convex.Laws.{Has, IsLeft, IsRight, IsReversed, plain_from_bulges, bulges_from_plain}
use Rattle.i_shape_core.proofs.Removal.Dedup.{same_yes, same_self, apart_no, last_again, last_at, changes_last, last_of_append}

-- some turn of the path over o, p and the rest passes the test
abbrev pub Passed : Test → Point → Point → List Point → Type 0
Passed P o p [] = ⊥
Passed P o p (q ∷ qs) = P o p q ⊎ Passed P p q qs

abbrev PassedAt : Test → Point → Point → List Point → Type 0
PassedAt P o p qs = (j : ℕ) × (j < length qs) × P (get_or (o ∷ p ∷ qs) j origin) (get_or (p ∷ qs) j origin) (get_or qs j origin)

passed_at : (P : Test) (o p : Point) (qs : List Point) → Passed P o p qs → PassedAt P o p qs
passed_at P o p [] h = absurd h
passed_at P o p (q ∷ qs) (inl h) = (0, omega arith, h)
passed_at P o p (q ∷ qs) (inr h) = let later = passed_at P p q qs h in (suc later.0, omega (arith, later.1), later.2)

passed_from : (P : Test) (o p : Point) (qs : List Point) (j : ℕ) → j < length qs → P (get_or (o ∷ p ∷ qs) j origin) (get_or (p ∷ qs) j origin) (get_or qs j origin) → Passed P o p qs
passed_from P o p [] j h x = absurd (omega arith)
passed_from P o p (q ∷ qs) zero h x = inl x
passed_from P o p (q ∷ qs) (suc j) h x = inr (passed_from P p q qs j (omega arith) x)

-- in p ∷ d, where p is the last point of d, index j holds the point before index j of d
one_behind : (d : List Point) (p : Point) (k j : ℕ) → k < length d → p ≡ point_at d (length d - 1) → Follows (length d) k j → get_or (p ∷ d) j origin ≡ point_at d k
one_behind d p k j h e (inl f) = ap (λ (i : ℕ). get_or (p ∷ d) i origin) (f.1 ∙ add-one k)
one_behind d p k j h e (inr f) = ap (λ (i : ℕ). get_or (p ∷ d) i origin) f.1 ∙ e ∙ ap (point_at d) (let last : length d - 1 ≡ k = omega (arith, f.0) in last)

-- in o ∷ p ∷ d, where o and p are the last two points of d, index j holds the point two before index j of d
two_behind : (d : List Point) (o p : Point) (b k j : ℕ) → b < length d → k < length d → 2 ≤ length d → o ≡ point_at d (length d - 2) → p ≡ point_at d (length d - 1)
    → Follows (length d) b k → Follows (length d) k j → get_or (o ∷ p ∷ d) j origin ≡ point_at d b
two_behind d o p b k j h i two e f B (inl K) = ap (λ (m : ℕ). get_or (o ∷ p ∷ d) m origin) (K.1 ∙ add-one k) ∙ one_behind d p b k h f B
two_behind d o p b k j h i two e f B (inr K) = ap (λ (m : ℕ). get_or (o ∷ p ∷ d) m origin) K.1 ∙ e ∙ ap (point_at d) (place b k (length d) two K.0 B)
  where
    place : (b k n : ℕ) → 2 ≤ n → k + 1 ≡ n → Follows n b k → n - 2 ≡ b
    place b k n two e B = grind arith

-- a turn of the contour that passes is met by a walk that starts with its last two points
pub has_passed : (P : Test) (d : List Point) → 3 ≤ length d → Has P d → Passed P (point_at d (length d - 2)) (point_at d (length d - 1)) d
unfolding Has
has_passed P d h (k, r) =
    let A : Follows (length d) k (place_after (length d) k) = after_is (length d) k r.within in
    let B : Follows (length d) (place_before (length d) k) k = before_is (length d) k r.within in
    passed_from P (point_at d (length d - 2)) (point_at d (length d - 1)) d (place_after (length d) k) (after_within (length d) k r.within)
    (rw (
      two_behind d (point_at d (length d - 2)) (point_at d (length d - 1)) (place_before (length d) k) k (place_after (length d) k) (before_within (length d) k r.within) r.within (omega arith) refl refl B A,
      one_behind d (point_at d (length d - 1)) k (place_after (length d) k) r.within refl A,
    ) r.passes)

-- a turn that passes on a walk that starts with the last two points is a turn of the contour
pub passed_has : (P : Test) (d : List Point) → 3 ≤ length d → Passed P (point_at d (length d - 2)) (point_at d (length d - 1)) d → Has P d
unfolding Has
passed_has P d h x = go (passed_at P (point_at d (length d - 2)) (point_at d (length d - 1)) d x)
  where
    go : PassedAt P (point_at d (length d - 2)) (point_at d (length d - 1)) d → (k : ℕ) × IsRemovable P d k
    go (j, l, y) = (k, record { enough = h; within = before_within (length d) j l; passes = moved })
      where
        k : ℕ
        k = place_before (length d) j

        in_k : k < length d
        in_k = before_within (length d) j l

        K : Follows (length d) k j
        K = before_is (length d) j l

        B : Follows (length d) (place_before (length d) k) k
        B = before_is (length d) k in_k

        after : place_after (length d) k ≡ j
        after = after_from (length d) k j in_k K

        moved : P (point_at d (place_before (length d) k)) (point_at d k) (point_at d (place_after (length d) k))
        moved = subst (λ (i : ℕ). P (point_at d (place_before (length d) k)) (point_at d k) (point_at d i)) (sym after)
            (subst₂ (λ (u v : Point). P u v (point_at d j))
            (two_behind d (point_at d (length d - 2)) (point_at d (length d - 1)) (place_before (length d) k) k j (before_within (length d) k in_k) in_k (omega arith) refl refl B K)
            (one_behind d (point_at d (length d - 1)) k j in_k refl K) y)

-- some turn passes on a walk that skips points equal to the one before
abbrev pub Met : Test → Point → Point → List Point → Type 0
Met P o p [] = ⊥
Met P o p (q ∷ qs) = cond (is_same p q) (Met P o p qs) (P o p q ⊎ Met P p q qs)

-- a walk that skips repeats meets what a walk over the list without repeats passes
pub met_is : (P : Test) (o p : Point) (qs : List Point) → Met P o p qs ≡ Passed P o p (changes_after p qs)
met_is P o p [] = refl
met_is P o p (q ∷ qs) = go (met_is P o q qs) (met_is P p q qs) (is_same p q) refl
  where
    go : Met P o q qs ≡ Passed P o q (changes_after q qs) → Met P p q qs ≡ Passed P p q (changes_after q qs) → (t : Bool) → is_same p q ≡ t
        → cond t (Met P o p qs) (P o p q ⊎ Met P p q qs) ≡ Passed P o p (cond t (changes_after q qs) (q ∷ changes_after q qs))
    go skip keep true e = subst (λ (x : Point). Met P o x qs ≡ Passed P o x (changes_after q qs)) (sym (same_yes p q e)) skip
    go skip keep false e = ap (λ (X : Type 0). P o p q ⊎ X) keep

-- removing repeats keeps a contour's last point
pub last_of_dedup : (c : List Point) → 1 ≤ length (dedup c) → point_at (dedup c) (length (dedup c) - 1) ≡ last_of origin c
unfolding dedup
last_of_dedup c h = last_place (changes_after (last_of origin c) c) h ∙ changes_last (last_of origin c) c ∙ last_again origin c
  where
    last_place : (d : List Point) → 1 ≤ length d → point_at d (length d - 1) ≡ last_of (last_of origin c) d
    last_place [] h = absurd (omega arith)
    last_place (p ∷ ps) h = last_at p ps

-- a walk that starts with the last two different points and skips repeats meets exactly the turns of the contour
-- without repeats
pub has_met : (P : Test) (c : List Point) (o : Point) → 3 ≤ length (dedup c) → o ≡ point_at (dedup c) (length (dedup c) - 2) → Has P (dedup c) ↔ Met P o (last_of origin c) c
unfolding dedup
has_met P c o h e = (λ x. subst (λ (X : Type 0). X) (sym same) (has_passed P (dedup c) h x), λ x. passed_has P (dedup c) h (subst (λ (X : Type 0). X) same x))
  where
    same : Met P o (last_of origin c) c ≡ Passed P (point_at (dedup c) (length (dedup c) - 2)) (point_at (dedup c) (length (dedup c) - 1)) (dedup c)
    same = met_is P o (last_of origin c) c ∙ subst₂ (λ (x y : Point). Passed P o (last_of origin c) (dedup c) ≡ Passed P x y (dedup c)) e (sym (last_of_dedup c (omega arith))) refl

-- n points so far differ from the one before, p is the last of them, and `rest` is to come
abbrev pub Changed : List Point → ℕ → Point → List Point → Type 0
Changed c n p rest = n + length (changes_after p rest) ≡ length (dedup c)

-- at the start no change is counted
pub changed_start : (c : List Point) → Changed c 0 (last_of origin c) c
unfolding dedup
changed_start c = omega arith

-- a repeated point is no change
pub changed_skip : (c : List Point) (n : ℕ) (p q : Point) (rest : List Point) → is_same p q ≡ true → Changed c n p (q ∷ rest) → Changed c n p rest
changed_skip c n p q rest e w = subst (λ (x : Point). n + length (changes_after x rest) ≡ length (dedup c)) (sym (same_yes p q e)) (rw e at w)

-- a different point adds one change
pub changed_on : (c : List Point) (n : ℕ) (p q : Point) (rest : List Point) → is_same p q ≡ false → Changed c n p (q ∷ rest) → Changed c (n + 1) q rest
changed_on c n p q rest e w = let kept : n + suc (length (changes_after q rest)) ≡ length (dedup c) = rw e at w in omega arith

-- at the end the number of changes is that of the points without repeats
pub changed_end : (c : List Point) (n : ℕ) (p : Point) → Changed c n p [] → n ≡ length (dedup c)
changed_end c n p w = omega (arith, w)

-- a contour without repeats bulges exactly if the walk meets no reversal and not both left and right turns
pub bulges_by_walk : (c : List Point) (o : Point) → 3 ≤ length (dedup c) → o ≡ point_at (dedup c) (length (dedup c) - 2)
    → Bulges (dedup c) ↔ ((Met IsReversed o (last_of origin c) c → ⊥) × (Met IsLeft o (last_of origin c) c → Met IsRight o (last_of origin c) c → ⊥))
bulges_by_walk c o h e = (
  λ b. let q = plain_from_bulges (dedup c) b in
      (λ x. q.0 ((has_met IsReversed c o h e).1 x), λ x y. q.1 ((has_met IsLeft c o h e).1 x) ((has_met IsRight c o h e).1 y)),
  λ q. bulges_from_plain (dedup c) h (λ x. q.0 ((has_met IsReversed c o h e).0 x), λ x y. q.1 ((has_met IsLeft c o h e).0 x) ((has_met IsRight c o h e).0 y)),
)

-- ---- the last two different points, as a search from the end finds them
abbrev pub AllSame : Point → List Point → Type 0
AllSame p [] = Unit {0}
AllSame p (x ∷ xs) = (x ≡ p) × AllSame p xs

changes-append : (q : Point) (u t : List Point) → changes_after q (u ++ t) ≡ changes_after q u ++ changes_after (last_of q u) t
changes-append q [] t = refl
changes-append q (x ∷ u) t = go (changes-append x u t) (is_same q x)
  where
    go : changes_after x (u ++ t) ≡ changes_after x u ++ changes_after (last_of x u) t → (b : Bool)
        → cond b (changes_after x (u ++ t)) (x ∷ changes_after x (u ++ t)) ≡ cond b (changes_after x u) (x ∷ changes_after x u) ++ changes_after (last_of x u) t
    go e true = e
    go e false = ap (λ (xs : List Point). x ∷ xs) e

-- copies of p after p are no changes
pub none_change : (p : Point) (xs : List Point) → AllSame p xs → changes_after p xs ≡ []
none_change p [] a = refl
none_change p (x ∷ xs) a = rw (a.0, same_self p) (none_change p xs a.1)

one_change : (o p : Point) (xs : List Point) → 1 ≤ length xs → o ≢ p → AllSame p xs → changes_after o xs ≡ p ∷ []
one_change o p [] h n a = absurd (omega arith)
one_change o p (x ∷ xs) h n a = rw (a.0, apart_no o p n, none_change p xs a.1) refl

two_last : (q x : Point) (ys : List Point) → last_of q ys ≢ q → (2 ≤ length (ys ++ x ∷ [])) × (last_of q ys ≡ point_at (ys ++ x ∷ []) (length (ys ++ x ∷ []) - 2))
two_last q x [] n = absurd (n refl)
two_last q x (y ∷ ys) n = (omega (arith, length-append ys (x ∷ [])), sym (ap (point_at (y ∷ (ys ++ x ∷ []))) (place (length ys) (length (ys ++ x ∷ [])) (length-append ys (x ∷ []))) ∙ inner y ys))
  where
    place : (n m : ℕ) → m ≡ n + 1 → suc m - 2 ≡ n
    place n m e = omega arith

    inner : (y : Point) (ys : List Point) → get_or (y ∷ (ys ++ x ∷ [])) (length ys) origin ≡ last_of y ys
    inner y [] = refl
    inner y (z ∷ ys) = inner z ys

-- o, followed by at least one copy of the last point p and nothing else, is the second last point without repeats
pub last_but_one : (u v : List Point) (o p : Point) → p ≡ last_of origin (u ++ o ∷ v) → 1 ≤ length v → AllSame p v → o ≢ p
    → (2 ≤ length (dedup (u ++ o ∷ v))) × (o ≡ point_at (dedup (u ++ o ∷ v)) (length (dedup (u ++ o ∷ v)) - 2))
unfolding dedup
last_but_one u v o p e h a n = subst (λ (d : List Point). (2 ≤ length d) × (o ≡ point_at d (length d - 2))) (sym whole) (t.0, sym at_o ∙ t.1)
  where
    at_o : last_of p (changes_after p (u ++ o ∷ [])) ≡ o
    at_o = changes_last p (u ++ o ∷ []) ∙ last_of_append p u (o ∷ [])

    t : (2 ≤ length (changes_after p (u ++ o ∷ []) ++ p ∷ [])) × (last_of p (changes_after p (u ++ o ∷ [])) ≡ point_at (changes_after p (u ++ o ∷ []) ++ p ∷ []) (length (changes_after p (u ++ o ∷ []) ++ p ∷ []) - 2))
    t = two_last p p (changes_after p (u ++ o ∷ [])) (λ f. n (sym at_o ∙ f))

    whole : changes_after (last_of origin (u ++ o ∷ v)) (u ++ o ∷ v) ≡ changes_after p (u ++ o ∷ []) ++ p ∷ []
    whole = ap (λ (q : Point). changes_after q (u ++ o ∷ v)) (sym e) ∙ ap (changes_after p) (sym (append_assoc u (o ∷ []) v)) ∙ changes-append p (u ++ o ∷ []) v
        ∙ ap (λ (q : Point). changes_after p (u ++ o ∷ []) ++ changes_after q v) (last_of_append p u (o ∷ [])) ∙ ap (λ (d : List Point). changes_after p (u ++ o ∷ []) ++ d) (one_change o p v h n a)
