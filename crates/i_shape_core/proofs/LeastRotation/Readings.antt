-- What the search reads.
use Rattle.std.proofs.Common.{Fits, not, false, ◌≡◌, ◌⊎◌, ℕ, ◌+◌, ◌-◌, ◌<◌, ◌≤◌, ℤ, List, ◌++◌, take, drop, get_or, length, inl, inr, refl, sym, ap, subst, subst₂, ◌∙◌, arith, ◌==◌, Ordering, Less, Equal, Greater}
use Rattle.std.specs.Int.{w128}
use Rattle.std.specs.Ordering.{MatchOrdering, ordering_index}
use Rattle.std.proofs.lemmas.Bool.{cases_lt}
use Rattle.std.specs.Global.{Vec}
use Rattle.std.specs.Vec.{with_items}
use Rattle.std.proofs.lemmas.List.{with_items_is}
use Rattle.i_shape_core.proofs.Common.{Point, point_at, point_round, Agree, Precedes, IsOrder, IsBefore, IsLeast, IsLesserWay, started_at, point_of, contour_of, IntPoint}
use Rattle.i_shape_core.proofs.Plane.Contours.{read-point}
use Rattle.i_shape_core.proofs.Plane.PointLists.{map-rotated}
use Rattle.i_shape_core.proofs.LeastRotation.Rounds.{round-first, round-place}

-- rotations with equal first points agree on one point
agree-first : (c : List Point) (i j : ℕ) → i < length c → j < length c → point_at c i ≡ point_at c j → Agree c i j 1
agree-first c i j wi wj e t l =
    let z : 0 ≡ t = omega arith in
    subst (λ (u : ℕ). point_round c (i + u) ≡ point_round c (j + u)) z (sym (round-first c i wi) ∙ e ∙ round-first c j wj)

precedes-first : (c : List Point) (i j : ℕ) → i < length c → j < length c → IsBefore (point_at c i) (point_at c j) → Precedes c i j 1
precedes-first c i j wi wj h = record {
  matched = 0;
  last = refl;
  within = omega arith;
  agree = λ t l. absurd (omega arith);
  before = subst₂ IsBefore (round-first c i wi) (round-first c j wj) h;
}

-- if the first points differ, their order is that of the rotations
pub first-tells : (c : List Point) (i j : ℕ) (Q : Type 0) (order : Ordering) → i < length c → j < length c → IsOrder c i j order → (order ≡ Equal → ⊥)
    → MatchOrdering order (Precedes c i j 1) Q (Precedes c j i 1)
first-tells c i j Q Less wi wj h n = precedes-first c i j wi wj h
first-tells c i j Q Equal wi wj h n = absurd (n refl)
first-tells c i j Q Greater wi wj h n = precedes-first c j i wj wi h

-- if the first points are equal, the rotations agree on one point
pub first-agrees : (c : List Point) (i j : ℕ) (order : Ordering) → i < length c → j < length c → IsOrder c i j order → not (ordering_index order == 1) ≡ false
    → Agree c i j 1
first-agrees c i j Less wi wj h e = absurd (cc)
first-agrees c i j Equal wi wj h e = agree-first c i j wi wj h
first-agrees c i j Greater wi wj h e = absurd (cc)

-- the count has room for one more comparison
pub count_fits : (count shown : ℕ) → count ≡ shown → shown < 340282366920938463463374607431768211455 → Fits w128 (count + 1)
count_fits count shown e room = omega arith

-- the order of two points that were read is that of the contour's points
pub read-order : {I : Type 0} (value : I → ℤ) (xs : List (IntPoint I)) (i j : ℕ) (p q : IntPoint I) (order : Ordering) → i < length xs → j < length xs → p ≡ get_or xs i p → q ≡ get_or xs j q
    → MatchOrdering order (IsBefore (point_of value p) (point_of value q)) (point_of value p ≡ point_of value q) (IsBefore (point_of value q) (point_of value p)) → IsOrder (contour_of value xs) i j order
read-order value xs i j p q order wi wj first second told =
    subst₂ (λ (a b : Point). MatchOrdering order (IsBefore a b) (a ≡ b) (IsBefore b a)) (read-point value xs i p wi first) (read-point value xs j q wj second) told

-- a is place s + m of n places on the cycle
abbrev pub IsStep : ℕ → ℕ → ℕ → ℕ → Type 0
IsStep n s m a = (a ≡ s + m) ⊎ (a + n ≡ s + m)

-- the points from place a on, which is m after s, are those of the rotation from s
pub run-point : (c : List Point) (s m a t : ℕ) → IsStep (length c) s m a → a + t < length c → point_at c (a + t) ≡ point_round c (s + (m + t))
run-point c s m a t (inl h) within = sym (round-place c (s + (m + t)) (a + t) within (inl (omega arith)))
run-point c s m a t (inr h) within = sym (round-place c (s + (m + t)) (a + t) within (inr (omega arith)))

-- the k points of c from place a on equal those from place b on
abbrev pub RunsAgree : List Point → ℕ → ℕ → ℕ → Type 0
RunsAgree c a b k = (t : ℕ) → t < k → point_at c (a + t) ≡ point_at c (b + t)

-- rotations that agree on m points and then over k more agree on m + k
pub agree-on : (c : List Point) (i j m a b k : ℕ) → IsStep (length c) i m a → IsStep (length c) j m b
    → a + k ≤ length c → b + k ≤ length c → Agree c i j m → RunsAgree c a b k → Agree c i j (m + k)
agree-on c i j m a b k ours theirs wa wb before run t l = go (cases_lt t m)
  where
    go : (t < m) ⊎ (m ≤ t) → point_round c (i + t) ≡ point_round c (j + t)
    go (inl h) = before t h
    go (inr h) =
        let e : m + (t - m) ≡ t = omega arith in
        ap (λ (u : ℕ). point_round c (i + u)) (sym e) ∙ sym (run-point c i m a (t - m) ours (omega arith))
        ∙ run (t - m) (omega arith) ∙ run-point c j m b (t - m) theirs (omega arith) ∙ ap (λ (u : ℕ). point_round c (j + u)) e

-- if the points after such a run differ, the rotation with the lesser precedes
pub precedes-on : (c : List Point) (i j m a b k : ℕ) → IsStep (length c) i m a → IsStep (length c) j m b
    → a + k < length c → b + k < length c → m + k < length c → Agree c i j m → RunsAgree c a b k
    → IsBefore (point_at c (a + k)) (point_at c (b + k)) → Precedes c i j (m + k + 1)
precedes-on c i j m a b k ours theirs wa wb wm before run h = record {
  matched = m + k;
  last = refl;
  within = wm;
  agree = agree-on c i j m a b k ours theirs (omega arith) (omega arith) before run;
  before = subst₂ IsBefore (run-point c i m a k ours wa) (run-point c j m b k theirs wb) h;
}

-- rotating the program's list starts the contour at the k-th point
pub contour-rotated : {I : Type 0} (value : I → ℤ) (xs zs : List (IntPoint I)) (k : ℕ) → zs ≡ drop k xs ++ take k xs → contour_of value zs ≡ started_at (contour_of value xs) k
contour-rotated value xs zs k e = ap (contour_of value) e ∙ map-rotated (point_of value) k xs

-- if the rotation from k is least, rotating the program's list by k makes the contour its least rotation
pub contour-started : {I : Type 0} (value : I → ℤ) (xs zs : List (IntPoint I)) (k : ℕ) → zs ≡ drop k xs ++ take k xs
    → IsLeast (contour_of value xs) (started_at (contour_of value xs) k) → IsLeast (contour_of value xs) (contour_of value zs)
contour-started {I} value xs zs k e least =
    subst (IsLeast (contour_of value xs)) (sym (contour-rotated value xs zs k e)) least

-- rotating a contour's slice to its least rotation rotates the contour to it
pub least-written : {I : Type 0} (value : I → ℤ) (v : Vec (IntPoint I)) (read ws : List (IntPoint I)) → read ≡ v.items → length ws ≡ length read
    → IsLeast (contour_of value read) (contour_of value ws) → IsLeast (contour_of value v.items) (contour_of value (with_items v ws).items)
least-written value v read ws same long least =
    rw (with_items_is v ws (long ∙ ap length same ∙ sym v.ok.0)) (rw same at least)

-- writing the lesser way into a contour's slice writes it into the contour
pub lesser-written : {I : Type 0} (value : I → ℤ) (v : Vec (IntPoint I)) (read ws : List (IntPoint I)) → read ≡ v.items → length ws ≡ length read
    → IsLesserWay (contour_of value read) (contour_of value ws) → IsLesserWay (contour_of value v.items) (contour_of value (with_items v ws).items)
lesser-written value v read ws same long lesser =
    rw (with_items_is v ws (long ∙ ap length same ∙ sym v.ok.0)) (rw same at lesser)
