-- The walk that looks for spikes.
use Rattle.std.proofs.Common.{◌≡◌, ◌≢◌, ℕ, ◌-◌, ◌<◌, ◌≤◌, List, [], ◌∷◌, ◌++◌, reverse, length, get_or, Option, Some, None, option_map, unwrap_or, not, ℤ, pos, int_lt, ◌<ℤ◌, T, refl, sym, ap, subst, ◌∙◌, arith, ◌⊎◌, inl, inr, ◌↔◌, Bool, true, false, cond, ◌&&◌, IsTrue, All, find, int_eq}
use Rattle.std.proofs.lemmas.Int.{ints}
use Rattle.std.proofs.lemmas.List.{reverse-append}
use Rattle.std.proofs.lemmas.List.Elements.{All-head, All-tail, All-push}
use Rattle.std.proofs.lemmas.List.Folds.{find-append}
use Rattle.std.proofs.lemmas.Bool.Decides.{same_from_decides}
use Rattle.std.specs.Int.{Width}
use Rattle.std.specs.Option.{option_or}
use Rattle.std.specs.Cmp.{signed_Decides}
use Rattle.i_shape_core.specs.Point.{Point, origin, vector, cross, cross_of, dot, dot_of, IsBack}
use Rattle.i_shape_core.proofs.Common.{Test, point_at, place_before, place_after, IsRemovable, point_of, contour_of, IsSafe, IntPoint}
use Rattle.i_shape_core.specs.Convex.{is_same, is_reversal, changes_after, last_of, dedup, NoSpikes, IsReversal, cross_at}
use Rattle.i_shape_core.proofs.Convex.Laws.{Has, IsReversed}
use Rattle.i_shape_core.proofs.Sums.InsideWalk.{last_point}
use Rattle.i_shape_core.proofs.Convex.Around.{Met, Passed, AllSame, met_is, has_met, last_but_one, none_change}
use Rattle.i_shape_core.proofs.Removal.Dedup.{IsApart, AllApart, changes_apart, changes_last, last_again, same_yes, same_no, last_of_append, apart_from_places, dedup-same}
use Rattle.i_shape_core.proofs.Plane.Back.{back_cases, there_and_back, back_from_cases}
use Rattle.i_shape_core.proofs.Plane.Contours.{safe-at}

-- if `is_reversal` returns true, the turn is a reversal
pub reversal_yes : (a b c : Point) → is_reversal a b c ≡ true → IsReversed a b c
unfolding is_reversal
reversal_yes a b c e = go (int_eq (cross a b c) (pos 0)) refl (int_lt (dot a b c) (pos 0)) refl e
  where
    go : (s : Bool) → int_eq (cross a b c) (pos 0) ≡ s → (t : Bool) → int_lt (dot a b c) (pos 0) ≡ t → s && t ≡ true → IsReversed a b c
    go true e true f h = ((signed_Decides (cross a b c) (pos 0)).0 e, omega (arith, ints))
    go true e false f h = absurd (cc)
    go false e t f h = absurd (cc)

-- if `is_reversal` returns false, the turn is no reversal
pub reversal_no : (a b c : Point) → is_reversal a b c ≡ false → IsReversed a b c → ⊥
unfolding is_reversal
reversal_no a b c e h =
    let straight = (signed_Decides (cross a b c) (pos 0)).1 h.0 in
    let back : true ≡ int_lt (dot a b c) (pos 0) = omega (arith, ints, h.1) in
    let never = rw (straight, ← back) at e in
    cc

-- the last point that differs from p, or o
abbrev pub last_differing : Point → Point → List Point → Point
last_differing p o [] = o
last_differing p o (q ∷ qs) = cond (is_same p q) (last_differing p o qs) (last_differing p q qs)

-- r is the last point of c that differs from p, or o if none does
abbrev IsLastDiffering : Point → Point → List Point → Point → Type 0
IsLastDiffering p o c r = ((r ≡ o) × AllSame p c) ⊎ ((u : List Point) × (v : List Point) × (c ≡ u ++ r ∷ v) × AllSame p v × (r ≢ p))

is_last_differing : (p o : Point) (c : List Point) → IsLastDiffering p o c (last_differing p o c)
is_last_differing p o [] = inl (refl, tt)
is_last_differing p o (q ∷ qs) = go (is_last_differing p o qs) (is_last_differing p q qs) (is_same p q) refl
  where
    go : IsLastDiffering p o qs (last_differing p o qs) → IsLastDiffering p q qs (last_differing p q qs) → (t : Bool) → is_same p q ≡ t → IsLastDiffering p o (q ∷ qs) (cond t (last_differing p o qs) (last_differing p q qs))
    go (inl x) y true e = inl (x.0, (sym (same_yes p q e), x.1))
    go (inr x) y true e = inr (q ∷ x.0, x.1, ap (λ (xs : List Point). q ∷ xs) x.2, x.3, x.4)
    go x (inl y) false e = inr ([], qs, ap (λ (r : Point). r ∷ qs) (sym y.0), y.1, λ f. same_no p q e (sym f ∙ y.0))
    go x (inr y) false e = inr (q ∷ y.0, y.1, ap (λ (xs : List Point). q ∷ xs) y.2, y.3, y.4)

all_same : (c : List Point) → AllSame (last_of origin c) c → length (dedup c) ≡ 0
unfolding dedup
all_same c a = ap length (none_change (last_of origin c) c a)

-- a point that differs from the last, with only copies of the last after it, is the second last without repeats
last_two : (d u v : List Point) (r : Point) → d ≡ u ++ r ∷ v → AllSame (last_of origin d) v → r ≢ last_of origin d
    → (2 ≤ length (dedup d)) × (r ≡ point_at (dedup d) (length (dedup d) - 2))
last_two d u [] r e a n = absurd (n (sym (ap (last_of origin) e ∙ last_of_append origin u (r ∷ []))))
last_two d u (x ∷ v) r e a n = subst (λ (y : List Point). (2 ≤ length (dedup y)) × (r ≡ point_at (dedup y) (length (dedup y) - 2))) (sym e)
    (last_but_one u (x ∷ v) r (last_of origin d) (ap (last_of origin) e) (omega arith) a n)

-- the second last point without repeats is the last one that differs from the last
pub last_but_one_differs : (c : List Point) (o : Point) → 1 ≤ length (dedup c) → last_differing (last_of origin c) o c ≡ point_at (dedup c) (length (dedup c) - 2)
last_but_one_differs c o h = go (last_differing (last_of origin c) o c) (is_last_differing (last_of origin c) o c)
  where
    go : (r : Point) → IsLastDiffering (last_of origin c) o c r → r ≡ point_at (dedup c) (length (dedup c) - 2)
    go r (inl x) = absurd (omega (arith, all_same c x.1))
    go r (inr (u, v, e, a, n)) = (last_two c u v r e a n).1

-- ---- where the walk starts: at the last point; before it comes the last that differs
abbrev pub first_behind : List Point → Point
first_behind c = last_differing (last_of origin c) (last_of origin c) c

-- some turn of the contour passes P exactly if S holds or some turn of the rest passes
abbrev pub Told : Test → List Point → Type 0 → Point → Point → List Point → Type 0
Told P c S o p rest = Met P (first_behind c) (last_of origin c) c ↔ (S ⊎ Met P o p rest)

-- the walk starts with an S that is false
pub told-start : (P : Test) (c : List Point) (S : Type 0) → (S → ⊥) → Told P c S (first_behind c) (last_of origin c) c
told-start P c S n = (λ m. inr m, λ x. elim x [ inl s ↦ absurd (n s) | inr m ↦ m ])

-- at a point that differs, S gains whether P holds of the turn there
pub told-on : (P : Test) (c : List Point) (S T N : Type 0) (o p q : Point) (rest : List Point) → is_same p q ≡ false → N ↔ P o p q → T ↔ (S ⊎ N)
    → Told P c S o p (q ∷ rest) → Told P c T p q rest
told-on P c S T N o p q rest e n t w = let v = rw e at w in (
  λ m. elim (v.0 m) [
    | inl s ↦ inl (t.1 (inl s))
    | inr (inl x) ↦ inl (t.1 (inr (n.1 x)))
    | inr (inr m) ↦ inr m
  ],
  λ x. elim x [
    | inl y ↦ elim (t.0 y) [ inl s ↦ v.1 (inl s) | inr z ↦ v.1 (inr (inl (n.0 z))) ]
    | inr m ↦ v.1 (inr (inr m))
  ],
)

-- a repeated point changes nothing
pub told-skip : (P : Test) (c : List Point) (S : Type 0) (o p q : Point) (rest : List Point) → is_same p q ≡ true → Told P c S o p (q ∷ rest) → Told P c S o p rest
told-skip P c S o p q rest e w = rw e at w

-- if S holds or P holds of the turn here, some turn of the contour passes P
pub told-met : (P : Test) (c : List Point) (S N : Type 0) (o p q : Point) (rest : List Point) → is_same p q ≡ false → (N → P o p q)
    → Told P c S o p (q ∷ rest) → S ⊎ N → Met P (first_behind c) (last_of origin c) c
told-met P c S N o p q rest e n w (inl s) = w.1 (inl s)
told-met P c S N o p q rest e n w (inr y) = (rw e at w).1 (inr (inl (n y)))

-- ---- how many points are left without repeats

-- a path from p to another point and back is a reversal
back_reversed : (p q : Point) → p ≢ q → IsReversed p q p
back_reversed p q n = elim (back_cases p q p (there_and_back p q)) [
  | inl e ↦ absurd (n e)
  | inr (inl e) ↦ absurd (n (sym e))
  | inr (inr r) ↦ r
]

-- if some point differs from the last, at least two points are left without repeats
two_left : (c : List Point) → first_behind c ≢ last_of origin c → 2 ≤ length (dedup c)
two_left c n = go (first_behind c) (is_last_differing (last_of origin c) (last_of origin c) c) n
  where
    go : (r : Point) → IsLastDiffering (last_of origin c) (last_of origin c) c r → r ≢ last_of origin c → 2 ≤ length (dedup c)
    go r (inl x) n = absurd (n x.0)
    go r (inr (u, v, e, a, m)) n = (last_two c u v r e a m).0

-- without a reversal at least three points are left if two are: a path there and back is a reversal
three_left : (c : List Point) (o : Point) → 2 ≤ length (dedup c) → (Met IsReversed o (last_of origin c) c → ⊥) → 3 ≤ length (dedup c)
unfolding dedup
three_left c o h none = go (changes_after p c) h (changes_apart p c) (changes_last p c ∙ last_again origin c) (λ x. none (subst (λ (X : Type 0). X) (sym (met_is IsReversed o p c)) x))
  where
    p : Point
    p = last_of origin c

    go : (d : List Point) → 2 ≤ length d → AllApart p d → last_of p d ≡ p → (Passed IsReversed o p d → ⊥) → 3 ≤ length d
    go [] h a e none = absurd (omega arith)
    go (x ∷ []) h a e none = absurd (omega arith)
    go (x ∷ y ∷ []) h a e none = absurd (none (inr (inl (subst (λ (z : Point). IsReversed p x z) (sym e) (back_reversed p x a.0)))))
    go (x ∷ y ∷ z ∷ d) h a e none = omega arith

-- ---- the walk over a contour with at least two different points: the edge e leads to p, no turn so far is a reversal,
-- and `rest` is to come
pub record Walking (c : List Point) (e p : Point) (rest : List Point) : Type 0 where
  pub from : Point
  pub edge : e ≡ vector from p
  pub differ : first_behind c ≢ last_of origin c
  pub met : Told IsReversed c ⊥ from p rest

-- a repeated point changes nothing
pub walking_skip : (c : List Point) (e p q : Point) (rest : List Point) → is_same p q ≡ true → Walking c e p (q ∷ rest) → Walking c e q rest
walking_skip c e p q rest f w = subst (λ (r : Point). Walking c e r rest) (same_yes p q f) (record { from = w.from; edge = w.edge; differ = w.differ; met = told-skip IsReversed c ⊥ w.from p q rest f w.met })

-- the test of two edges returns whether the path over their three points is a reversal
reverses : (e v o p q : Point) (b : Bool) → e ≡ vector o p → v ≡ vector p q → IsTrue b ↔ (cross_of e v ≡ pos 0) × (dot_of e v <ℤ pos 0) → IsTrue b ↔ IsReversed o p q
unfolding cross dot
reverses e v o p q b f g t = rw (f, g) at t

-- a turn that is no reversal moves the walk on to q
pub walking_on : (c : List Point) (e v p q : Point) (rest : List Point) (b : Bool) → is_same p q ≡ false → v ≡ vector p q → IsTrue b ↔ (cross_of e v ≡ pos 0) × (dot_of e v <ℤ pos 0) → b ≡ false
    → Walking c e p (q ∷ rest) → Walking c v q rest
walking_on c e v p q rest b f g t m w = record {
  from = p;
  edge = g;
  differ = w.differ;
  met = told-on IsReversed c ⊥ ⊥ (IsTrue b) w.from p q rest f (reverses e v w.from p q b w.edge g t) (λ x. absurd x, λ x. elim x [ inl y ↦ y | inr y ↦ absurd (cc) ]) w.met;
}

-- a turn that is a reversal means that there is a spike
pub spike_found : (c : List Point) (e v p q : Point) (rest : List Point) (b : Bool) → is_same p q ≡ false → v ≡ vector p q → IsTrue b ↔ (cross_of e v ≡ pos 0) × (dot_of e v <ℤ pos 0) → b ≡ true
    → Walking c e p (q ∷ rest) → IsTrue false ↔ NoSpikes c
unfolding Has cross_at
spike_found c e v p q rest b f g t y w = (
  λ x. absurd (cc),
  λ h.
      let m = told-met IsReversed c ⊥ (IsTrue b) w.from p q rest f (reverses e v w.from p q b w.edge g t).0 w.met (inr y) in
      let k = (has_met IsReversed c (first_behind c) h.enough (last_but_one_differs c (last_of origin c) (omega (arith, h.enough)))).1 m in
      absurd (h.none k.0 (record { within = k.1.within; straight = k.1.passes.0; back = k.1.passes.1 })),
)

-- at the end of the walk there is no spike
pub no_spike_found : (c : List Point) (e p : Point) → Walking c e p [] → IsTrue true ↔ NoSpikes c
unfolding Has cross_at
no_spike_found c e p w = (
  λ x. record {
    enough = enough;
    none = λ k r. none ((has_met IsReversed c (first_behind c) enough (last_but_one_differs c (last_of origin c) (omega (arith, enough)))).0 (k, record { enough = enough; within = r.within; passes = (r.straight, r.back) }));
  },
  λ x. refl,
)
  where
    none : Met IsReversed (first_behind c) (last_of origin c) c → ⊥
    none m = elim (w.met.0 m) [ inl x ↦ x | inr x ↦ x ]

    enough : 3 ≤ length (dedup c)
    enough = three_left c (first_behind c) (two_left c w.differ) none

-- ---- over the points of a program
-- a contour without points fails the test
pub nothing_told : {I : Type 0} (value : I → ℤ) (cs : List (IntPoint I)) → length cs ≤ 0 → IsTrue false ↔ NoSpikes (contour_of value cs)
unfolding dedup
nothing_told value [] h = (λ t. absurd (cc), λ s. let e = s.enough in absurd (omega arith))
nothing_told value (x ∷ xs) h = absurd (omega arith)

-- two points are the same exactly if their coordinates test equal
pub same-told : {I : Type 0} (value : I → ℤ) (equal : I → I → Bool) → ((a b : I) → IsTrue (equal a b) ↔ (value a ≡ value b))
    → (p q : IntPoint I) → equal p.x q.x && equal p.y q.y ≡ is_same (point_of value p) (point_of value q)
unfolding is_same
same-told {I} value equal law p q = ap (λ b. b && equal p.y q.y) (alike p.x q.x) ∙ ap (λ b. int_eq (value p.x) (value q.x) && b) (alike p.y q.y)
  where
    alike : (a b : I) → equal a b ≡ int_eq (value a) (value b)
    alike a b = same_from_decides (equal a b) (int_eq (value a) (value b)) (law a b) (signed_Decides (value a) (value b))

-- ---- a search from the end

-- what a search from the end for a point that differs from p returns
abbrev pub found_differing : {I : Type 0} → (I → ℤ) → IntPoint I → List (IntPoint I) → Option (IntPoint I)
found_differing value p xs = find (λ q. not (is_same (point_of value p) (point_of value q))) (reverse xs)

-- the last point that differs from p is what the search from the end returns
pub differing-found : {I : Type 0} (value : I → ℤ) (p : IntPoint I) (o : Point) (xs : List (IntPoint I))
    → last_differing (point_of value p) o (contour_of value xs) ≡ unwrap_or (option_map (point_of value) (found_differing value p xs)) o
differing-found value p o [] = refl
differing-found {I} value p o (x ∷ xs) =
    go (found_differing value p xs) (differing-found value p o xs) (differing-found value p (point_of value x) xs) (is_same (point_of value p) (point_of value x))
    ∙ ap (λ (r : Option (IntPoint I)). unwrap_or (option_map (point_of value) r) o) (sym parts)
  where
    differs : IntPoint I → Bool
    differs q = not (is_same (point_of value p) (point_of value q))

    parts : found_differing value p (x ∷ xs) ≡ option_or (found_differing value p xs) (cond (differs x) (Some x) None)
    parts = ap (find differs) (reverse-append (x ∷ []) xs) ∙ find-append differs (reverse xs) (x ∷ [])

    go : (r : Option (IntPoint I)) → last_differing (point_of value p) o (contour_of value xs) ≡ unwrap_or (option_map (point_of value) r) o
        → last_differing (point_of value p) (point_of value x) (contour_of value xs) ≡ unwrap_or (option_map (point_of value) r) (point_of value x) → (t : Bool)
        → cond t (last_differing (point_of value p) o (contour_of value xs)) (last_differing (point_of value p) (point_of value x) (contour_of value xs))
        ≡ unwrap_or (option_map (point_of value) (option_or r (cond (not t) (Some x) None))) o
    go None e f true = e
    go None e f false = f
    go (Some q) e f true = e
    go (Some q) e f false = f

-- what holds at the start of the walk holds of the last point and the one that the search returns
pub holds_at_start : {I : Type 0} (value : I → ℤ) (cs : List (IntPoint I)) (last behind : IntPoint I) → 0 < length cs → last ≡ get_or cs (length cs - 1) last
    → Some behind ≡ found_differing value last cs → (F : Point → Point → Type 0) → F (first_behind (contour_of value cs)) (last_of origin (contour_of value cs)) → F (point_of value behind) (point_of value last)
holds_at_start value cs last behind h e f F x =
    subst (λ (o : Point). F o (point_of value last)) at (subst (λ (p : Point). F (last_differing p p (contour_of value cs)) p) (sym (last_point value cs last h e)) x)
  where
    at : last_differing (point_of value last) (point_of value last) (contour_of value cs) ≡ point_of value behind
    at = differing-found value last (point_of value last) cs ∙ ap (λ r. unwrap_or (option_map (point_of value) r) (point_of value last)) (sym f)

-- if no point differs from the last, fewer than three are left without repeats
pub few_differ : {I : Type 0} (value : I → ℤ) (cs : List (IntPoint I)) (last : IntPoint I) → 0 < length cs → last ≡ get_or cs (length cs - 1) last
    → None ≡ found_differing value last cs → 3 ≤ length (dedup (contour_of value cs)) → ⊥
few_differ {I} value cs last h e f three =
    let a : Point = record { x = pos 0; y = pos 0 } in
    let b : Point = record { x = pos 1; y = pos 0 } in
    let at = λ (o : Point). sym (same o) ∙ last_but_one_differs (contour_of value cs) o (omega (arith, three)) in
    let k : a ≡ b = at a ∙ sym (at b) in
    omega (arith, ints, ap (λ (p : Point). p.x) k)
  where
    same : (o : Point) → last_differing (last_of origin (contour_of value cs)) o (contour_of value cs) ≡ o
    same o = ap (λ (p : Point). last_differing p o (contour_of value cs)) (sym (last_point value cs last h e))
        ∙ (differing-found value last o cs ∙ ap (λ (r : Option (IntPoint I)). unwrap_or (option_map (point_of value) r) o) (sym f))

-- if no point differs from the last, there are spikes
pub none_differs : {I : Type 0} (value : I → ℤ) (cs : List (IntPoint I)) (last : IntPoint I) → 0 < length cs → last ≡ get_or cs (length cs - 1) last
    → None ≡ found_differing value last cs → IsTrue false ↔ NoSpikes (contour_of value cs)
none_differs value cs last h e f = (λ t. absurd (cc), λ s. absurd (few_differ value cs last h e f s.enough))

found_one : {X : Type 0} (test : X → Bool) (P : X → Type 0) (ys : List X) (r : X) → Some r ≡ find test ys → All P ys → P r × (test r ≡ true)
found_one test P [] r e a = absurd (cc)
found_one {X} test P (y ∷ ys) r e a = go (test y) refl (λ f. found_one test P ys r f (All-tail P y ys a)) e
  where
    go : (b : Bool) → test y ≡ b → (Some r ≡ find test ys → P r × (test r ≡ true)) → Some r ≡ cond b (Some y) (find test ys) → P r × (test r ≡ true)
    go true f later g = let h : r ≡ y = cc in (subst P (sym h) (All-head P y ys a), ap test h ∙ f)
    go false f later g = later g

all_backwards : {X : Type 0} (P : X → Type 0) (xs : List X) → All P xs → All P (reverse xs)
all_backwards P [] a = a
all_backwards P (x ∷ xs) a = subst (All P) (sym (reverse-append (x ∷ []) xs)) (All-push P (reverse xs) x (all_backwards P xs (All-tail P x xs a)) (All-head P x xs a))

-- the point that the search returns differs from the last
found_differs : {I : Type 0} (value : I → ℤ) (cs : List (IntPoint I)) (last behind : IntPoint I) → Some behind ≡ found_differing value last cs → point_of value behind ≢ point_of value last
found_differs {I} value cs last behind e = apart (is_same (point_of value last) (point_of value behind)) refl told
  where
    told : not (is_same (point_of value last) (point_of value behind)) ≡ true
    told = (found_one (λ q. not (is_same (point_of value last) (point_of value q))) (λ q. Unit {0}) (reverse cs) behind e (λ k d h. tt)).1

    apart : (b : Bool) → is_same (point_of value last) (point_of value behind) ≡ b → not b ≡ true → point_of value behind ≢ point_of value last
    apart true f h = absurd (cc)
    apart false f h = λ x. same_no (point_of value last) (point_of value behind) f (sym x)

-- the points of a safe contour are safe
pub points_safe : {I : Type 0} (w : Width) (value : I → ℤ) (cs : List (IntPoint I)) → All (IsSafe w) (contour_of value cs) → All (λ p. IsSafe w (point_of value p)) cs
points_safe w value cs a = λ k d h. safe-at w value cs k d a h

-- the point that the search returns is safe
pub found_safe : {I : Type 0} (w : Width) (value : I → ℤ) (cs : List (IntPoint I)) (last behind : IntPoint I) → All (IsSafe w) (contour_of value cs)
    → Some behind ≡ found_differing value last cs → IsSafe w (point_of value behind)
found_safe {I} w value cs last behind safe e =
    let P : IntPoint I → Type 0 = λ p. IsSafe w (point_of value p) in
    (found_one (λ q. not (is_same (point_of value last) (point_of value q))) P (reverse cs) behind e (all_backwards P cs (points_safe w value cs safe))).0

-- the walk begins at the last point, with the edge from the last point that differs from it
pub walking_begins : {I : Type 0} (value : I → ℤ) (cs : List (IntPoint I)) (last behind : IntPoint I) (e : Point) → 0 < length cs → last ≡ get_or cs (length cs - 1) last
    → Some behind ≡ found_differing value last cs → e ≡ vector (point_of value behind) (point_of value last) → Walking (contour_of value cs) e (point_of value last) (contour_of value cs)
walking_begins value cs last behind e h r f k = holds_at_start value cs last behind h r f (λ o p. o ≢ p → e ≡ vector o p → Walking (contour_of value cs) e p (contour_of value cs))
    (λ n g. record { from = _; edge = g; differ = n; met = told-start IsReversed (contour_of value cs) ⊥ (λ x. x) }) (found_differs value cs last behind f) k

-- a contour of at least three points without back vertices has no spikes
pub spikeless_end : (d : List Point) → 3 ≤ length d → ((k : ℕ) → IsRemovable IsBack d k → ⊥) → NoSpikes d
unfolding cross_at
spikeless_end d h none = subst (λ (c : List Point). 3 ≤ length c → ((k : ℕ) → IsReversal c k → ⊥) → NoSpikes d) same (λ m n. record { enough = m; none = n }) h reversal
  where
    apart : IsApart d
    apart = apart_from_places d (λ k l e. none k (record {
      enough = h;
      within = l;
      passes = back_from_cases (point_at d (place_before (length d) k)) (point_at d k) (point_at d (place_after (length d) k)) (inl e);
    }))

    same : dedup d ≡ d
    same = dedup-same d apart

    reversal : (k : ℕ) → IsReversal d k → ⊥
    reversal k r = none k (record {
      enough = h;
      within = r.within;
      passes = (r.straight, omega (arith, ints, r.back));
    })
