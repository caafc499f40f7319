-- The walk that finds how a contour bends.
use Rattle.std.proofs.Common.{◌≡◌, ◌≢◌, ℕ, ◌+◌, ◌-◌, ◌<◌, ◌≤◌, ◌<ℤ◌, ◌≤ℤ◌, List, [], ◌∷◌, length, drop, get_or, Some, None, ℤ, pos, refl, sym, ap, subst, ◌∙◌, arith, ◌⊎◌, inl, inr, ◌↔◌, Bool, true, false, IsTrue, leb, cond, int_lt, tests}
use Rattle.std.proofs.lemmas.Int.{ints}
use Rattle.i_shape_core.specs.Point.{Point, origin, vector, cross, dot, cross_of, dot_of}
use Rattle.i_shape_core.proofs.Common.{Test, point_at, point_of, contour_of, IntPoint, IsBend, bend_of_both}
use Rattle.i_shape_core.specs.Convex.{is_same, last_of, dedup, Bulges, Convex}
use Rattle.i_shape_core.specs.declared.turn.bend.Bend.{Bend}
use Rattle.i_shape_core.specs.declared.turn.bend.Bend.TheVariants.{Straight, Left, Right, Reversal}
use Rattle.i_shape_core.proofs.Arithmetic.Polynomials.{number, by_polynomials}
use Rattle.i_shape_core.proofs.Plane.CrossProducts.{A, B, cross_term, coordinates, cross-same}
use Rattle.i_shape_core.proofs.Plane.Back.{dot-same}
use Rattle.i_shape_core.proofs.Convex.Laws.{IsLeft, IsRight, IsReversed}
use Rattle.i_shape_core.proofs.Convex.Around.{Passed, Met, Changed, changed_start, changed_skip, changed_on, changed_end, met_is, last_of_dedup, bulges_by_walk}
use Rattle.i_shape_core.proofs.Plane.Contours.{rest-read, rest-none}
use Rattle.i_shape_core.proofs.Removal.Dedup.{same_yes}
use Rattle.i_shape_core.proofs.Walks.Spikes.{first_behind, Told, told-start, told-on, told-skip, told-met, last_but_one_differs, found_differing, holds_at_start, few_differ}

-- ---- the kinds of bend
-- the kind of bend by cross product c and dot product d
abbrev kind_by : ℤ → ℤ → Bend
kind_by c d = cond (int_lt (pos 0) c) Left (cond (int_lt c (pos 0)) Right (cond (int_lt d (pos 0)) Reversal Straight))

by_kind : (o p q : Point) (b : Bend) → IsBend o p q b → kind_by (cross o p q) (dot o p q) ≡ b
by_kind o p q Straight h = grind (arith, ints)
by_kind o p q Left h = grind (arith, ints)
by_kind o p q Right h = grind (arith, ints)
by_kind o p q Reversal h = grind (arith, ints)

-- a path that bends by b bends in a kind exactly if b is that kind
is-kind : (o p q : Point) (b kind : Bend) → IsBend o p q b → (b ≡ kind) ↔ IsBend o p q kind
is-kind o p q b kind h = (λ e. subst (IsBend o p q) e h, λ k. sym (by_kind o p q b h) ∙ by_kind o p q kind k)

-- two joined bends have a kind other than Straight exactly if one of them has
joins : (kind s b t : Bend) → kind ≢ Straight → bend_of_both s b ≡ Some t → (t ≡ kind) ↔ ((s ≡ kind) ⊎ (b ≡ kind))
joins kind Straight b t n e = let h : b ≡ t = cc in (λ f. inr (h ∙ f), λ x. elim x [ inl f ↦ absurd (n (sym f)) | inr f ↦ sym h ∙ f ])
joins kind Left Straight t n e = let h : Left ≡ t = cc in (λ f. inl (h ∙ f), λ x. elim x [ inl f ↦ sym h ∙ f | inr f ↦ absurd (n (sym f)) ])
joins kind Right Straight t n e = let h : Right ≡ t = cc in (λ f. inl (h ∙ f), λ x. elim x [ inl f ↦ sym h ∙ f | inr f ↦ absurd (n (sym f)) ])
joins kind Reversal Straight t n e = let h : Reversal ≡ t = cc in (λ f. inl (h ∙ f), λ x. elim x [ inl f ↦ sym h ∙ f | inr f ↦ absurd (n (sym f)) ])
joins kind Left Left t n e = let h : Left ≡ t = cc in (λ f. inl (h ∙ f), λ x. elim x [ inl f ↦ sym h ∙ f | inr f ↦ sym h ∙ f ])
joins kind Right Right t n e = let h : Right ≡ t = cc in (λ f. inl (h ∙ f), λ x. elim x [ inl f ↦ sym h ∙ f | inr f ↦ sym h ∙ f ])
joins kind Reversal Reversal t n e = let h : Reversal ≡ t = cc in (λ f. inl (h ∙ f), λ x. elim x [ inl f ↦ sym h ∙ f | inr f ↦ sym h ∙ f ])
joins kind Left Right t n e = absurd (cc)
joins kind Left Reversal t n e = absurd (cc)
joins kind Right Left t n e = absurd (cc)
joins kind Right Reversal t n e = absurd (cc)
joins kind Reversal Left t n e = absurd (cc)
joins kind Reversal Right t n e = absurd (cc)

-- two bends that don't join: one to each side, or a reversal and one to a side
abbrev Clashes : Bend → Bend → Type 0
Clashes s b = (((s ≡ Left) ⊎ (b ≡ Left)) × ((s ≡ Right) ⊎ (b ≡ Right)))
    ⊎ (((s ≡ Reversal) ⊎ (b ≡ Reversal)) × (((s ≡ Left) ⊎ (b ≡ Left)) ⊎ ((s ≡ Right) ⊎ (b ≡ Right))))

clashes : (s b : Bend) → bend_of_both s b ≡ None → Clashes s b
clashes Straight b e = absurd (cc)
clashes Left Straight e = absurd (cc)
clashes Left Left e = absurd (cc)
clashes Left Right e = inl (inl refl, inr refl)
clashes Left Reversal e = inr (inr refl, inl (inl refl))
clashes Right Straight e = absurd (cc)
clashes Right Left e = inl (inr refl, inl refl)
clashes Right Right e = absurd (cc)
clashes Right Reversal e = inr (inr refl, inr (inl refl))
clashes Reversal Straight e = absurd (cc)
clashes Reversal Left e = inr (inl refl, inl (inr refl))
clashes Reversal Right e = inr (inl refl, inr (inr refl))
clashes Reversal Reversal e = absurd (cc)

-- ---- a contour that bends to a side has three different points
flat_back : (a b : Point) → cross a b a ≡ pos 0
unfolding cross
flat_back a b = by_polynomials (coordinates (a ∷ b ∷ [])) (cross_term A B A) (number (pos 0)) refl

three_passed : (P : Test) → ((a b c : Point) → P a b c → cross a b c ≡ pos 0 → ⊥) → (d : List Point) (o p : Point) → Passed P o p d
    → (1 ≤ length d → point_at d (length d - 1) ≡ p) → (1 ≤ length d → o ≡ point_at d (length d - 2)) → 3 ≤ length d
three_passed P bends [] o p x last behind = absurd x
three_passed P bends (a ∷ []) o p (inl x) last behind =
    let e : a ≡ p = last (omega arith) in absurd (bends o p a x (ap (λ (q : Point). cross o p q) e ∙ cross-same o p))
three_passed P bends (a ∷ []) o p (inr x) last behind = absurd x
three_passed P bends (a ∷ b ∷ []) o p (inl x) last behind =
    let e : o ≡ a = behind (omega arith) in absurd (bends o p a x (ap (λ (q : Point). cross o p q) (sym e) ∙ flat_back o p))
three_passed P bends (a ∷ b ∷ []) o p (inr (inl x)) last behind =
    let e : b ≡ p = last (omega arith) in absurd (bends p a b x (ap (λ (q : Point). cross p a q) e ∙ flat_back p a))
three_passed P bends (a ∷ b ∷ []) o p (inr (inr x)) last behind = absurd x
three_passed P bends (a ∷ b ∷ r ∷ d) o p x last behind = omega arith

three_met : (P : Test) → ((a b c : Point) → P a b c → cross a b c ≡ pos 0 → ⊥) → (c : List Point) → Met P (first_behind c) (last_of origin c) c → 3 ≤ length (dedup c)
unfolding dedup
three_met P bends c m = three_passed P bends (dedup c) (first_behind c) (last_of origin c) (subst (λ (X : Type 0). X) (met_is P (first_behind c) (last_of origin c) c) m)
    (last_of_dedup c) (last_but_one_differs c (last_of origin c))

left_bends : (a b c : Point) → IsLeft a b c → cross a b c ≡ pos 0 → ⊥
left_bends a b c l e = omega (arith, ints)

right_bends : (a b c : Point) → IsRight a b c → cross a b c ≡ pos 0 → ⊥
right_bends a b c l e = omega (arith, ints)

-- without repeats a contour bulges exactly if a walk over it meets no reversal and not both left and right turns
bulges_met : (c : List Point) → 3 ≤ length (dedup c)
    → Bulges (dedup c) ↔ ((Met IsReversed (first_behind c) (last_of origin c) c → ⊥) × (Met IsLeft (first_behind c) (last_of origin c) c → Met IsRight (first_behind c) (last_of origin c) c → ⊥))
bulges_met c h = bulges_by_walk c (first_behind c) h (last_but_one_differs c (last_of origin c) (omega arith))

-- the path over o, p and q bends in this kind
abbrev IsKind : Bend → Test
IsKind kind o p q = IsBend o p q kind

-- ---- the walk: n points so far differ from the one before, o and p are the last two that differ, `seen` is the joined
-- bend so far, and `rest` is to come
pub record Bending (c : List Point) (seen : Bend) (n : ℕ) (o p : Point) (rest : List Point) : Type 0 where
  pub changes : Changed c n p rest
  pub told : (kind : Bend) → kind ≢ Straight → Told (IsKind kind) c (seen ≡ kind) o p rest

bending_start : (c : List Point) → Bending c Straight 0 (first_behind c) (last_of origin c) c
bending_start c = record {
  changes = changed_start c;
  told = λ kind n. told-start (IsKind kind) c (Straight ≡ kind) (λ e. n (sym e));
}

bending_skip : (c : List Point) (seen : Bend) (n : ℕ) (o p q : Point) (rest : List Point) → is_same p q ≡ true → Bending c seen n o p (q ∷ rest) → Bending c seen n o p rest
bending_skip c seen n o p q rest e w = record {
  changes = changed_skip c n p q rest e w.changes;
  told = λ kind n. told-skip (IsKind kind) c (seen ≡ kind) o p q rest e (w.told kind n);
}

bending_on : (c : List Point) (seen b both : Bend) (n : ℕ) (o p q : Point) (rest : List Point) → is_same p q ≡ false → IsBend o p q b → bend_of_both seen b ≡ Some both
    → Bending c seen n o p (q ∷ rest) → Bending c both (n + 1) p q rest
bending_on c seen b both n o p q rest e h j w = record {
  changes = changed_on c n p q rest e w.changes;
  told = λ kind n. told-on (IsKind kind) c (seen ≡ kind) (both ≡ kind) (b ≡ kind) o p q rest e (is-kind o p q b kind h) (joins kind seen b both n j) (w.told kind n);
}

-- if two bends don't join, the contour isn't convex
bending_clash : (c : List Point) (seen b : Bend) (n : ℕ) (o p q : Point) (rest : List Point) → is_same p q ≡ false → IsBend o p q b → bend_of_both seen b ≡ None
    → Bending c seen n o p (q ∷ rest) → Convex c → ⊥
bending_clash c seen b n o p q rest e h j w convex = go (clashes seen b j)
  where
    met : (kind : Bend) → kind ≢ Straight → (seen ≡ kind) ⊎ (b ≡ kind) → Met (IsKind kind) (first_behind c) (last_of origin c) c
    met kind n x = told-met (IsKind kind) c (seen ≡ kind) (b ≡ kind) o p q rest e (is-kind o p q b kind h).0 (w.told kind n) x

    bulging : 3 ≤ length (dedup c) → Convex c → Bulges (dedup c)
    bulging three (inl few) = absurd (omega arith)
    bulging three (inr b) = b

    go : Clashes seen b → ⊥
    go (inl (x, y)) = let left = met Left (λ f. cc) x in
        ((bulges_met c (three_met IsLeft left_bends c left)).0 (bulging (three_met IsLeft left_bends c left) convex)).1 left (met Right (λ f. cc) y)
    go (inr (x, inl y)) = let three = three_met IsLeft left_bends c (met Left (λ f. cc) y) in
        ((bulges_met c three).0 (bulging three convex)).0 (met Reversal (λ f. cc) x)
    go (inr (x, inr y)) = let three = three_met IsRight right_bends c (met Right (λ f. cc) y) in
        ((bulges_met c three).0 (bulging three convex)).0 (met Reversal (λ f. cc) x)

few_or_more : (m : ℕ) → (m ≤ 2) ⊎ (3 ≤ m)
few_or_more m = grind arith

-- at the end the contour is convex exactly if at most two points differ from the one before, or `seen` is no reversal
bending_end : (c : List Point) (seen : Bend) (n : ℕ) (o p : Point) → Bending c seen n o p [] → ((n ≤ 2) ⊎ (seen ≢ Reversal)) ↔ Convex c
bending_end c seen n o p w = (to, from)
  where
    count : n ≡ length (dedup c)
    count = changed_end c n p w.changes

    only : {S : Type 0} → S ⊎ ⊥ → S
    only (inl s) = s
    only (inr x) = absurd x

    many : seen ≢ Reversal → (length (dedup c) ≤ 2) ⊎ (3 ≤ length (dedup c)) → Convex c
    many s (inl few) = inl few
    many s (inr three) = inr ((bulges_met c three).1 (
      λ r. s (only ((w.told Reversal (λ f. cc)).0 r)),
      λ l r. let a : seen ≡ Left = only ((w.told Left (λ f. cc)).0 l) in let b : seen ≡ Right = only ((w.told Right (λ f. cc)).0 r) in absurd (cc),
    ))

    to : (n ≤ 2) ⊎ (seen ≢ Reversal) → Convex c
    to (inl few) = inl (subst (λ (m : ℕ). m ≤ 2) count few)
    to (inr s) = many s (few_or_more (length (dedup c)))

    bulging : Bulges (dedup c) → (length (dedup c) ≤ 2) ⊎ (3 ≤ length (dedup c)) → (n ≤ 2) ⊎ (seen ≢ Reversal)
    bulging b (inl few) = inl (subst (λ (m : ℕ). m ≤ 2) (sym count) few)
    bulging b (inr three) = inr (λ s. ((bulges_met c three).0 b).0 ((w.told Reversal (λ f. cc)).1 (inl s)))

    from : Convex c → (n ≤ 2) ⊎ (seen ≢ Reversal)
    from (inl few) = inl (subst (λ (m : ℕ). m ≤ 2) (sym count) few)
    from (inr b) = bulging b (few_or_more (length (dedup c)))

-- ---- over the points of a program: what the walk knows at index i, after the edge e that leads to p, when `repeats`
-- of the first i points repeat the one before
pub record IsBending {I : Type 0} (value : I → ℤ) (cs : List (IntPoint I)) (seen : Bend) (repeats i : ℕ) (e p : Point) : Type 0 where
  pub behind : Point
  pub passed : ℕ
  pub counted : passed + repeats ≡ i
  pub edge : e ≡ vector behind p
  pub bending : Bending (contour_of value cs) seen passed behind p (contour_of value (drop i cs))

-- the walk begins at the last point
pub bending_begins : {I : Type 0} (value : I → ℤ) (cs : List (IntPoint I)) (last behind : IntPoint I) (e : Point) → 0 < length cs → last ≡ get_or cs (length cs - 1) last
    → Some behind ≡ found_differing value last cs → e ≡ vector (point_of value behind) (point_of value last) → IsBending value cs Straight 0 0 e (point_of value last)
bending_begins value cs last behind e h r f k = record {
  behind = point_of value behind;
  passed = 0;
  counted = refl;
  edge = k;
  bending = holds_at_start value cs last behind h r f (λ o p. Bending (contour_of value cs) Straight 0 o p (contour_of value cs)) (bending_start (contour_of value cs));
}

-- a repeated point changes only the count of repeats
pub bending_repeat : {I : Type 0} (value : I → ℤ) (cs : List (IntPoint I)) (seen : Bend) (repeats i : ℕ) (e : Point) (p x : IntPoint I) → i < length cs → x ≡ get_or cs i x
    → is_same (point_of value p) (point_of value x) ≡ true
    → IsBending value cs seen repeats i e (point_of value p) → IsBending value cs seen (repeats + 1) (i + 1) e (point_of value p)
bending_repeat value cs seen repeats i e p x h r a w = record {
  behind = w.behind;
  passed = w.passed;
  counted = omega (arith, w.counted);
  edge = w.edge;
  bending = bending_skip (contour_of value cs) seen w.passed w.behind (point_of value p) (point_of value x) (contour_of value (drop (i + 1) cs)) a
      (subst (Bending (contour_of value cs) seen w.passed w.behind (point_of value p)) (rest-read value cs i x h r) w.bending);
}

-- a path to p and on to p again is straight
straight_still : (o p : Point) (b : Bend) → IsBend o p p b → b ≡ Straight
straight_still o p Straight h = refl
straight_still o p Left h = let z = cross-same o p in absurd (omega (arith, ints))
straight_still o p Right h = let z = cross-same o p in absurd (omega (arith, ints))
straight_still o p Reversal h = let z = dot-same o p in let k = h.1 in absurd (omega (arith, ints))

-- so a bend other than Straight leads to a different point
differ : (o p q : Point) (b : Bend) → IsBend o p q b → (b ≡ Straight → is_same p q ≡ false) → is_same p q ≡ false
differ o p q b h n = go (is_same p q) refl
  where
    go : (t : Bool) → is_same p q ≡ t → is_same p q ≡ false
    go false e = e
    go true e = n (straight_still o p b (subst (λ (r : Point). IsBend o p r b) (sym (same_yes p q e)) h))

-- b is the bend of each path whose two edges are e and n
abbrev pub TellsBend : Point → Point → Bend → Type 0
TellsBend e n b = (o p q : Point) → e ≡ vector o p → n ≡ vector p q → IsBend o p q b

-- the kind of bend by the two products of its edges
abbrev pub BendsBy : ℤ → ℤ → Bend → Type 0
BendsBy c d Straight = (c ≡ pos 0) × (pos 0 ≤ℤ d)
BendsBy c d Left = pos 0 <ℤ c
BendsBy c d Right = c <ℤ pos 0
BendsBy c d Reversal = (c ≡ pos 0) × (d <ℤ pos 0)

by_products : (o p q : Point) (b : Bend) → BendsBy (cross o p q) (dot o p q) b → IsBend o p q b
by_products o p q Straight h = h
by_products o p q Left h = h
by_products o p q Right h = h
by_products o p q Reversal h = h

-- the products of two edges decide the bend of a path over them
pub tells_bend : (e n : Point) (b : Bend) → BendsBy (cross_of e n) (dot_of e n) b → TellsBend e n b
unfolding cross dot
tells_bend e n b h o p q f k = by_products o p q b
    (subst (λ (w : Point). BendsBy (cross_of (vector o p) w) (dot_of (vector o p) w) b) k (subst (λ (v : Point). BendsBy (cross_of v n) (dot_of v n) b) f h))

-- the walk joins the bend at a point to `seen`
pub bending_item : {I : Type 0} (value : I → ℤ) (cs : List (IntPoint I)) (seen b both : Bend) (repeats i : ℕ) (e n : Point) (p x : IntPoint I) → i < length cs → x ≡ get_or cs i x
    → (b ≡ Straight → is_same (point_of value p) (point_of value x) ≡ false) → TellsBend e n b → n ≡ vector (point_of value p) (point_of value x) → bend_of_both seen b ≡ Some both
    → IsBending value cs seen repeats i e (point_of value p) → IsBending value cs both repeats (i + 1) n (point_of value x)
bending_item value cs seen b both repeats i e n p x h r a tells k j w =
    let bend : IsBend w.behind (point_of value p) (point_of value x) b = tells w.behind (point_of value p) (point_of value x) w.edge k in
    record {
      behind = point_of value p;
      passed = w.passed + 1;
      counted = omega (arith, w.counted);
      edge = k;
      bending = bending_on (contour_of value cs) seen b both w.passed w.behind (point_of value p) (point_of value x) (contour_of value (drop (i + 1) cs))
          (differ w.behind (point_of value p) (point_of value x) b bend a) bend j
          (subst (Bending (contour_of value cs) seen w.passed w.behind (point_of value p)) (rest-read value cs i x h r) w.bending);
    }

-- a bend that doesn't join `seen` makes the contour not convex
pub clash_item : {I : Type 0} (value : I → ℤ) (cs : List (IntPoint I)) (seen b : Bend) (repeats i : ℕ) (e n : Point) (p x : IntPoint I) → i < length cs → x ≡ get_or cs i x
    → (b ≡ Straight → is_same (point_of value p) (point_of value x) ≡ false) → TellsBend e n b → n ≡ vector (point_of value p) (point_of value x) → bend_of_both seen b ≡ None
    → IsBending value cs seen repeats i e (point_of value p) → IsTrue false ↔ Convex (contour_of value cs)
clash_item value cs seen b repeats i e n p x h r a tells k j w =
    let bend : IsBend w.behind (point_of value p) (point_of value x) b = tells w.behind (point_of value p) (point_of value x) w.edge k in (
      λ t. absurd (cc),
      λ s. absurd (bending_clash (contour_of value cs) seen b w.passed w.behind (point_of value p) (point_of value x) (contour_of value (drop (i + 1) cs))
          (differ w.behind (point_of value p) (point_of value x) b bend a) bend j
          (subst (Bending (contour_of value cs) seen w.passed w.behind (point_of value p)) (rest-read value cs i x h r) w.bending) s),
    )

-- after the last point, the contour is convex exactly if at most two points aren't repeats, or `seen` isn't Reversal
pub bending_over : {I : Type 0} (value : I → ℤ) (cs : List (IntPoint I)) (seen : Bend) (repeats i : ℕ) (e p : Point) → i ≡ length cs
    → IsBending value cs seen repeats i e p → (repeats ≤ length cs) × (((length cs - repeats ≤ 2) ⊎ (seen ≢ Reversal)) ↔ Convex (contour_of value cs))
bending_over value cs seen repeats i e p h w =
    let n : w.passed ≡ length cs - repeats = omega (arith, w.counted, h) in (
      omega (arith, w.counted, h),
      subst (λ (m : ℕ). ((m ≤ 2) ⊎ (seen ≢ Reversal)) ↔ Convex (contour_of value cs)) n
          (bending_end (contour_of value cs) seen w.passed w.behind p (subst (Bending (contour_of value cs) seen w.passed w.behind p) (rest-none value cs i (omega (arith, h))) w.bending)),
    )

-- `leb m 2` is true exactly if m is at most 2
pub few_tells : (m : ℕ) → IsTrue (leb m 2) ↔ (m ≤ 2)
few_tells m = grind (arith, tests)

-- a contour without points is convex
pub convex_without : {I : Type 0} (value : I → ℤ) (cs : List (IntPoint I)) → length cs ≤ 0 → IsTrue true ↔ Convex (contour_of value cs)
unfolding dedup
convex_without value [] h = (λ t. inl (omega arith), λ s. refl)
convex_without value (x ∷ xs) h = absurd (omega arith)

-- a contour in which no point differs from the last is convex
pub convex_alike : {I : Type 0} (value : I → ℤ) (cs : List (IntPoint I)) (last : IntPoint I) → 0 < length cs → last ≡ get_or cs (length cs - 1) last
    → None ≡ found_differing value last cs → IsTrue true ↔ Convex (contour_of value cs)
convex_alike value cs last h e f = (λ t. inl (few (length (dedup (contour_of value cs))) (few_differ value cs last h e f)), λ s. refl)
  where
    few : (m : ℕ) → (3 ≤ m → ⊥) → m ≤ 2
    few m n = elim (few_or_more m) [ inl k ↦ k | inr k ↦ absurd (n k) ]
