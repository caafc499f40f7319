-- A ring kept in one list with a gap.
use Rattle.std.proofs.Common.{◌≡◌, ◌≢◌, max, ℕ, zero, suc, ◌+◌, ◌-◌, ◌<◌, ◌≤◌, ◌⊎◌, inl, inr, cond, nat_lt, List, [], ◌∷◌, ◌++◌, length, get_or, set, take, drop, refl, sym, ap, ◌∙◌, arith, append_assoc, append-nil, length-append, length-take, length-drop, drop-cons, take-suc, take_at, take_all, get_or-append-add}
use Rattle.std.proofs.lemmas.List.{drop-set-lt, drop-set, take-set-le, drop-append-le, take-append-le, drop_all, get_or-take, drop-take}
use Rattle.std.proofs.lemmas.List.Edits.{take-paste}
use Rattle.std.specs.List.{copy_within, range_with_len}
use Rattle.std.proofs.Math.Seq.{take-set-lt, take-suc-set}
use Rattle.std.proofs.lemmas.Bool.{cases_lt}
use Rattle.i_shape_core.specs.Steps.Walks.{PlacedRing, LeadKept, LeadRemoved, around_gap, lead_over_gap, from_contour_first}

-- the length of the ring
pub length-gap : (xs : List ℕ) (b a e : ℕ) → b ≤ a → a < e → e ≤ length xs → length (around_gap xs b a e) ≡ b + (e - a)
unfolding around_gap
length-gap xs b a e h k l = omega (arith, length-append (drop a (take e xs)) (take b xs), length-drop a (take e xs), length-take e xs, length-take b xs)

-- the ring's first item is at `ahead`
gap_cons : (xs : List ℕ) (b a e : ℕ) → a < e → e ≤ length xs → around_gap xs b a e ≡ get_or xs a 0 ∷ (drop (suc a) (take e xs) ++ take b xs)
unfolding around_gap
gap_cons xs b a e k l =
    let t : a < length (take e xs) = omega (arith, length-take e xs) in
    let d : drop a (take e xs) ≡ get_or (take e xs) a 0 ∷ drop (suc a) (take e xs) = drop-cons (take e xs) a 0 t in
    let g : get_or (take e xs) a 0 ≡ get_or xs a 0 = get_or-take e xs a 0 k in
    cc

-- the ring's first item is the list's item at `ahead`
pub gap_first : (xs : List ℕ) (b a e : ℕ) → a < e → e ≤ length xs → get_or (around_gap xs b a e) 0 0 ≡ get_or xs a 0
gap_first xs b a e k l = ap (λ (r : List ℕ). get_or r 0 0) (gap_cons xs b a e k l)

-- if the first part has two items, the ring's second follows its first in the list
pub gap_second : (xs : List ℕ) (b a e : ℕ) → a + 1 < e → e ≤ length xs → get_or (around_gap xs b a e) 1 0 ≡ get_or xs (a + 1) 0
gap_second xs b a e k l =
    let t : suc a < length (take e xs) = omega (arith, length-take e xs) in
    let d : drop (suc a) (take e xs) ≡ get_or (take e xs) (suc a) 0 ∷ drop (suc (suc a)) (take e xs) = drop-cons (take e xs) (suc a) 0 t in
    let g : get_or (take e xs) (suc a) 0 ≡ get_or xs (suc a) 0 = get_or-take e xs (suc a) 0 (omega arith) in
    let s : suc a ≡ a + 1 = omega arith in
    ap (λ (r : List ℕ). get_or r 1 0) (gap_cons xs b a e (omega arith) l) ∙ (ap (λ (r : List ℕ). get_or (r ++ take b xs) 0 0) d ∙ (g ∙ ap (λ (i : ℕ). get_or xs i 0) s))

-- if the first part has one item, the ring's second is the list's first
pub gap_second-behind : (xs : List ℕ) (b a e : ℕ) → 0 < b → e ≡ a + 1 → e ≤ length xs → get_or (around_gap xs b a e) 1 0 ≡ get_or xs 0 0
gap_second-behind xs b a e h k l =
    let d : drop (suc a) (take e xs) ≡ [] = drop_all (suc a) (take e xs) (omega (arith, length-take e xs)) in
    ap (λ (r : List ℕ). get_or r 1 0) (gap_cons xs b a e (omega arith) l) ∙ (ap (λ (r : List ℕ). get_or (r ++ take b xs) 0 0) d ∙ get_or-take b xs 0 0 h)

-- a ring by its first item, those between, and its last
abbrev IsBetween : List ℕ → ℕ → List ℕ → ℕ → Type 0
IsBetween ring first between last = ring ≡ first ∷ (between ++ last ∷ [])

gap_behind : (xs : List ℕ) (b a e : ℕ) → a < e → e ≤ length xs → suc b ≤ a → IsBetween (around_gap xs (suc b) a e) (get_or xs a 0) (drop (suc a) (take e xs) ++ take b xs) (get_or xs b 0)
gap_behind xs b a e k l h =
    let c = gap_cons xs (suc b) a e k l in
    let t : take (suc b) xs ≡ take b xs ++ get_or xs b 0 ∷ [] = take-suc xs b 0 (omega arith) in
    cc (append_assoc (drop (suc a) (take e xs)) (take b xs) (get_or xs b 0 ∷ []))

gap_end : (xs : List ℕ) (a e : ℕ) → a < e → suc e ≤ length xs → IsBetween (around_gap xs 0 a (suc e)) (get_or xs a 0) (drop (suc a) (take e xs)) (get_or xs e 0)
gap_end xs a e k l =
    let c = gap_cons xs 0 a (suc e) (omega arith) l in
    let t : take (suc e) xs ≡ take e xs ++ get_or xs e 0 ∷ [] = take-suc xs e 0 (omega arith) in
    let d : drop (suc a) (take e xs ++ get_or xs e 0 ∷ []) ≡ drop (suc a) (take e xs) ++ get_or xs e 0 ∷ [] = drop-append-le (suc a) (take e xs) (get_or xs e 0 ∷ []) (omega (arith, length-take e xs)) in
    let n : (drop (suc a) (take (suc e) xs) ++ []) ≡ drop (suc a) (take (suc e) xs) = append-nil (drop (suc a) (take (suc e) xs)) in
    cc

between_length : (ring : List ℕ) (p : ℕ) (q : List ℕ) (z : ℕ) → IsBetween ring p q z → length ring ≡ suc (length q) + 1
between_length ring p q z e = omega (arith, ap length e, length-append q (z ∷ []))

between_last : (ring : List ℕ) (p : ℕ) (q : List ℕ) (z : ℕ) → IsBetween ring p q z → get_or ring (length ring - 1) 0 ≡ z
between_last ring p q z e =
    let n : length ring - 1 ≡ length (p ∷ q) + 0 = omega (arith, between_length ring p q z e) in
    ap (λ (r : List ℕ). get_or r (length ring - 1) 0) e ∙ (ap (λ (i : ℕ). get_or ((p ∷ q) ++ z ∷ []) i 0) n ∙ get_or-append-add (p ∷ q) (z ∷ []) 0 0)

between_rest : (ring : List ℕ) (p : ℕ) (q : List ℕ) (z : ℕ) → IsBetween ring p q z → drop 1 (take (length ring - 1) ring) ≡ q
between_rest ring p q z e =
    let n : length ring - 1 ≡ length (p ∷ q) = omega (arith, between_length ring p q z e) in
    ap (λ (i : ℕ). drop 1 (take i ring)) n ∙ (ap (λ (r : List ℕ). drop 1 (take (length (p ∷ q)) r)) e ∙ ap (drop 1) (take_at (p ∷ q) (z ∷ []) (length (p ∷ q)) refl))

-- if there is a second part, the ring's last item is the last of that part
pub gap_last-behind : (xs : List ℕ) (b a e : ℕ) → a < e → e ≤ length xs → 0 < b → b ≤ a → get_or (around_gap xs b a e) (length (around_gap xs b a e) - 1) 0 ≡ get_or xs (b - 1) 0
gap_last-behind xs zero a e k l o h = absurd (omega arith)
gap_last-behind xs (suc b) a e k l o h =
    let s : b ≡ suc b - 1 = omega arith in
    between_last (around_gap xs (suc b) a e) (get_or xs a 0) (drop (suc a) (take e xs) ++ take b xs) (get_or xs b 0) (gap_behind xs b a e k l h) ∙ ap (λ (i : ℕ). get_or xs i 0) s

-- without a second part, the ring's last item is the last of the first part
pub gap_last-end : (xs : List ℕ) (b a e : ℕ) → a < e → e ≤ length xs → b ≡ 0 → get_or (around_gap xs b a e) (length (around_gap xs b a e) - 1) 0 ≡ get_or xs (e - 1) 0
gap_last-end xs b a zero k l o = absurd (omega arith)
gap_last-end xs b a (suc e) k l o = rw o (go (cases_lt a e))
  where
    s : e ≡ suc e - 1
    s = omega arith

    go : (a < e) ⊎ (e ≤ a) → get_or (around_gap xs 0 a (suc e)) (length (around_gap xs 0 a (suc e)) - 1) 0 ≡ get_or xs (suc e - 1) 0
    go (inl m) = between_last (around_gap xs 0 a (suc e)) (get_or xs a 0) (drop (suc a) (take e xs)) (get_or xs e 0) (gap_end xs a e m l) ∙ ap (λ (i : ℕ). get_or xs i 0) s
    go (inr m) =
        let same : a ≡ e = omega arith in
        let one : length (around_gap xs 0 a (suc e)) - 1 ≡ 0 = omega (arith, length-gap xs 0 a (suc e) (omega arith) k l) in
        ap (λ (i : ℕ). get_or (around_gap xs 0 a (suc e)) i 0) one ∙ (gap_first xs 0 a (suc e) k l ∙ ap (λ (i : ℕ). get_or xs i 0) (same ∙ s))

-- keeping the walk's place moves it to the end of the ring
pub gap_kept : (xs : List ℕ) (b a e x : ℕ) → b ≤ a → a < e → e ≤ length xs → x ≡ get_or xs a 0
    → around_gap (set xs b x) (b + 1) (a + 1) e ≡ drop 1 (around_gap xs b a e) ++ get_or (around_gap xs b a e) 0 0 ∷ []
unfolding around_gap
gap_kept xs b a e x h k l f =
    let one : (n : ℕ) → n + 1 ≡ suc n = λ n. omega arith in
    let t : take (suc b) (set xs b x) ≡ take b xs ++ x ∷ [] = take-suc-set xs b x (omega arith) in
    let u : take e (set xs b x) ≡ set (take e xs) b x = take-set-lt e xs b x (omega arith) in
    let v : drop (suc a) (set (take e xs) b x) ≡ drop (suc a) (take e xs) = drop-set-lt (suc a) (take e xs) b x (omega arith) in
    let c = gap_cons xs b a e k l in
    let r : drop 1 (around_gap xs b a e) ≡ drop (suc a) (take e xs) ++ take b xs = ap (drop 1) c in
    let g : get_or (around_gap xs b a e) 0 0 ≡ x = gap_first xs b a e k l ∙ sym f in
    let i = one a in
    let j = one b in
    cc (append_assoc (drop (suc a) (take e xs)) (take b xs) (x ∷ []))

-- if the first part is empty, the second becomes the first
pub gap_rotated : (xs : List ℕ) (b a e : ℕ) → a ≡ e → around_gap xs 0 0 b ≡ around_gap xs b a e
unfolding around_gap
gap_rotated xs b a e f =
    let d : drop a (take e xs) ≡ [] = drop_all a (take e xs) (omega (arith, length-take e xs)) in
    append-nil (take b xs) ∙ sym (ap (λ (r : List ℕ). r ++ take b xs) d)

-- removing the walk's place puts the ring's last item, taken from the second part, in front
pub gap_removed-behind : (xs : List ℕ) (b a e x : ℕ) → 0 < b → b ≤ a → a < e → e ≤ length xs → x ≡ get_or (around_gap xs b a e) (length (around_gap xs b a e) - 1) 0
    → around_gap (set xs a x) (b - 1) a e ≡ get_or (around_gap xs b a e) (length (around_gap xs b a e) - 1) 0 ∷ drop 1 (take (length (around_gap xs b a e) - 1) (around_gap xs b a e))
unfolding around_gap
gap_removed-behind xs zero a e x o h k l f = absurd (omega arith)
gap_removed-behind xs (suc b) a e x o h k l f =
    let s : suc b - 1 ≡ b = omega arith in
    let u : take e (set xs a x) ≡ set (take e xs) a x = take-set-lt e xs a x k in
    let v : drop a (set (take e xs) a x) ≡ x ∷ drop (a + 1) (take e xs) = drop-set (take e xs) a x (omega (arith, length-take e xs)) in
    let w : take b (set xs a x) ≡ take b xs = take-set-le b xs a x (omega arith) in
    let r = between_rest (around_gap xs (suc b) a e) (get_or xs a 0) (drop (suc a) (take e xs) ++ take b xs) (get_or xs b 0) (gap_behind xs b a e k l h) in
    let i : a + 1 ≡ suc a = omega arith in
    cc

-- without a second part, removing the walk's place puts the ring's last item, taken from the first part, in front
pub gap_removed-end : (xs : List ℕ) (b a e x : ℕ) → b ≡ 0 → a + 1 < e → e ≤ length xs → x ≡ get_or (around_gap xs b a e) (length (around_gap xs b a e) - 1) 0
    → around_gap (set xs a x) b a (e - 1) ≡ get_or (around_gap xs b a e) (length (around_gap xs b a e) - 1) 0 ∷ drop 1 (take (length (around_gap xs b a e) - 1) (around_gap xs b a e))
unfolding around_gap
gap_removed-end xs b a zero x o k l f = absurd (omega arith)
gap_removed-end xs b a (suc e) x o k l f =
    let s : suc e - 1 ≡ e = omega arith in
    let u : take e (set xs a x) ≡ set (take e xs) a x = take-set-lt e xs a x (omega arith) in
    let v : drop a (set (take e xs) a x) ≡ x ∷ drop (a + 1) (take e xs) = drop-set (take e xs) a x (omega (arith, length-take e xs)) in
    let r = between_rest (around_gap xs 0 a (suc e)) (get_or xs a 0) (drop (suc a) (take e xs)) (get_or xs e 0) (gap_end xs a e (omega arith) l) in
    let i : a + 1 ≡ suc a = omega arith in
    let m = append-nil (drop a (take e (set xs a x))) in
    let z : take 0 (set xs a x) ≡ [] = refl in
    cc

-- the two cases of the lead, by whether b is below f
lead_cases : (n f b : ℕ) → ((b < f) × (lead_over_gap n f b ≡ f - b)) ⊎ ((f ≤ b) × (lead_over_gap n f b ≡ f + n - b))
unfolding lead_over_gap
lead_cases n f b = go (cases_lt b f)
  where
    go : (b < f) ⊎ (f ≤ b) → ((b < f) × (cond (nat_lt b f) (f - b) (f + n - b) ≡ f - b)) ⊎ ((f ≤ b) × (cond (nat_lt b f) (f - b) (f + n - b) ≡ f + n - b))
    go (inl h) = inl (h, grind arith)
    go (inr h) = inr (h, grind arith)

abbrev Lead : ℕ → ℕ → ℕ → ℕ → Type 0
Lead n f b l = ((b < f) × (l ≡ f - b)) ⊎ ((f ≤ b) × (l ≡ f + n - b))

-- the range of n + 1 places is that of n and then the last
pub range_push : (a n : ℕ) → range_with_len a (suc n) ≡ range_with_len a n ++ (a + n) ∷ []
range_push a zero = let e : a ≡ a + 0 = omega arith in ap (λ (i : ℕ). i ∷ []) e
range_push a (suc n) =
    let e : a + 1 + n ≡ a + suc n = omega arith in
    ap (λ (r : List ℕ). a ∷ r) (range_push (a + 1) n) ∙ ap (λ (i : ℕ). a ∷ (range_with_len (a + 1) n ++ i ∷ [])) e

-- the places below k, and then k, are those below k + 1
pub full_more : (xs ys : List ℕ) (k : ℕ) → xs ≡ range_with_len 0 k → ys ≡ xs ++ k ∷ [] → ys ≡ range_with_len 0 (k + 1)
full_more xs ys k e f =
    let p = range_push 0 k in
    let z : 0 + k ≡ k = omega arith in
    let s : k + 1 ≡ suc k = omega arith in
    f ∙ (ap (λ (r : List ℕ). r ++ k ∷ []) e ∙ (sym (p ∙ ap (λ (i : ℕ). range_with_len 0 k ++ i ∷ []) z) ∙ ap (range_with_len 0) (sym s)))

-- without a gap, the ring from place p on is the rotated list
pub starting_ring : (xs : List ℕ) (n k p u room kept : ℕ) → xs ≡ range_with_len 0 k → length xs ≡ k → n ≡ k → p < n → kept ≡ room
    → record { places = around_gap xs p p n; untested = u; lead = lead_over_gap (p + (n - p)) 0 p; room = kept }
    ≡ (let s : PlacedRing = record { places = drop p (range_with_len 0 n) ++ take p (range_with_len 0 n); untested = u; lead = n - p; room = room } in s)
unfolding around_gap
starting_ring xs n k p u room kept e l m h same =
    let t : take n xs ≡ xs = take_all n xs (omega arith) in
    let r : xs ≡ range_with_len 0 n = e ∙ ap (range_with_len 0) (sym m) in
    let a : drop p (take n xs) ++ take p xs ≡ drop p (range_with_len 0 n) ++ take p (range_with_len 0 n) = cc in
    let b : lead_over_gap (p + (n - p)) 0 p ≡ n - p = whole (lead_over_gap (p + (n - p)) 0 p) (lead_cases (p + (n - p)) 0 p) in
    let F : List ℕ → ℕ → ℕ → PlacedRing = λ q j m. record { places = q; untested = u; lead = j; room = m } in
    ap (λ (q : List ℕ). F q (lead_over_gap (p + (n - p)) 0 p) kept) a ∙ (ap (λ (j : ℕ). F (drop p (range_with_len 0 n) ++ take p (range_with_len 0 n)) j kept) b
    ∙ ap (F (drop p (range_with_len 0 n) ++ take p (range_with_len 0 n)) (n - p)) same)
  where
    whole : (l : ℕ) → Lead (p + (n - p)) 0 p l → l ≡ n - p
    whole l (inl x) = absurd (omega (arith, x.0))
    whole l (inr x) = omega (arith, x.1)

-- the lead once the walk's place is kept
pub kept_lead : (p n m f b b' : ℕ) → p ≡ n → m ≡ n → b < n → f < n → ((b + 1 < n) × (b' ≡ b + 1)) ⊎ ((b + 1 ≡ n) × (b' ≡ 0)) → LeadKept p (lead_over_gap n f b) (lead_over_gap m f b')
kept_lead p n m f b b' i j h g moved = go (lead_over_gap n f b) (lead_over_gap m f b') (lead_cases n f b) (lead_cases m f b')
  where
    go : (l k : ℕ) → Lead n f b l → Lead m f b' k → LeadKept p l k
    go l k x y = grind arith

-- where the contour's first is once the walk's place is removed, before it wraps round
abbrev pub IsMoved : ℕ → ℕ → ℕ → Type 0
IsMoved f b m = ((b ≡ 0) × (m ≡ max f 1)) ⊎ (((0 < b) × (b < f) × (m + 1 ≡ f)) ⊎ ((0 < b) × (f ≤ b) × (m ≡ f)))

-- the lead once the walk's place is removed
pub removed_lead : (n f b m f' : ℕ) → 0 < n → f ≤ n → b ≤ n → IsMoved f b m → ((m ≡ n) × (f' ≡ 0)) ⊎ ((m ≢ n) × (f' ≡ m)) → LeadRemoved (n + 1) (lead_over_gap (n + 1) f b) (lead_over_gap n f' (b - 1))
removed_lead n f b m f' o h g moved wrapped = go (lead_over_gap (n + 1) f b) (lead_over_gap n f' (b - 1)) moved wrapped (lead_cases (n + 1) f b) (lead_cases n f' (b - 1))
  where
    go : (l k : ℕ) → IsMoved f b m → ((m ≡ n) × (f' ≡ 0)) ⊎ ((m ≢ n) × (f' ≡ m)) → Lead (n + 1) f b l → Lead n f' (b - 1) k → LeadRemoved (n + 1) l k
    go l k (inl x) (inl y) z w = grind arith
    go l k (inl x) (inr y) z w = grind arith
    go l k (inr (inl x)) (inl y) z w = grind arith
    go l k (inr (inl x)) (inr y) z w = grind arith
    go l k (inr (inr x)) (inl y) z w = grind arith
    go l k (inr (inr x)) (inr y) z w = grind arith

-- the same for equal numbers
pub removed_told : (q f b f' b1 : ℕ) → LeadRemoved (q + 1) (lead_over_gap (q + 1) f b) (lead_over_gap q f' b1) → (p n m b2 : ℕ) → p ≡ q + 1 → n ≡ q + 1 → m ≡ q → b2 ≡ b1
    → LeadRemoved p (lead_over_gap n f b) (lead_over_gap m f' b2)
removed_told q f b f' b1 x p n m b2 i j k l = rw (i, j, k, l) x

-- closing the gap leaves the second part and then the first
gap_closed : (xs : List ℕ) (b a e : ℕ) → b ≤ a → a < e → e ≤ length xs → take (b + (e - a)) (copy_within xs a e b) ≡ take b xs ++ drop a (take e xs)
gap_closed xs b a e h k l =
    let n : e ≡ a + (e - a) = omega arith in
    let p : take (b + (e - a)) (copy_within xs a e b) ≡ take b xs ++ take (e - a) (drop a xs) = take-paste xs b (drop a xs) (e - a) (omega arith) (omega (arith, length-drop a xs)) in
    let d : drop a (take (a + (e - a)) xs) ≡ take (e - a) (drop a xs) = drop-take a (e - a) xs in
    let s : drop a (take e xs) ≡ drop a (take (a + (e - a)) xs) = ap (λ (i : ℕ). drop a (take i xs)) n in
    p ∙ ap (λ (r : List ℕ). take b xs ++ r) (sym (s ∙ d))

drop_past : (x y : List ℕ) (m : ℕ) → drop (length x + m) (x ++ y) ≡ drop m y
drop_past [] y m = let e : 0 + m ≡ m = omega arith in ap (λ (i : ℕ). drop i y) e
drop_past (p ∷ x) y m = let e : suc (length x) + m ≡ suc (length x + m) = omega arith in ap (λ (i : ℕ). drop i (p ∷ (x ++ y))) e ∙ drop_past x y m

take_past : (x y : List ℕ) (m : ℕ) → take (length x + m) (x ++ y) ≡ x ++ take m y
take_past [] y m = let e : 0 + m ≡ m = omega arith in ap (λ (i : ℕ). take i y) e
take_past (p ∷ x) y m = let e : suc (length x) + m ≡ suc (length x + m) = omega arith in ap (λ (i : ℕ). take i (p ∷ (x ++ y))) e ∙ ap (λ (r : List ℕ). p ∷ r) (take_past x y m)

-- rotating x ++ y within y is rotating y ++ x
rotated_within : (x y : List ℕ) (f : ℕ) → length x ≤ f → f ≤ length x + length y → drop f (x ++ y) ++ take f (x ++ y) ≡ from_contour_first (y ++ x) (f - length x)
rotated_within x y f h k =
    let m : ℕ = f - length x in
    let n : f ≡ length x + m = omega arith in
    let d : drop (length x + m) (x ++ y) ≡ drop m y = drop_past x y m in
    let t : take (length x + m) (x ++ y) ≡ x ++ take m y = take_past x y m in
    let u : drop m (y ++ x) ≡ drop m y ++ x = drop-append-le m y x (omega arith) in
    let v : take m (y ++ x) ≡ take m y = take-append-le m y x (omega arith) in
    rw n (cc (append_assoc (drop m y) x (take m y)))

rotated_before : (x y : List ℕ) (f : ℕ) → f ≤ length x → drop f (x ++ y) ++ take f (x ++ y) ≡ from_contour_first (y ++ x) (length y + f)
rotated_before x y f h =
    let d : drop f (x ++ y) ≡ drop f x ++ y = drop-append-le f x y h in
    let t : take f (x ++ y) ≡ take f x = take-append-le f x y h in
    let u : drop (length y + f) (y ++ x) ≡ drop f x = drop_past y x f in
    let v : take (length y + f) (y ++ x) ≡ y ++ take f x = take_past y x f in
    cc (append_assoc (drop f x) y (take f x))

-- closing the gap and rotating to the contour's first returns the ring in the order of the contour
pub gap_from_contour_first : (xs ys : List ℕ) (b a e f : ℕ) → b ≤ a → a < e → e ≤ length xs → f < b + (e - a) → ys ≡ take (b + (e - a)) (copy_within xs a e b)
    → drop f ys ++ take f ys ≡ from_contour_first (around_gap xs b a e) (lead_over_gap (b + (e - a)) f b)
unfolding around_gap
gap_from_contour_first xs ys b a e f h k l g i = rw (i ∙ gap_closed xs b a e h k l) (go (lead_over_gap (b + (e - a)) f b) (lead_cases (b + (e - a)) f b))
  where
    x : List ℕ
    x = take b xs

    y : List ℕ
    y = drop a (take e xs)

    go : (m : ℕ) → Lead (b + (e - a)) f b m → drop f (take b xs ++ drop a (take e xs)) ++ take f (take b xs ++ drop a (take e xs)) ≡ from_contour_first (drop a (take e xs) ++ take b xs) m
    go m (inl c) =
        let n : m ≡ f - length x = omega (arith, c.1, length-take b xs) in
        rw n (rotated_within x y f (omega (arith, c.0, length-take b xs)) (omega (arith, length-take b xs, length-drop a (take e xs), length-take e xs)))
    go m (inr c) =
        let n : m ≡ length y + f = omega (arith, c.1, length-drop a (take e xs), length-take e xs) in
        rw n (rotated_before x y f (omega (arith, c.0, length-take b xs)))
