-- Rising places of a list, and the items at them.
use Rattle.std.proofs.Common.{◌≡◌, ◌∙◌, ◌+◌, ◌<◌, ℕ, zero, suc, List, [], ◌∷◌, ◌++◌, map, take, drop, length, get_or, slice_get, Option, Some, None, inl, inr, refl, sym, ap, subst, arith, Bor, IfSome}
use Rattle.std.specs.List.{All, range_with_len}
use Rattle.std.proofs.lemmas.List.Elements.{All-head, All-tail, All-cons}
use Rattle.std.proofs.lemmas.List.FromFn.{length-range_with_len, get_or-range_with_len, fill_by_all}
use Rattle.std.proofs.lemmas.List.{length-map}
use Rattle.i_shape_core.proofs.Common.{Sublist, RisingPlaces}
use Rattle.i_shape_core.proofs.Walks.Gaps.{range_push}
use Rattle.i_shape_core.proofs.Lists.Sublists.{sublist_refl, sublist_trans, sublist_none}

front_of : {A : Type 0} (k : ℕ) (c : List A) → Sublist c (take k c)
front_of zero c = sublist_none c
front_of (suc k) [] = refl
front_of (suc k) (a ∷ c) = inr (take k c, refl, front_of k c)

rest_of : {A : Type 0} (k : ℕ) (c : List A) → Sublist c (drop k c)
rest_of zero c = sublist_refl c
rest_of (suc k) [] = refl
rest_of (suc k) (a ∷ c) = inl (rest_of k c)

longer : {A : Type 0} (c d more : List A) → Sublist c d → Sublist (c ++ more) (d ++ more)
longer [] d more h = subst (λ l. Sublist more (l ++ more)) (sym h) (sublist_refl more)
longer (a ∷ c) d more (inl h) = inl (longer c d more h)
longer (a ∷ c) d more (inr h) = inr (h.0 ++ more, ap (λ l. l ++ more) h.1, longer c h.0 more h.2)

-- if Q holds of each item of a list, it holds of each item of a sublist
sublist_each : {A : Type 0} (Q : A → Type 0) (c d : List A) → Sublist c d → All Q c → All Q d
sublist_each Q [] d h all = subst (All Q) (sym h) all
sublist_each Q (a ∷ c) d (inl h) all = sublist_each Q c d h (All-tail Q a c all)
sublist_each Q (a ∷ c) d (inr h) all = subst (All Q) (sym h.1) (All-cons Q a h.0 (All-head Q a c all) (sublist_each Q c h.0 h.2 (All-tail Q a c all)))

-- all places rise
pub rising_all : (n : ℕ) → RisingPlaces n (range_with_len 0 n)
rising_all n = sublist_refl (range_with_len 0 n)

-- the first k of rising places rise
pub rising_front : (n k : ℕ) (places : List ℕ) → RisingPlaces n places → RisingPlaces n (take k places)
rising_front n k places rising = sublist_trans (range_with_len 0 n) places (take k places) rising (front_of k places)

pub rising_rest : (n k : ℕ) (places : List ℕ) → RisingPlaces n places → RisingPlaces n (drop k places)
rising_rest n k places rising = sublist_trans (range_with_len 0 n) places (drop k places) rising (rest_of k places)

-- appending the next place keeps places rising
pub rising_push : (n : ℕ) (places : List ℕ) → RisingPlaces n places → RisingPlaces (n + 1) (places ++ n ∷ [])
rising_push n places rising =
    let next : suc n ≡ n + 1 = omega arith in
    let here : 0 + n ≡ n = omega arith in
    let more : range_with_len 0 n ++ n ∷ [] ≡ range_with_len 0 (n + 1) = ap (λ (k : ℕ). range_with_len 0 n ++ k ∷ []) (sym here) ∙ sym (range_push 0 n) ∙ ap (range_with_len 0) next in
    subst (λ l. Sublist l (places ++ n ∷ [])) more (longer (range_with_len 0 n) places (n ∷ []) rising)

-- removing a place keeps places rising
pub rising_without : (n : ℕ) (before : List ℕ) (place : ℕ) (after : List ℕ) → RisingPlaces n (before ++ place ∷ after) → RisingPlaces n (before ++ after)
rising_without n before place after rising = sublist_trans (range_with_len 0 n) (before ++ place ∷ after) (before ++ after) rising (one_out before)
  where
    one_out : (front : List ℕ) → Sublist (front ++ place ∷ after) (front ++ after)
    one_out [] = inl (sublist_refl after)
    one_out (k ∷ front) = inr (front ++ after, refl, one_out front)

-- rising places are below n
pub rising_below : (n : ℕ) (places : List ℕ) → RisingPlaces n places → All (λ k. k < n) places
rising_below n places rising =
    sublist_each (λ k. k < n) (range_with_len 0 n) places rising
    (λ k d h. let many = length-range_with_len 0 n in let here = get_or-range_with_len 0 n k d (omega arith) in omega (arith, here))

-- the same of places that may be missing
pub each_rising_below : (n : ℕ) (left : Option (Bor (List ℕ))) → IfSome left (λ places. RisingPlaces n places.now) → IfSome left (λ places. All (λ k. k < n) places.now)
each_rising_below n None rising = tt
each_rising_below n (Some places) rising = rising_below n places.now rising

sublist_map : {A B : Type 0} (f : A → B) (c d : List A) → Sublist c d → Sublist (map f c) (map f d)
sublist_map f [] d h = ap (map f) h
sublist_map f (a ∷ c) d (inl h) = inl (sublist_map f c d h)
sublist_map f (a ∷ c) d (inr h) = inr (map f h.0, ap (map f) h.1, sublist_map f c h.0 h.2)

-- the items, each in `Some`
abbrev there : {A : Type 0} → List A → List (Option A)
there list = map (λ a. Some a) list

sublist_there : {A : Type 0} (c d : List A) → Sublist (there c) (there d) → Sublist c d
sublist_there [] [] h = refl
sublist_there [] (b ∷ d) h = let e : there (b ∷ d) ≡ [] = h in absurd (cc)
sublist_there (a ∷ c) d (inl h) = inl (sublist_there c d h)
sublist_there (a ∷ c) [] (inr h) = let e = h.1 in absurd (cc)
sublist_there (a ∷ c) (b ∷ d) (inr h) =
    let e : Some b ∷ there d ≡ Some a ∷ h.0 = h.1 in
    let same : b ≡ a = cc in
    let others : h.0 ≡ there d = cc in
    inr (d, ap (λ x. x ∷ d) same, sublist_there c d (subst (Sublist (there c)) others h.2))

there_at : {A : Type 0} (c : List A) (k : ℕ) → k < length c → get_or (there c) k None ≡ slice_get c k
there_at [] k h = absurd (omega arith)
there_at (a ∷ c) zero h = refl
there_at (a ∷ c) (suc k) h = there_at c k (omega arith)

-- the items at rising places are a sublist
pub picked_at : {A : Type 0} (c items : List A) (places : List ℕ) → RisingPlaces (length c) places → map (λ a. Some a) items ≡ map (slice_get c) places → Sublist c items
picked_at c items places rising at =
    let whole : there c ≡ map (slice_get c) (range_with_len 0 (length c)) =
    fill_by_all (slice_get c) (there c) (length c) None (length-map c (λ a. Some a)) (λ k h. there_at c k h) in
    let parts : Sublist (map (slice_get c) (range_with_len 0 (length c))) (map (slice_get c) places) = sublist_map (slice_get c) (range_with_len 0 (length c)) places rising in
    sublist_there c items (subst (λ l. Sublist (there c) l) (sym at) (subst (λ l. Sublist l (map (slice_get c) places)) (sym whole) parts))
