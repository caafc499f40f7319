-- Reading the program's points as a contour.
use Rattle.std.proofs.Common.{◌≡◌, ◌↔◌, Bool, false, IsTrue, ℕ, suc, Some, slice_get, map, take, ◌++◌, ◌+◌, ◌<◌, ◌≤◌, ℤ, List, [], ◌∷◌, length, drop, get_or, ap, subst, sym, ◌∙◌, refl, arith, add-one, ◌&&◌, Decides, drop-cons, take-suc, All}
use Rattle.std.proofs.lemmas.List.{get_or-map, length-map, map-append, drop_all}
use Rattle.std.proofs.lemmas.Bool.Decides.{Decides-and, Decides-like}
use Rattle.std.proofs.lemmas.Option.{slice_get-get_or, slice_get_within, get_or_from_slice_get}
use Rattle.std.proofs.lemmas.List.Elements.{All-get_or}
use Rattle.std.specs.Int.{Width}
use Rattle.i_shape_core.proofs.Common.{point_at, point_of, contour_of, IsSafe, origin, IntPoint}

-- reading the point at index k of a list is reading index k of the contour
pub read-point : {I : Type 0} (value : I → ℤ) (xs : List (IntPoint I)) (k : ℕ) (p : IntPoint I) → k < length xs → p ≡ get_or xs k p
    → point_of value p ≡ point_at (contour_of value xs) k
read-point value xs k p within read =
    ap (point_of value) read ∙ sym (get_or-map (point_of value) xs k p origin within)

-- a contour has as many points as the program's list
pub length-contour : {I : Type 0} (value : I → ℤ) (xs : List (IntPoint I)) → length (contour_of value xs) ≡ length xs
length-contour value xs = length-map xs (point_of value)

-- Rules for the tactics of functions.
pub ruleset counted = (length-contour)

-- the point at each index of a safe list is safe
pub safe-at : {I : Type 0} (w : Width) (value : I → ℤ) (xs : List (IntPoint I)) (k : ℕ) (d : IntPoint I) → All (IsSafe w) (contour_of value xs)
    → k < length xs → IsSafe w (point_of value (get_or xs k d))
safe-at w value xs k d safe within =
    let e : get_or (contour_of value xs) k origin ≡ point_of value (get_or xs k d) = get_or-map (point_of value) xs k d origin within in
    let long : k < length (contour_of value xs) = omega (arith, length-contour value xs) in
    subst (IsSafe w) e (All-get_or (IsSafe w) (contour_of value xs) k origin long safe)

-- a point that is read from a safe list is safe
pub read-safe : {I : Type 0} (w : Width) (value : I → ℤ) (xs : List (IntPoint I)) (k : ℕ) (p : IntPoint I) → All (IsSafe w) (contour_of value xs)
    → k < length xs → p ≡ get_or xs k p → IsSafe w (point_of value p)
read-safe w value xs k p safe within read =
    let long : k < length (contour_of value xs) = omega (arith, length-contour value xs) in
    subst (IsSafe w) (sym (read-point value xs k p within read)) (All-get_or (IsSafe w) (contour_of value xs) k origin long safe)

-- if the test returns false, Q doesn't hold
pub refuted_by_test : {P Q : Type 0} (b : Bool) → IsTrue b ↔ P → P ↔ Q → b ≡ false → ¬ Q
refuted_by_test b tells same never q = let t : IsTrue b = tells.1 (same.1 q) in absurd (cc)

-- points with equal coordinates are equal
pub points-same : {I : Type 0} (value : I → ℤ) → ((a b : I) → value a ≡ value b → a ≡ b) → (p q : IntPoint I)
    → value p.x ≡ value q.x → value p.y ≡ value q.y → p ≡ q
points-same {I} value one p q e f =
    let in_x : (i : I) → IntPoint I = λ i. record { x = i; y = p.y } in
    let in_y : (j : I) → IntPoint I = λ j. record { x = q.x; y = j } in
    ap in_x (one p.x q.x e) ∙ ap in_y (one p.y q.y f)

-- points whose coordinates compare equal represent the same point
pub points_decided : {I : Type 0} (value : I → ℤ) (E : I → I → Bool) → ((a b : I) → IsTrue (E a b) ↔ (value a ≡ value b))
    → (p q : IntPoint I) → Decides (E p.x q.x && E p.y q.y) (point_of value p ≡ point_of value q)
points_decided value E told p q =
    Decides-like _ (λ h. λ i. record { x = h.0 i; y = h.1 i }) (λ e. (ap (λ r. r.x) e, ap (λ r. r.y) e))
    (Decides-and (E p.x q.x) (E p.y q.y) (told p.x q.x) (told p.y q.y))

-- points whose coordinates compare equal are equal if each value represents one number
pub values_decided : {I : Type 0} (value : I → ℤ) (E : I → I → Bool) → ((a b : I) → IsTrue (E a b) ↔ (value a ≡ value b))
    → ((a b : I) → value a ≡ value b → a ≡ b) → (p q : IntPoint I) → Decides (E p.x q.x && E p.y q.y) (p ≡ q)
values_decided value E told one p q =
    Decides-like _ (λ e. points-same value one p q (ap (λ r. r.x) e) (ap (λ r. r.y) e)) (ap (point_of value)) (points_decided value E told p q)

-- a list from index k on is the item there and then the rest
pub drop-read : {A : Type 0} (xs : List A) (k : ℕ) (a : A) → k < length xs → a ≡ get_or xs k a → drop k xs ≡ a ∷ drop (k + 1) xs
drop-read {A} xs k a within read = rw (add-one k) (drop-cons xs k a within ∙ ap (λ (b : A). b ∷ drop (suc k) xs) (sym read))

-- a contour from index k on is the point there and then the rest
pub rest-read : {I : Type 0} (value : I → ℤ) (xs : List (IntPoint I)) (k : ℕ) (p : IntPoint I) → k < length xs → p ≡ get_or xs k p
    → contour_of value (drop k xs) ≡ point_of value p ∷ contour_of value (drop (k + 1) xs)
rest-read value xs k p within read = ap (contour_of value) (drop-read xs k p within read)

-- from its length on a contour is empty
pub rest-none : {I : Type 0} (value : I → ℤ) (xs : List (IntPoint I)) (k : ℕ) → length xs ≤ k → contour_of value (drop k xs) ≡ []
rest-none value xs k past = ap (contour_of value) (drop_all k xs past)

-- appending the point at the next place to those kept at the first i keeps those at i + 1
pub kept-more : {X : Type 0} (xs ps qs : List X) (places : List ℕ) (i : ℕ) (p : X) → map (λ q. Some q) ps ≡ map (slice_get xs) (take i places)
    → i < length places → get_or places i 0 < length xs → qs ≡ ps ++ get_or xs (get_or places i 0) p ∷ []
    → map (λ q. Some q) qs ≡ map (slice_get xs) (take (i + 1) places)
kept-more xs ps qs places i p before within inside e =
    let at : slice_get xs (get_or places i 0) ≡ Some (get_or xs (get_or places i 0) p) = slice_get-get_or xs (get_or places i 0) p inside in
    let longer : take (i + 1) places ≡ take i places ++ get_or places i 0 ∷ [] = ap (λ (n : ℕ). take n places) (add-one i) ∙ take-suc places i 0 within in
    ap (map (λ q. Some q)) e ∙ map-append (λ q. Some q) ps (get_or xs (get_or places i 0) p ∷ [])
    ∙ cc (map-append (slice_get xs) (take i places) (get_or places i 0 ∷ []))

-- the points kept at some places are the contour's points at those places
pub kept-contour : {I : Type 0} (value : I → ℤ) (xs ps : List (IntPoint I)) (places : List ℕ) → map (λ q. Some q) ps ≡ map (slice_get xs) places
    → contour_of value ps ≡ map (point_at (contour_of value xs)) places
kept-contour value xs [] [] e = refl
kept-contour value xs [] (k ∷ places) e = absurd (cc)
kept-contour value xs (p ∷ ps) [] e = absurd (cc)
kept-contour {I} value xs (p ∷ ps) (k ∷ places) e =
    let at : slice_get xs k ≡ Some p = cc in
    let rest : map (λ q. Some q) ps ≡ map (slice_get xs) places = cc in
    let point : point_at (contour_of value xs) k ≡ point_of value p =
    get_or-map (point_of value) xs k p origin (slice_get_within xs k p at) ∙ ap (point_of value) (get_or_from_slice_get xs k p p at) in
    cc (kept-contour value xs ps places rest)
