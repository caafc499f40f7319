-- What comparing lists of the program's points returns.
use Rattle.std.proofs.Common.{◌≡◌, ◌≢◌, ◌↔◌, ◌<◌, ℕ, Bool, true, false, IsTrue, MatchBool, Decides, List, [], ◌∷◌}
use Rattle.std.proofs.Common.{Contains, HoldsAt, length, get_or, map, refl, sym, ◌∙◌, arith}
use Rattle.std.specs.List.{AllWithin}
use Rattle.std.specs.Cmp.Lexicographic.{pointwise}
use Rattle.std.proofs.lemmas.Bool.Decides.{Decides-and, Decides-like}
use Rattle.std.proofs.lemmas.Iterator.Search.{true_from_Any}
use Rattle.std.proofs.lemmas.List.{get_or-map, length-map}
use Rattle.std.proofs.lemmas.List.Elements.{Contains-get_or}

-- if E decides whether two members have equal images under f, comparing lists by E decides whether the mapped lists are
-- equal
pub lists_decided : {X Y : Type 0} (E : X → X → Bool) (f : X → Y) → ((a b : X) → Decides (E a b) (f a ≡ f b))
    → (xs ys : List X) → Decides (pointwise E xs ys) (map f xs ≡ map f ys)
lists_decided E f decides [] [] = (λ _. refl, λ _. refl)
lists_decided E f decides [] (y ∷ ys) = (λ e. absurd (cc), λ e. absurd (cc))
lists_decided E f decides (x ∷ xs) [] = (λ e. absurd (cc), λ e. absurd (cc))
lists_decided {X} {Y} E f decides (x ∷ xs) (y ∷ ys) =
    Decides-like _ to from (Decides-and (E x y) (pointwise E xs ys) (decides x y) (lists_decided E f decides xs ys))
  where
    to : (f x ≡ f y) × (map f xs ≡ map f ys) → f x ∷ map f xs ≡ f y ∷ map f ys
    to h = let e = h.0 in let g = h.1 in cc

    from : f x ∷ map f xs ≡ f y ∷ map f ys → (f x ≡ f y) × (map f xs ≡ map f ys)
    from e = (cc, cc)

-- f x = y for some member x exactly if the mapped list contains y
pub told_of_mapped : {X Y : Type 0} (f : X → Y) (xs : List X) (y : Y) (r : Bool)
    → MatchBool r ((k : ℕ) × (k < length xs) × HoldsAt (λ x. f x ≡ y) xs k) (AllWithin (λ x. f x ≢ y) xs 0 (length xs))
    → IsTrue r ↔ Contains (map f xs) y
told_of_mapped {X} {Y} f xs y r cases = (to r cases, from)
  where
    at : (zs : List X) (k : ℕ) → k < length zs → ((d : X) → f (get_or zs k d) ≡ y) → get_or (map f zs) k y ≡ y
    at [] k within holds = absurd (omega (arith, within))
    at (z ∷ zs) k within holds = get_or-map f (z ∷ zs) k z y within ∙ holds z

    to : (r : Bool) → MatchBool r ((k : ℕ) × (k < length xs) × HoldsAt (λ x. f x ≡ y) xs k) (AllWithin (λ x. f x ≢ y) xs 0 (length xs))
        → IsTrue r → Contains (map f xs) y
    to true (k, within, holds) t = (k, omega (arith, within, length-map xs f), at xs k within holds)
    to false none t = absurd (cc)

    among : (zs : List X) (k : ℕ) → k < length zs → get_or (map f zs) k y ≡ y → (x : X) × Contains zs x × (f x ≡ y)
    among [] k within is = absurd (omega (arith, within))
    among (z ∷ zs) k within is =
        (get_or (z ∷ zs) k z, Contains-get_or (z ∷ zs) k z within, sym (get_or-map f (z ∷ zs) k z y within) ∙ is)

    from : Contains (map f xs) y → IsTrue r
    from (k, within, is) =
        let x = among xs k (omega (arith, within, length-map xs f)) is in
        true_from_Any (λ x. f x ≡ y) (λ x. f x ≢ y) r xs (λ x same other. other same) cases x.0 x.1 x.2
