-- A loop over the paths that a resource lends, at the next path.
use Rattle.std.proofs.Common.{◌≡◌, ◌∙◌, ◌++◌, ◌+◌, ◌≤◌, List, ◌∷◌, map, length, Option, Some, refl, subst, ap, Bor, arith, length-append}
use Rattle.std.specs.Iterator.{Yields}
use Rattle.i_shape.proofs.Common.{LendsExactly, path_of, concatenated}
use Rattle.i_shape_source.proofs.Lent.{saw_next}
use Rattle.i_shape.proofs.Lists.EndToEnd.{concatenated-append}

-- the paths seen and the next have at most as many points as all
pub points_within : {S P : Type 0} {steps : S → Option (Bor (List P)) → S → Type 0} {s : S} {paths : List (List P)} → LendsExactly steps s paths
    → (seen : List (Bor (List P))) (from t u : S) (path : Bor (List P)) → from ≡ s → Yields steps from seen t → steps t (Some path) u
    → length (concatenated (map path_of seen)) + length path.now ≤ length (concatenated paths)
points_within {S} {P} {steps} {s} {paths} lends seen from t u path same yields step =
    let given : Yields steps s seen t = subst (λ x. Yields steps x seen t) same yields in
    let next = saw_next lends seen t given (Some path) u path refl step in
    let whole : concatenated paths ≡ concatenated (map path_of seen) ++ concatenated (path.now ∷ next.0) = ap concatenated next.1 ∙ concatenated-append (map path_of seen) (path.now ∷ next.0) in
    omega (arith, ap length whole, length-append (concatenated (map path_of seen)) (concatenated (path.now ∷ next.0)), length-append path.now (concatenated next.0))
