-- What cleaning leaves of members one by one, and of concatenated lists.
use Rattle.std.proofs.Common.{◌≡◌, List, [], ◌∷◌, ◌++◌, refl, sym, ap, ap₂, ◌∙◌, Option, Some, None, option_to_list}
use Rattle.std.specs.List.{AllZip, filter_map}
use Rattle.std.proofs.lemmas.List.Elements.{filter_map-append}
use Rattle.std.proofs.lemmas.Slice.Zip.{all_zipped_more}
use Rattle.i_shape_core.specs.Survivors.{Survivors}

-- of the empty list nothing is left
pub survivors-none : {X Y : Type 0} (Answer : X → Option Y → Type 0) → Survivors Answer [] []
survivors-none Answer = ([], tt, refl)

last-kept : {Y : Type 0} (kept : List Y) (a : Option Y) → kept ++ filter_map (λ answer. answer) (a ∷ []) ≡ kept ++ option_to_list a
last-kept kept None = refl
last-kept kept (Some y) = refl

-- appending a member appends its answer, if any, to what is left
pub survivors-push : {X Y : Type 0} (Answer : X → Option Y → Type 0) (xs : List X) (x : X) (kept : List Y) (a : Option Y) → Survivors Answer xs kept → Answer x a → Survivors Answer (xs ++ x ∷ []) (kept ++ option_to_list a)
survivors-push Answer xs x kept a (answers, zipped, is_kept) answer = (
  answers ++ a ∷ [],
  all_zipped_more Answer xs answers x a zipped answer,
  sym (filter_map-append (λ r. r) answers (a ∷ []) ∙ ap (λ w. w ++ filter_map (λ r. r) (a ∷ [])) (sym is_kept) ∙ last-kept kept a),
)

-- if R relates the members of two pairs of lists, it relates those of their concatenations
pub zip-append : {A B : Type 0} (R : A → B → Type 0) (xs zs : List A) (ys ws : List B) → AllZip R xs ys → AllZip R zs ws → AllZip R (xs ++ zs) (ys ++ ws)
zip-append R [] zs [] ws h k = k
zip-append R [] zs (y ∷ ys) ws h k = absurd h
zip-append R (x ∷ xs) zs [] ws h k = absurd h
zip-append R (x ∷ xs) zs (y ∷ ys) ws h k = (h.0, zip-append R xs zs ys ws h.1 k)

-- what is left of a concatenation is the concatenation of what is left
pub survivors-append : {X Y : Type 0} (Answer : X → Option Y → Type 0) (xs zs : List X) (kept more : List Y) → Survivors Answer xs kept → Survivors Answer zs more → Survivors Answer (xs ++ zs) (kept ++ more)
survivors-append Answer xs zs kept more (a, h, p) (b, k, q) =
    (a ++ b, zip-append Answer xs zs a b h k, ap₂ ◌++◌ p q ∙ sym (filter_map-append (λ r. r) a b))
