-- What holds of each contour that offsets delimit.
use Rattle.std.proofs.Common.{◌≡◌, ◌∙◌, zero, suc, ℕ, ◌+◌, ◌<◌, ◌++◌, List, [], ◌∷◌, map, length, take, set, get_or, slice_range, ap, sym, subst, subst₂, Option, Some, None, arith}
use Rattle.std.specs.List.{AllZip, range_with_len}
use Rattle.std.proofs.lemmas.List.{map-id, take_more, take_more_set}
use Rattle.std.proofs.lemmas.List.FromFn.{map-range_with_len_more}
use Rattle.std.proofs.lemmas.Slice.Zip.{all_zipped_more}
use Rattle.i_shape_c.specs.Batch.{offset, nth_contour}

-- if R relates the first n contours to the first n items, writing item n extends this to n + 1
pub told_more : {P X : Type 0} (R : List P → X → Type 0) (points : List P) (offsets : List ℕ) (out : List X) (n place : ℕ) (item : X) → place ≡ n + 1 → n < length out
    → AllZip R (map (nth_contour points offsets) (range_with_len 0 n)) (take n out)
    → R (slice_range points (offset offsets n) (offset offsets place)) item
    → AllZip R (map (nth_contour points offsets) (range_with_len 0 (n + 1))) (take (n + 1) (set out n item))
told_more R points offsets out n place item next room told here =
    let last : R (nth_contour points offsets n) item = subst (λ k. R (slice_range points (offset offsets n) (offset offsets k)) item) next here in
    subst₂ (λ contours items. AllZip R contours items) (sym (map-range_with_len_more (nth_contour points offsets) 0 n n (let same : 0 + n ≡ n = omega arith in same))) (sym (take_more_set out n item room))
    (all_zipped_more R (map (nth_contour points offsets) (range_with_len 0 n)) (take n out) (nth_contour points offsets n) item told last)

-- if R relates the first n items to the first n results, writing result n extends this to n + 1
pub item_more : {P X : Type 0} (R : P → X → Type 0) (items : List P) (out : List X) (n : ℕ) (item : P) (told : X) → n < length items → item ≡ get_or items n item → n < length out
    → AllZip R (take n items) (take n out) → R item told → AllZip R (take (n + 1) items) (take (n + 1) (set out n told))
item_more R items out n item told within read room before here =
    subst₂ (λ xs ys. AllZip R xs ys) (sym (take_more items n item within ∙ ap (λ x. take n items ++ x ∷ []) (sym read))) (sym (take_more_set out n told room))
    (all_zipped_more R (take n items) (take n out) item told before here)

-- if R relates the first n indices to the results so far, pushing result n extends this to n + 1
pub index_pushed : {X : Type 0} (R : ℕ → X → Type 0) (results : List X) (n next : ℕ) (told : X) → n + 1 ≡ next → AllZip R (range_with_len 0 n) results → R n told → AllZip R (range_with_len 0 next) (results ++ told ∷ [])
index_pushed R results n next told is before here =
    let one_more : range_with_len 0 (n + 1) ≡ range_with_len 0 n ++ n ∷ [] = sym (map-id (range_with_len 0 (n + 1))) ∙ map-range_with_len_more (λ (j : ℕ). j) 0 n n (let same : 0 + n ≡ n = omega arith in same) ∙ ap (λ (l : List ℕ). l ++ n ∷ []) (map-id (range_with_len 0 n)) in
    subst (λ ns. AllZip R ns (results ++ told ∷ [])) (sym one_more ∙ ap (range_with_len 0) is) (all_zipped_more R (range_with_len 0 n) results n told before here)

-- if R relates the first n indices to the first n results, writing result n extends this to n + 1
pub index_more : {X : Type 0} (R : ℕ → X → Type 0) (out : List X) (n next : ℕ) (told : X) → n + 1 ≡ next → n < length out
    → AllZip R (range_with_len 0 n) (take n out) → R n told → AllZip R (range_with_len 0 next) (take next (set out n told))
index_more R out n next told is room before here =
    subst (AllZip R (range_with_len 0 next)) (sym (take_more_set out n told room) ∙ ap (λ m. take m (set out n told)) is) (index_pushed R (take n out) n next told is before here)

-- `Some x` isn't `None`
pub not_none : {X : Type 0} (o : Option X) (x : X) → o ≡ Some x → o ≡ None → ⊥
not_none o x some none = absurd (cc)

-- what relates two lists relates their items at each index
pub zip_at : {A B : Type 0} (R : A → B → Type 0) (xs : List A) (ys : List B) → AllZip R xs ys → (k : ℕ) (d : A) (e : B) → k < length xs → R (get_or xs k d) (get_or ys k e)
zip_at R [] ys all k d e h = absurd (omega arith)
zip_at R (x ∷ xs) [] all k d e h = absurd all
zip_at R (x ∷ xs) (y ∷ ys) all zero d e h = all.0
zip_at R (x ∷ xs) (y ∷ ys) all (suc k) d e h = zip_at R xs ys all.1 k d e (omega (arith, h))

-- what relates the items of two lists of one length at each index relates the lists
pub zip_of : {A B : Type 0} (R : A → B → Type 0) (xs : List A) (ys : List B) → length ys ≡ length xs → ((k : ℕ) (d : A) (e : B) → k < length xs → R (get_or xs k d) (get_or ys k e)) → AllZip R xs ys
zip_of R [] [] same at = tt
zip_of R [] (y ∷ ys) same at = absurd (omega (arith, same))
zip_of R (x ∷ xs) [] same at = absurd (omega (arith, same))
zip_of R (x ∷ xs) (y ∷ ys) same at = (at 0 x y (omega arith), zip_of R xs ys (omega (arith, same)) (λ k d e h. at (suc k) d e (omega (arith, h))))

-- what relates a mapped list relates the list, over the function
pub zip_mapped : {A B C : Type 0} (R : B → C → Type 0) (f : A → B) (xs : List A) (ys : List C) → AllZip R (map f xs) ys → AllZip (λ x. R (f x)) xs ys
zip_mapped R f [] [] all = tt
zip_mapped R f [] (y ∷ ys) all = absurd all
zip_mapped R f (x ∷ xs) [] all = absurd all
zip_mapped R f (x ∷ xs) (y ∷ ys) all = (all.0, zip_mapped R f xs ys all.1)

-- a relation that follows from another relates what that does
pub zip_weaker : {A B : Type 0} (R S : A → B → Type 0) (xs : List A) (ys : List B) → ((x : A) (y : B) → R x y → S x y) → AllZip R xs ys → AllZip S xs ys
zip_weaker R S [] [] weaker all = tt
zip_weaker R S [] (y ∷ ys) weaker all = absurd all
zip_weaker R S (x ∷ xs) [] weaker all = absurd all
zip_weaker R S (x ∷ xs) (y ∷ ys) weaker all = (weaker x y all.0, zip_weaker R S xs ys weaker all.1)
