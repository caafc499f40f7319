-- Lists of a caller's points, read as lists of the library's.
use Rattle.std.proofs.Common.{◌≡◌, ℤ, ◌∙◌, ℕ, ◌<◌, ◌-◌, List, [], ◌∷◌, ◌++◌, map, take, drop, length, get_or, slice_get, reverse, Bool, true, false, cond, Some, option_map, refl, sym, ap, arith, find}
use Rattle.std.proofs.lemmas.Option.{slice_get-map}
use Rattle.i_shape_core.proofs.Common.{point_of, contour_of, IntPoint}
use Rattle.std.proofs.lemmas.Simd.{map-map}
use Rattle.std.proofs.lemmas.List.{get_or-map, length-map, map-append, take-map, drop-map, reverse-append}

-- mapping a rotated list is rotating the mapped list
pub map-rotated : {A B : Type 0} (f : A → B) (k : ℕ) (list : List A) → map f (drop k list ++ take k list) ≡ drop k (map f list) ++ take k (map f list)
map-rotated f k list = map-append f (drop k list) (take k list) ∙ ap (λ l. l ++ map f (take k list)) (sym (drop-map f k list)) ∙ ap (λ l. drop k (map f list) ++ l) (sym (take-map f k list))

module _ {A B : Type 0} (point : A → B) (points : List A → List B) (each : (list : List A) → points list ≡ map point list) where
  -- the read list has the same length
  pub points-length : (list : List A) → length (points list) ≡ length list
  points-length list = ap length (each list) ∙ length-map list point

  -- reading index k of the read list is reading the item at index k
  pub points-read : (list : List A) (k : ℕ) (a : A) (b : B) → k < length list → get_or (points list) k b ≡ point (get_or list k a)
  points-read list k a b within = ap (λ l. get_or l k b) (each list) ∙ get_or-map point list k a b within

  -- appending an item appends its point
  pub points-push : (list longer : List A) (a : A) → longer ≡ list ++ a ∷ [] → points longer ≡ points list ++ point a ∷ []
  points-push list longer a e = ap points e ∙ each (list ++ a ∷ []) ∙ map-append point list (a ∷ []) ∙ ap (λ l. l ++ point a ∷ []) (sym (each list))

  -- rotating the list rotates the read list
  pub points-rotated : (list rotated : List A) (k : ℕ) → rotated ≡ drop k list ++ take k list → points rotated ≡ drop k (points list) ++ take k (points list)
  points-rotated list rotated k e = ap points e ∙ each (drop k list ++ take k list) ∙ map-rotated point k list ∙ ap (λ l. drop k l ++ take k l) (sym (each list))

  -- picking items by places and then reading is reading and then picking by places
  pub points-at-places : (list picked : List A) (places : List ℕ) → map (λ p. Some p) picked ≡ map (slice_get list) places → map (λ p. Some p) (points picked) ≡ map (slice_get (points list)) places
  points-at-places list picked places at =
      ap (map (λ p. Some p)) (each picked) ∙ map-map (λ p. Some p) point picked ∙ sym (map-map (option_map point) (λ p. Some p) picked) ∙ ap (map (option_map point)) at
      ∙ map-map (option_map point) (slice_get list) places ∙ sym (λ i. map (λ k. slice_get-map point list k i) places) ∙ ap (λ l. map (slice_get l) places) (sym (each list))

  -- an item at index k is read as the point at index k
  pub points-item : (list : List A) (k : ℕ) (a : A) (b : B) → b ≡ point a → k < length list → a ≡ get_or list k a → b ≡ get_or (points list) k b
  points-item list k a b is within e = rw is (ap point e ∙ sym (points-read list k a (point a) within))

  -- k is an index of the read list, with the point of the item there
  pub item_read : (list : List A) (k : ℕ) (a : A) (b : B) → b ≡ point a → k < length list → a ≡ get_or list k a → (k < length (points list)) × (b ≡ get_or (points list) k b)
  item_read list k a b is within e = (omega (arith, within, points-length list), points-item list k a b is within e)

  -- the last item is read as the last point
  pub last_read : (list : List A) (a : A) (b : B) → b ≡ point a → a ≡ get_or list (length list - 1) a → 0 < length list → (0 < length (points list)) × (b ≡ get_or (points list) (length (points list) - 1) b)
  last_read list a b is e some = (omega (arith, some, points-length list), rw (points-length list) (points-item list (length list - 1) a b is (omega (arith, some)) e))

-- mapping a reversed list is reversing the mapped list
pub map-reversed : {A B : Type 0} (f : A → B) (list : List A) → map f (reverse list) ≡ reverse (map f list)
map-reversed f [] = refl
map-reversed f (a ∷ list) =
    ap (map f) (reverse-append (a ∷ []) list) ∙ map-append f (reverse list) (a ∷ []) ∙ ap (λ l. l ++ f a ∷ []) (map-reversed f list) ∙ sym (reverse-append (f a ∷ []) (map f list))

-- the first mapped item that passes q is the mapped first item whose image passes
find-map : {A B : Type 0} (f : A → B) (q : B → Bool) (list : List A) → find q (map f list) ≡ option_map f (find (λ a. q (f a)) list)
find-map f q [] = refl
find-map f q (a ∷ list) = go (q (f a)) (find-map f q list)
  where
    go : (t : Bool) → find q (map f list) ≡ option_map f (find (λ b. q (f b)) list) → cond t (Some (f a)) (find q (map f list)) ≡ option_map f (cond t (Some a) (find (λ b. q (f b)) list))
    go true later = refl
    go false later = later

module _ {A B : Type 0} (point : A → B) (points : List A → List B) (each : (list : List A) → points list ≡ map point list) where
  -- the last point that passes q is the point of the last item whose point passes
  pub points-found : (q : B → Bool) (list : List A) → find q (reverse (points list)) ≡ option_map point (find (λ a. q (point a)) (reverse list))
  points-found q list = ap (λ l. find q (reverse l)) (each list) ∙ ap (find q) (sym (map-reversed point list)) ∙ find-map point q (reverse list)

  -- reversing the list reverses the read list
  pub points-reversed : (list back : List A) → back ≡ reverse list → points back ≡ reverse (points list)
  points-reversed list back e = ap points e ∙ each (reverse list) ∙ map-reversed point list ∙ ap reverse (sym (each list))

-- the contour read from a caller's list has as many points as the list
pub read-length : {A I : Type 0} (value : I → ℤ) (point : A → IntPoint I) (points : List A → List (IntPoint I)) (each : (list : List A) → points list ≡ map point list) (list : List A)
    → length (contour_of value (points list)) ≡ length list
read-length value point points each list = length-map (points list) (point_of value) ∙ points-length point points each list
