-- Points that are sorted with their places give an order of edges.
use Rattle.std.proofs.Common.{◌≡◌, ℕ, ◌<◌, List, [], ◌∷◌, map, length, get_or, sym, ap, subst, ◌∙◌, arith, All, IsPermutation}
use Rattle.std.proofs.lemmas.List.{get_or-map, length-map}
use Rattle.std.proofs.lemmas.List.Sorted.{length_permutation}
use Rattle.i_shape_core.specs.Heights.{asks}
use Rattle.i_shape_core.specs.declared.measure.heights.Asked.{Asked}
use Rattle.i_shape_core.specs.declared.point.IntPoint.{IntPoint}
use Rattle.i_shape_core.proofs.Sums.Heights.{asks-length, each-asked, all-within}
use Rattle.i_shape_contacts.specs.Steps.Orders.{IsRanked, IsOrder}

-- the places of a list
abbrev pub places : {I : Type 0} → List (Asked I) → List ℕ
places asked = map (λ q. q.place) asked

-- points with their places, however they are sorted
pub order_of : {I : Type 0} (points : List (IntPoint I)) (asked : List (Asked I)) (n : ℕ) → length points ≡ n → IsPermutation (asks 0 points) asked
    → IsOrder (length (places asked)) (λ m. get_or (places asked) m 0) n
order_of {I} points asked n count moved =
    let many : length asked ≡ n = length_permutation (asks 0 points) asked moved ∙ asks-length 0 points ∙ count in
    record {
      count = length-map asked (λ q. q.place) ∙ many;
      within = λ m h.
          let inside : m < length asked = omega (arith, h, many) in
          within_at m inside;
      ranked = λ k h. subst (λ (j : ℕ). IsRanked (λ m. get_or (places asked) m 0) j k) many (found points moved k (omega (arith, h, count)));
    }
  where
    within_at : (m : ℕ) → m < length asked → get_or (places asked) m 0 < n
    within_at m inside = go asked (all-within points asked n (omega (arith, count)) moved) inside
      where
        go : (qs : List (Asked I)) → All (λ q. q.place < n) qs → m < length qs → get_or (places qs) m 0 < n
        go [] all h = absurd (omega arith)
        go (q ∷ qs) all h = subst (λ (k : ℕ). k < n) (sym (get_or-map (λ (r : Asked _). r.place) (q ∷ qs) m q 0 h)) (all m q h)

    found : (ps : List (IntPoint I)) → IsPermutation (asks 0 ps) asked → (k : ℕ) → k < length ps → IsRanked (λ m. get_or (places asked) m 0) (length asked) k
    found [] moved k h = absurd (omega arith)
    found (p ∷ ps) moved k h =
        let has = each-asked (p ∷ ps) asked k p moved h in
        let d : Asked I = record { point = get_or (p ∷ ps) k p; place = k } in
        record { rank = has.0; below = has.1; is = get_or-map (λ (r : Asked _). r.place) asked has.0 d 0 has.1 ∙ ap (λ (r : Asked _). r.place) has.2 }
