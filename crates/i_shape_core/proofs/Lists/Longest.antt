-- The longest contour that isn't clean.
use Rattle.std.proofs.Common.{◌≡◌, ℕ, ◌<◌, ◌≤◌, max, ◌⊎◌, inl, inr, ◌↔◌, Bool, true, false, not, IsTrue, Option, Some, None, is_some, unwrap_or, refl, ap, subst, ◌∙◌, arith}
use Rattle.std.proofs.lemmas.Bool.{cases_lt}
use Rattle.i_shape_core.specs.Unclean.{IsLongestUnclean, LongestUnclean, IsShortOrClean}

-- the greater of two optional numbers
abbrev pub longer : Option ℕ → Option ℕ → Option ℕ
longer r None = r
longer r (Some n) = Some (max n (unwrap_or r 0))

module _ {K : Type 0} (Clean : K → Type 0) (count : K → ℕ) where
  -- the longest of one contour that isn't clean is that contour
  pub unclean_alone : (k : K) → (Clean k → ⊥) → LongestUnclean (λ j. k ≡ j) Clean count (Some (count k))
  unclean_alone k unclean = record { longest = k; among = refl; unclean = unclean; len = refl; most = λ j same other. omega (arith, ap count same) }

  module _ (A B Both : K → Type 0) (split : (k : K) → Both k → A k ⊎ B k) (left : (k : K) → A k → Both k) (right : (k : K) → B k → Both k) where
    either : {Q : K → Type 0} → ((k : K) → A k → Q k) → ((k : K) → B k → Q k) → (k : K) → Both k → Q k
    either on_left on_right k is = elim (split k is) [
      | inl a ↦ on_left k a
      | inr b ↦ on_right k b
    ]

    module _ (n : ℕ) (most : (k : K) → Both k → (Clean k → ⊥) → count k ≤ n) (m : ℕ) (is : m ≡ n) where
      on_left : IsLongestUnclean A Clean count m → IsLongestUnclean Both Clean count n
      on_left l = record { longest = l.longest; among = left l.longest l.among; unclean = l.unclean; len = l.len ∙ is; most = most }

      on_right : IsLongestUnclean B Clean count m → IsLongestUnclean Both Clean count n
      on_right l = record { longest = l.longest; among = right l.longest l.among; unclean = l.unclean; len = l.len ∙ is; most = most }

    -- the longest of two kinds is the longer of the longest of each
    pub longest_of_both : (r s : Option ℕ) → LongestUnclean A Clean count r → LongestUnclean B Clean count s → LongestUnclean Both Clean count (longer r s)
    longest_of_both None None a b = either a b
    longest_of_both (Some m) None a b = on_left m (either a.most (λ k is unclean. absurd (unclean (b k is)))) m refl a
    longest_of_both None (Some n) a b =
        let most : (k : K) → Both k → (Clean k → ⊥) → count k ≤ max n 0 = either (λ k is unclean. absurd (unclean (a k is))) (λ k is unclean. omega (arith, b.most k is unclean)) in
        on_right (max n 0) most n (omega arith) b
    longest_of_both (Some m) (Some n) a b =
        let most : (k : K) → Both k → (Clean k → ⊥) → count k ≤ max n m = either (λ k is unclean. omega (arith, a.most k is unclean)) (λ k is unclean. omega (arith, b.most k is unclean)) in
        elim (cases_lt n m) [
          | inl less ↦ on_left (max n m) most m (omega (arith, less)) a
          | inr least ↦ on_right (max n m) most n (omega (arith, least)) b
        ]

  module _ (Among : K → Type 0) where
    -- `none` is true exactly if all contours are clean
    pub all_clean : (r : Option ℕ) (none : Bool) → is_some r ≡ not none → LongestUnclean Among Clean count r → IsTrue none ↔ ((k : K) → Among k → Clean k)
    all_clean None true told each = (λ _. each, λ _. refl)
    all_clean None false told each = absurd cc
    all_clean (Some n) true told longest = absurd cc
    all_clean (Some n) false told longest = (λ no. absurd cc, λ each. absurd (longest.unclean (each longest.longest longest.among)))

    -- room for the longest is room for each
    pub room_for_each : (room : ℕ → Type 0) → ((m n : ℕ) → m ≤ n → room n → room m) → (r : Option ℕ) → LongestUnclean Among Clean count r → room (unwrap_or r 0) → (k : K) → Among k → (Clean k → ⊥) → room (count k)
    room_for_each room fewer None each has k is unclean = absurd (unclean (each k is))
    room_for_each room fewer (Some n) longest has k is unclean = fewer (count k) n (longest.most k is unclean) has

    -- if there is room for each, the longest is short or there is room for it
    pub room_for_longest : (room : ℕ → Type 0) (r : Option ℕ) → LongestUnclean Among Clean count r → ((k : K) → Among k → (Clean k → ⊥) → room (count k)) → (unwrap_or r 0 < 3) ⊎ room (unwrap_or r 0)
    room_for_longest room None each has = inl (omega arith)
    room_for_longest room (Some n) longest has = inr (subst room longest.len (has longest.longest longest.among longest.unclean))

    -- the longest is short if each contour is short or clean
    pub short_longest : (r : Option ℕ) → LongestUnclean Among Clean count r → ((k : K) → Among k → IsShortOrClean Clean count k) → unwrap_or r 0 < 3
    short_longest None all each = omega arith
    short_longest (Some n) longest each = elim (each longest.longest longest.among) [
      | inl few ↦ omega (arith, few, longest.len)
      | inr clean ↦ absurd (longest.unclean clean)
    ]
