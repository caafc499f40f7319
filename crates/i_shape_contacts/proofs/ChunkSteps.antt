-- Chunks of edges in an order: what blocks rule out, and what no contact of chunks means.
use Rattle.std.proofs.Common.{◌≡◌, ℕ, ◌+◌, ◌<◌, ◌≤◌, ℤ, List, length, sym, ap, subst, ◌∙◌, arith, inl, inr}
use Rattle.std.proofs.lemmas.Bool.{cases_eq, cases_lt}
use Rattle.i_shape_core.specs.Point.{Point}
use Rattle.i_shape_contacts.specs.declared.boxes.Bounds.{Bounds}
use Rattle.i_shape_contacts.specs.Contacts.{IsContactBy, NoContact}
use Rattle.i_shape_contacts.specs.Steps.Boxes.{AreApart, HoldsEdge, HoldsRanks}
use Rattle.i_shape_contacts.specs.Steps.Orders.{IsRanked}
use Rattle.i_shape_contacts.specs.Steps.Chunks.{Touch, NoneTouch, NoneWithin, NoneBehind}
use Rattle.i_shape_contacts.proofs.ContactTests.{share_meets}
use Rattle.i_shape_contacts.proofs.BlockSteps.{apart_edges}
use Rattle.i_shape_contacts.proofs.Apart.{meet_swapped}

module _ {I : Type 0} (value : I → ℤ) (Follows : ℕ → ℕ → Type 0) (c : List Point) (at : ℕ → ℕ) where
  -- edges in boxes that are apart don't touch
  pub apart_touch : (a b : Bounds I) (i m : ℕ) → AreApart value a b → HoldsEdge value Follows a c i → HoldsEdge value Follows b c m → Touch Follows c i m → ⊥
  apart_touch a b i m apart edge other (inl w) = apart_edges value Follows c a b i w.first_end m w.second_end apart edge other w.first_follows w.second_follows (share_meets c i w.first_end m w.second_end w.shared)
  apart_touch a b i m apart edge other (inr w) = apart_edges value Follows c a b i w.second_end m w.first_end apart edge other w.second_follows w.first_follows (meet_swapped _ _ _ _ (share_meets c m w.first_end i w.second_end w.shared))

  -- what is in a box beside a chunk has no contact with it
  pub chunk_further : (a b : Bounds I) (from to start k end : ℕ) → AreApart value a b → ((m : ℕ) → from ≤ m → m < to → HoldsEdge value Follows a c (at m)) → HoldsRanks value Follows b c at k end
      → NoneWithin Follows c at from to start k → NoneWithin Follows c at from to start end
  chunk_further a b from to start k end apart edges holds before m r h l f n inside o w = elim (cases_lt r k) [
    | inl s ↦ before m r h l f s inside o w
    | inr s ↦ apart_touch a b (at m) (at r) apart (edges m h l) (holds r s n inside) w
  ]

  -- a chunk more
  pub chunk_behind : (from to start k more until end : ℕ) → ((r : ℕ) → start ≤ r → k ≤ r → more ≤ r) → ((r : ℕ) → r < end → r < length c → r < until)
      → NoneWithin Follows c at from to start k → NoneTouch Follows c at from to more until → NoneWithin Follows c at from to start end
  chunk_behind from to start k more until end least most before here m r h l f n inside o w = elim (cases_lt r k) [
    | inl s ↦ before m r h l f s inside o w
    | inr s ↦ here m r h l (least r f s) (most r n inside) o w
  ]

  -- one rank more
  pub chunk_more : (from to start k : ℕ) → NoneTouch Follows c at from to start k → NoneTouch Follows c at from to k (k + 1) → NoneTouch Follows c at from to start (k + 1)
  chunk_more from to start k before here m r h l f n o w = elim (cases_lt r k) [
    | inl s ↦ before m r h l f s o w
    | inr s ↦ here m r h l s n o w
  ]

  -- one rank more within a chunk: an edge is tried with the one before it, and then with the others
  pub within_more : (from k k' : ℕ) → k ≡ k' + 1 → NoneTouch Follows c at from k from k → (Touch Follows c (at k') (at k) → ⊥) → NoneTouch Follows c at from k' k (k + 1) → NoneTouch Follows c at from (k + 1) from (k + 1)
  within_more from k k' up before one others m r h l f n o w = elim (cases_lt r k) [
    | inl s ↦ before m r h (omega (arith, s, o)) f s o w
    | inr s ↦ elim (cases_eq m k') [
      | inl e ↦ (let same : r ≡ k = omega (arith, s, n) in one (subst (λ (j : ℕ). Touch Follows c (at j) (at k)) e (subst (λ (j : ℕ). Touch Follows c (at m) (at j)) same w)))
      | inr e ↦ others m r h (omega (arith, e, up, o, n)) s n o w
    ]
  ]

  -- where no edge below a rank touches one behind it, none of the edges that have such ranks is the first of a contact
  pub none_before : (n from start : ℕ) → length c ≡ n → ((k : ℕ) → k < n → IsRanked at n k) → ((k : ℕ) → at k < start → k < from) → NoneBehind Follows c at n from
      → (i j : ℕ) → i < start → IsContactBy Follows c i j → ⊥
  none_before n from start count ranked below behind i j h w =
      let order = w.order in
      let within = w.within in
      let first = ranked i (omega (arith, order, within, count)) in
      let second = ranked j (omega (arith, within, count)) in
      let moved = subst (λ (k : ℕ). IsContactBy Follows c k (at second.rank)) (sym first.is) (subst (λ (k : ℕ). IsContactBy Follows c i k) (sym second.is) w) in
      let less = below first.rank (subst (λ (k : ℕ). k < start) (sym first.is) h) in
      elim (cases_lt second.rank first.rank) [
        | inl s ↦ behind.none second.rank first.rank (omega (arith, s, less)) s first.below (inr moved)
        | inr s ↦ elim (cases_eq first.rank second.rank) [
          | inl e ↦ (let same = sym first.is ∙ ap at e ∙ second.is in absurd (omega (arith, order, same)))
          | inr e ↦ behind.none first.rank second.rank less (omega (arith, s, e)) second.below (inl moved)
        ]
      ]

  -- where no two ranks touch there is no contact
  pub no_ranks : (n : ℕ) → length c ≡ n → ((k : ℕ) → k < n → IsRanked at n k) → ((k r : ℕ) → k < n → k < r → r < n → Touch Follows c (at k) (at r) → ⊥) → NoContact (IsContactBy Follows c)
  no_ranks n count ranked none = record {
    none = λ i j w.
        let order = w.order in
        let within = w.within in
        let first = ranked i (omega (arith, order, within, count)) in
        let second = ranked j (omega (arith, within, count)) in
        let moved = subst (λ (k : ℕ). IsContactBy Follows c k (at second.rank)) (sym first.is) (subst (λ (k : ℕ). IsContactBy Follows c i k) (sym second.is) w) in
        elim (cases_lt second.rank first.rank) [
          | inl s ↦ none second.rank first.rank second.below s first.below (inr moved)
          | inr s ↦ elim (cases_eq first.rank second.rank) [
            | inl e ↦ (let same = sym first.is ∙ ap at e ∙ second.is in absurd (omega (arith, order, same)))
            | inr e ↦ none first.rank second.rank first.below (omega (arith, s, e)) second.below (inl moved)
          ]
        ];
  }
