-- Blocks of edges in an order: what their boxes rule out, and how one is made of others.
use Rattle.std.proofs.Common.{◌≡◌, ℕ, ◌+◌, ◌<◌, ◌≤◌, ℤ, List, length, get_or, set, sym, ap, subst, ◌∙◌, arith, inl, inr, get_or-set_other, get_or-set_same, length-set}
use Rattle.std.proofs.lemmas.Bool.{cases_eq, cases_lt}
use Rattle.i_shape_core.specs.Point.{Point}
use Rattle.i_shape_core.specs.Contour.{point_at}
use Rattle.i_shape_contacts.specs.declared.boxes.Bounds.{Bounds}
use Rattle.i_shape_contacts.specs.declared.boxes.Block.{Block}
use Rattle.i_shape_contacts.specs.Meeting.{Meet}
use Rattle.i_shape_contacts.specs.Contacts.{IsContactBy}
use Rattle.i_shape_contacts.specs.Steps.Boxes.{Holds, AreApart, HoldsEdge, HoldsRanks, IsBlock, AreBlocks}
use Rattle.i_shape_contacts.proofs.Apart.{apart_x, apart_y, meet_swapped}
use Rattle.i_shape_contacts.proofs.ContactTests.{share_meets}

module _ {I : Type 0} (value : I → ℤ) (Follows : ℕ → ℕ → Type 0) (c : List Point) where
  -- edges in boxes that are apart share no point
  pub apart_edges : (a b : Bounds I) (i i' m m' : ℕ) → AreApart value a b → HoldsEdge value Follows a c i → HoldsEdge value Follows b c m → Follows i i' → Follows m m'
      → Meet (point_at c i) (point_at c i') (point_at c m) (point_at c m') → ⊥
  apart_edges a b i i' m m' (inl h) p q f g w = apart_x _ _ _ _ (value a.high.x) (value b.low.x) p.start.right (p.end i' f).right h q.start.left (q.end m' g).left w
  apart_edges a b i i' m m' (inr (inl h)) p q f g w = apart_x _ _ _ _ (value b.high.x) (value a.low.x) q.start.right (q.end m' g).right h p.start.left (p.end i' f).left (meet_swapped _ _ _ _ w)
  apart_edges a b i i' m m' (inr (inr (inl h))) p q f g w = apart_y _ _ _ _ (value a.high.y) (value b.low.y) p.start.above (p.end i' f).above h q.start.below (q.end m' g).below w
  apart_edges a b i i' m m' (inr (inr (inr h))) p q f g w = apart_y _ _ _ _ (value b.high.y) (value a.low.y) q.start.above (q.end m' g).above h p.start.below (p.end i' f).below (meet_swapped _ _ _ _ w)

  -- an edge is in contact with none in a box beside it
  pub none_apart : (a b : Bounds I) (i k to : ℕ) → AreApart value a b → HoldsEdge value Follows a c i → HoldsRanks value Follows b c (λ m. m) k to → (m : ℕ) → k ≤ m → m < to → IsContactBy Follows c i m → ⊥
  none_apart a b i k to apart edge holds m l h w = apart_edges a b i w.first_end m w.second_end apart edge (holds m l h w.within) w.first_follows w.second_follows (share_meets c i w.first_end m w.second_end w.shared)

module _ {I : Type 0} (value : I → ℤ) (Follows : ℕ → ℕ → Type 0) (c : List Point) (at : ℕ → ℕ) where
  -- what an edge is in contact with below a rank is at least `least`, and it is in contact with none in a box beside it
  pub least_further : (a b : Bounds I) (i k to least : ℕ) → AreApart value a b → HoldsEdge value Follows a c i → HoldsRanks value Follows b c at k to
      → ((m : ℕ) → m < k → m < length c → IsContactBy Follows c i (at m) → least ≤ at m) → (m : ℕ) → m < to → m < length c → IsContactBy Follows c i (at m) → least ≤ at m
  least_further a b i k to least apart edge holds before m h n w = elim (cases_lt m k) [
    | inl l ↦ before m l n w
    | inr l ↦ absurd (apart_edges value Follows c a b i w.first_end (at m) w.second_end apart edge (holds m l h n) w.first_follows w.second_follows (share_meets c i w.first_end (at m) w.second_end w.shared))
  ]

  -- a chunk more
  pub least_chunk : (i from to end least after : ℕ) → after ≤ least → ((m : ℕ) → m < end → m < length c → m < to) → ((m : ℕ) → m < from → m < length c → IsContactBy Follows c i (at m) → least ≤ at m)
      → ((m : ℕ) → from ≤ m → m < to → IsContactBy Follows c i (at m) → after ≤ at m) → (m : ℕ) → m < end → m < length c → IsContactBy Follows c i (at m) → after ≤ at m
  least_chunk i from to end least after less all before here m h n w = elim (cases_lt m from) [
    | inl l ↦ (let old = before m l n w in omega (arith, old, less))
    | inr l ↦ here m l (all m h n) w
  ]

  -- one rank more
  pub least_more : (i from k least after : ℕ) → after ≤ least → ((m : ℕ) → from ≤ m → m < k → IsContactBy Follows c i (at m) → least ≤ at m) → (IsContactBy Follows c i (at k) → after ≤ at k)
      → (m : ℕ) → from ≤ m → m < k + 1 → IsContactBy Follows c i (at m) → after ≤ at m
  least_more i from k least after less before here m l h w = elim (cases_eq m k) [
    | inl e ↦ subst (λ (j : ℕ). after ≤ at j) (sym e) (here (subst (λ (j : ℕ). IsContactBy Follows c i (at j)) e w))
    | inr n ↦ (let old = before m l (omega (arith, h, n)) w in omega (arith, old, less))
  ]

  -- the first edge of a block alone
  pub edge_alone : (b : Bounds I) (k p : ℕ) → p ≡ at k → HoldsEdge value Follows b c p → (m : ℕ) → k ≤ m → m < k + 1 → HoldsEdge value Follows b c (at m)
  edge_alone b k p is edge m h l = let e : k ≡ m = omega (arith, h, l) in subst (HoldsEdge value Follows b c) (is ∙ ap at e) edge

  -- the edges of a block and of the next one
  pub edges_joined : (a b r : Bounds I) (k n n' : ℕ) → ((p : Point) → Holds value a p → Holds value r p) → ((p : Point) → Holds value b p → Holds value r p)
      → ((m : ℕ) → k ≤ m → m < n → HoldsEdge value Follows a c (at m)) → ((m : ℕ) → n ≤ m → m < n' → HoldsEdge value Follows b c (at m))
      → (m : ℕ) → k ≤ m → m < n' → HoldsEdge value Follows r c (at m)
  edges_joined a b r k n n' from_a from_b first second m h l = elim (cases_lt m n) [
    | inl s ↦ (let e = first m h s in record { start = from_a _ e.start; end = λ k f. from_a _ (e.end k f) })
    | inr s ↦ (let e = second m s l in record { start = from_b _ e.start; end = λ k f. from_b _ (e.end k f) })
  ]

  -- the same, by ranks
  pub ranks_joined : (a b r : Bounds I) (k n n' : ℕ) → ((p : Point) → Holds value a p → Holds value r p) → ((p : Point) → Holds value b p → Holds value r p)
      → HoldsRanks value Follows a c at k n → HoldsRanks value Follows b c at n n' → HoldsRanks value Follows r c at k n'
  ranks_joined a b r k n n' from_a from_b first second m h l inside = elim (cases_lt m n) [
    | inl s ↦ (let e = first m h s inside in record { start = from_a _ e.start; end = λ k f. from_a _ (e.end k f) })
    | inr s ↦ (let e = second m s l inside in record { start = from_b _ e.start; end = λ k f. from_b _ (e.end k f) })
  ]

  -- one block more, before the others
  pub one_block : (k k' : ℕ) (blocks : List (Block I)) (b : Block I) → k ≡ k' + 1 → k' < length blocks → AreBlocks value Follows c at k blocks → IsBlock value Follows c at k' b → AreBlocks value Follows c at k' (set blocks k' b)
  one_block k k' blocks b up within later here m d h l = elim (cases_eq m k') [
    | inl e ↦ subst (λ (j : ℕ). IsBlock value Follows c at j (get_or (set blocks k' b) j d)) (sym e) (subst (IsBlock value Follows c at k') (sym (get_or-set_same blocks k' b d within)) here)
    | inr n ↦ (let inside : m < length blocks = subst (λ (n : ℕ). m < n) (length-set blocks k' b) l in subst (IsBlock value Follows c at m) (sym (get_or-set_other blocks k' m b d n)) (later m d (omega (arith, h, n, up)) inside))
  ]
