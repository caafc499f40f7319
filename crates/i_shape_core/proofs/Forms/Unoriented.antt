-- Forms of contours, canonical and unoriented: when two are equal, that one exists, that it is its own form, and what
-- it keeps.
use Rattle.std.proofs.Common.{◌≡◌, ◌↔◌, ◌⊎◌, ◌<◌, ◌≤◌, inl, inr, List, length, reverse, Option, Some, None, refl, sym, ap, ◌∙◌, subst, arith, All}
use Rattle.std.proofs.lemmas.List.{reverse-reverse, length-reverse}
use Rattle.std.proofs.lemmas.List.Sorted.{All-permutation, IsPermutation-reverse}
use native.Mathlib.Decide.{dec_le}
use Rattle.i_shape_core.proofs.Common.{Point, IsZeroTurn, End, stay, EachEndCollapses, IsKept, KeptAnswer, IsAtMost, IsLeast, IsCanonical, CanonicalAnswer, Joined, started_at, IsUnoriented, IsLesserWay, UnorientedAnswer, IsKeptBackwards, IsKeptEitherWay, KeptEitherWay, JoinedEitherWay}
use Rattle.i_shape_core.proofs.LeastRotation.Order.{at_most_refl, at_most_total, at_most_antisym}
use Rattle.i_shape_core.proofs.Removal.Ends.{has_end, no_step, all_left}
use Rattle.i_shape_core.proofs.Removal.ZeroTurns.{zero_turn_decided, every_order}
use Rattle.i_shape_core.proofs.Forms.Canonical as chains
use Rattle.i_shape_core.proofs.Forms.Canonical.{joined_trans, joined_sym, joined_by_reach, joined_by_rotation}
use Rattle.i_shape_core.proofs.Removal.Rotations.{rotation_refl, rotation_sym, rotation_trans, rotation_length, all_rotated}
use Rattle.i_shape_core.proofs.Sums.RationalWindings.{between_reversed}
use Rattle.i_shape_core.proofs.Walks.Found.{reach_keeps, kept_by_rotation}
use Rattle.i_shape_core.proofs.CleanerAnswers.Kept.{collapsed_flat}
use Rattle.i_shape_core.proofs.Sums.Windings.{winding_reversed}
use Rattle.i_shape_core.proofs.Removal.Steps.{step_of_rotated}
use Rattle.i_shape_core.proofs.LeastRotation.Starts.{has_least_start}
use Rattle.i_shape_core.proofs.Forms.Backwards.{canonical_reversed, joined_reversed, joined_back, shoelace_reversed, inside_reversed}

-- a contour that has a canonical form doesn't collapse
pub canonical_uncollapsed : (c l : List Point) → CanonicalAnswer c (Some l) → EachEndCollapses c → ⊥
canonical_uncollapsed c l a h = omega (arith, a.ends.enough, h a.end a.ends.ended)

-- a contour that has an unoriented form doesn't collapse
pub unoriented_uncollapsed : (c l : List Point) → UnorientedAnswer c (Some l) → EachEndCollapses c → ⊥
unoriented_uncollapsed c l a = canonical_uncollapsed c a.forwards a.is_forwards

-- two canonical forms are equal exactly if their contours are joined
pub canonical_one : (c d l m : List Point) → CanonicalAnswer c (Some l) → CanonicalAnswer d (Some m) → (l ≡ m) ↔ Joined IsZeroTurn c d
canonical_one c d l m a b = chains.canonical_joined c d a.end b.end l m a.ends.ended a.ends.enough b.ends.ended b.ends.enough a.least b.least

-- a contour is joined to its form
canonical_near : (c l : List Point) → IsCanonical c l → Joined IsZeroTurn c l
canonical_near c l a = joined_trans (joined_by_reach a.ends.ended.reached a.ends.enough) (joined_by_rotation a.least.rotation a.ends.enough)

-- a list at most x and at most y is at most whichever of them m is
lesser_least : (l m x y : List Point) → IsAtMost l x × IsAtMost l y → (m ≡ x) ⊎ (m ≡ y) → IsAtMost l m
lesser_least l m x y h (inl e) = subst (λ (w : List Point). IsAtMost l w) (sym e) h.0
lesser_least l m x y h (inr e) = subst (λ (w : List Point). IsAtMost l w) (sym e) h.1

module _ (c d l m : List Point) (a : IsUnoriented c l) (b : IsUnoriented d m) where
  forms_joined : (l ≡ a.forwards) ⊎ (l ≡ a.backwards) → (m ≡ b.forwards) ⊎ (m ≡ b.backwards) → l ≡ m → JoinedEitherWay c d
  forms_joined (inl p) (inl q) e = inl ((canonical_one c d a.forwards b.forwards a.is_forwards b.is_forwards).0 (sym p ∙ e ∙ q))
  forms_joined (inl p) (inr q) e = inr ((canonical_one c (reverse d) a.forwards b.backwards a.is_forwards b.is_backwards).0 (sym p ∙ e ∙ q))
  forms_joined (inr p) (inl q) e = inr (joined_back ((canonical_one (reverse c) d a.backwards b.forwards a.is_backwards b.is_forwards).0 (sym p ∙ e ∙ q)))
  forms_joined (inr p) (inr q) e =
      inl (subst (λ (w : List Point). Joined IsZeroTurn c w) (reverse-reverse d) (joined_back ((canonical_one (reverse c) (reverse d) a.backwards b.backwards a.is_backwards b.is_backwards).0 (sym p ∙ e ∙ q))))

  -- two lists that are both the lesser of p and q are equal
  one_lesser : (p q : List Point) → (l ≡ p) ⊎ (l ≡ q) → (m ≡ p) ⊎ (m ≡ q) → IsAtMost l p × IsAtMost l q → IsAtMost m p × IsAtMost m q → l ≡ m
  one_lesser p q is_l is_m first_l first_m = at_most_antisym l m (lesser_least l m p q first_l is_m) (lesser_least m l p q first_m is_l)

  joined_forms : JoinedEitherWay c d → l ≡ m
  joined_forms (inl j) =
      let there : a.forwards ≡ b.forwards = (canonical_one c d a.forwards b.forwards a.is_forwards b.is_forwards).1 j in
      let back : a.backwards ≡ b.backwards = (canonical_one (reverse c) (reverse d) a.backwards b.backwards a.is_backwards b.is_backwards).1 (joined_reversed j) in
      one_lesser b.forwards b.backwards (rw (there, back) at a.one) b.one (rw (there, back) at a.first) b.first
  joined_forms (inr j) =
      let there : a.forwards ≡ b.backwards = (canonical_one c (reverse d) a.forwards b.backwards a.is_forwards b.is_backwards).1 j in
      let turned : Joined IsZeroTurn (reverse c) d = subst (λ (w : List Point). Joined IsZeroTurn (reverse c) w) (reverse-reverse d) (joined_reversed j) in
      let back : a.backwards ≡ b.forwards = (canonical_one (reverse c) d a.backwards b.forwards a.is_backwards b.is_forwards).1 turned in
      one_lesser b.backwards b.forwards (rw (there, back) at a.one) (other b.one) (rw (there, back) at a.first) (b.first.1, b.first.0)
    where
      other : {P Q : Type 0} → P ⊎ Q → Q ⊎ P
      other (inl p) = inr p
      other (inr q) = inl q

-- two unoriented forms are equal exactly if their contours are joined, or one is joined to the other read backwards
pub unoriented_one : (c d l m : List Point) → UnorientedAnswer c (Some l) → UnorientedAnswer d (Some m) → (l ≡ m) ↔ JoinedEitherWay c d
unoriented_one c d l m a b = (forms_joined c d l m a b a.one b.one, joined_forms c d l m a b)

-- the lesser of f and b is the unoriented form of c, if f is its canonical form and b that of f backwards
pub unoriented_lesser : (c f b l : List Point) → IsCanonical c f → IsLeast (reverse f) b → (l ≡ f) ⊎ (l ≡ b) → IsAtMost l f → IsAtMost l b → IsUnoriented c l
unoriented_lesser c f b l a turned one left right = record {
  forwards = f;
  backwards = b;
  is_forwards = a;
  is_backwards = canonical_reversed c f b a turned;
  one = one;
  first = (left, right);
}

-- the lesser of a canonical form and its reverse's least rotation is the unoriented form
pub unoriented_lesser_way : (c f l : List Point) → IsCanonical c f → IsLesserWay f l → IsUnoriented c l
unoriented_lesser_way c f l a way = unoriented_lesser c f way.backwards l a way.is_backwards way.one way.first.0 way.first.1

-- each contour collapses or has a canonical form
pub has_canonical : (c : List Point) → EachEndCollapses c ⊎ ((l : List Point) × CanonicalAnswer c (Some l))
has_canonical c = go (dec_le 3 (length e.0))
  where
    e : (e : List Point) × End IsZeroTurn c e
    e = has_end zero_turn_decided c

    go : Dec (3 ≤ length e.0) → EachEndCollapses c ⊎ ((l : List Point) × CanonicalAnswer c (Some l))
    go (yes h) =
        let s = has_least_start e.0 (omega arith) in
        inr (started_at e.0 s.place, record { end = e.0; ends = record { ended = e.1; enough = h; alone = λ f w. ((every_order c).some e.0 f e.1 h w).1 }; least = s.least })
    go (no n) = inl (λ f w. (every_order c).none e.0 f e.1.reached (omega arith) w)

-- each contour collapses or has an unoriented form
pub has_unoriented : (c : List Point) → EachEndCollapses c ⊎ ((l : List Point) × UnorientedAnswer c (Some l))
has_unoriented c = go (has_canonical c)
  where
    go : EachEndCollapses c ⊎ ((l : List Point) × CanonicalAnswer c (Some l)) → EachEndCollapses c ⊎ ((l : List Point) × UnorientedAnswer c (Some l))
    go (inl h) = inl h
    go (inr (f, a)) =
        let long : 0 < length (reverse f) = omega (arith, length-reverse f, rotation_length a.least.rotation, a.ends.enough) in
        let s = has_least_start (reverse f) long in
        let b = started_at (reverse f) s.place in
        elim (at_most_total f b) [
          | inl h ↦ inr (f, unoriented_lesser c f b f a s.least (inl refl) (at_most_refl f) h)
          | inr h ↦ inr (b, unoriented_lesser c f b b a s.least (inr refl) h (at_most_refl b))
        ]

-- a canonical form is its own canonical form
pub canonical_again : (c l : List Point) → CanonicalAnswer c (Some l) → CanonicalAnswer l (Some l)
canonical_again c l a =
    let ended : End IsZeroTurn l l = record { reached = stay; none_left = λ k r. no_step a.ends.ended.none_left (step_of_rotated (rotation_sym a.least.rotation) (record { place = k; removable = r; left = refl })).1 } in
    let enough : 3 ≤ length l = omega (arith, rotation_length a.least.rotation, a.ends.enough) in
    record {
      end = l;
      ends = record { ended = ended; enough = enough; alone = λ f w. ((every_order l).some l f ended enough w).1 };
      least = record { rotation = rotation_refl l; first = λ d r. a.least.first d (rotation_trans a.least.rotation r) };
    }

-- an unoriented form is its own unoriented form
pub unoriented_again : (c l : List Point) → UnorientedAnswer c (Some l) → UnorientedAnswer l (Some l)
unoriented_again c l a = go a.one (has_unoriented l)
  where
    near : (l ≡ a.forwards) ⊎ (l ≡ a.backwards) → JoinedEitherWay l c
    near (inl e) = inl (joined_sym (subst (λ (w : List Point). Joined IsZeroTurn c w) (sym e) (canonical_near c a.forwards a.is_forwards)))
    near (inr e) = inr (joined_sym (subst (λ (w : List Point). Joined IsZeroTurn (reverse c) w) (sym e) (canonical_near (reverse c) a.backwards a.is_backwards)))

    long : (l ≡ a.forwards) ⊎ (l ≡ a.backwards) → 3 ≤ length l
    long (inl e) = omega (arith, ap length e, rotation_length a.is_forwards.least.rotation, a.is_forwards.ends.enough)
    long (inr e) = omega (arith, ap length e, rotation_length a.is_backwards.least.rotation, a.is_backwards.ends.enough)

    ended : (l ≡ a.forwards) ⊎ (l ≡ a.backwards) → CanonicalAnswer l (Some l)
    ended (inl e) = subst (λ (w : List Point). CanonicalAnswer w (Some w)) (sym e) (canonical_again c a.forwards a.is_forwards)
    ended (inr e) = subst (λ (w : List Point). CanonicalAnswer w (Some w)) (sym e) (canonical_again (reverse c) a.backwards a.is_backwards)

    go : (l ≡ a.forwards) ⊎ (l ≡ a.backwards) → EachEndCollapses l ⊎ ((m : List Point) × UnorientedAnswer l (Some m)) → UnorientedAnswer l (Some l)
    go o (inl h) = absurd (canonical_uncollapsed l l (ended o) h)
    go o (inr (m, b)) = let same : m ≡ l = (unoriented_one l c m l b a).1 (near o) in subst (λ (w : List Point). UnorientedAnswer l (Some w)) same b

-- a canonical form keeps the measures of its contour
pub canonical_kept : (c : List Point) (r : Option (List Point)) → CanonicalAnswer c r → KeptAnswer c r
canonical_kept c None a = collapsed_flat c a
canonical_kept c (Some l) a = kept_by_rotation c a.end l (reach_keeps c a.end a.ends.ended.reached) a.least.rotation

-- if Q holds of each point of a contour, it holds of each point of its canonical form
pub canonical_left : (Q : Point → Type 0) (c l : List Point) → CanonicalAnswer c (Some l) → All Q c → All Q l
canonical_left Q c l a all = all_rotated Q a.least.rotation (all_left Q a.ends.ended.reached all)

-- the unoriented form keeps the measures of its contour, or all of them with the opposite sign
pub unoriented_kept : (c : List Point) (r : Option (List Point)) → UnorientedAnswer c r → KeptEitherWay c r
unoriented_kept c None a = collapsed_flat c a
unoriented_kept c (Some l) a = go a.one
  where
    go : (l ≡ a.forwards) ⊎ (l ≡ a.backwards) → IsKeptEitherWay c l
    go (inl e) =
        let k : IsKept c a.forwards = canonical_kept c (Some a.forwards) a.is_forwards in
        inl (subst (IsKept c) (sym e) k)
    go (inr e) =
        let k : IsKept (reverse c) a.backwards = canonical_kept (reverse c) (Some a.backwards) a.is_backwards in
        inr (subst (IsKeptBackwards c) (sym e) (record {
          area = k.area ∙ shoelace_reversed c;
          inside = λ p. (λ h. (inside_reversed c p).0 ((k.inside p).0 h), λ h. (k.inside p).1 ((inside_reversed c p).1 h));
          between = λ n p. k.between n p ∙ between_reversed c n p;
          winding = λ p. k.winding p ∙ winding_reversed c p;
        }))

-- if Q holds of each point of a contour, it holds of each point of its unoriented form
pub unoriented_left : (Q : Point → Type 0) (c l : List Point) → UnorientedAnswer c (Some l) → All Q c → All Q l
unoriented_left Q c l a all = go a.one
  where
    go : (l ≡ a.forwards) ⊎ (l ≡ a.backwards) → All Q l
    go (inl e) = subst (All Q) (sym e) (canonical_left Q c a.forwards a.is_forwards all)
    go (inr e) = subst (All Q) (sym e) (canonical_left Q (reverse c) a.backwards a.is_backwards (All-permutation Q c (reverse c) (IsPermutation-reverse c) all))
