-- If two members have equal answers exactly when they are related, then the sorted answers of two lists are equal
-- exactly when the members that have answers are matched.
use Rattle.std.proofs.Common.{◌≡◌, ◌↔◌, List, [], ◌∷◌, Option, Some, None, refl, sym, subst, ◌∙◌, IsPermutation, filter_map}
use Rattle.i_shape.proofs.Common.{AllZip, Survivors, Stays, MatchedUncollapsed, SortedForms}
use Rattle.std.proofs.lemmas.List.Sorted.{IsPermutation-sym, IsPermutation-trans}
use Rattle.i_shape_core.proofs.Lists.Survivors.{survivors-none}
use Rattle.i_shape.proofs.Lists.Surviving.{survivors_each, survivors_gone, survivors_left}
use Rattle.i_shape.proofs.Lists.Permutations.{follows_permutation}
use Rattle.i_shape.proofs.Lists.Uniqueness.{in_one_order}

-- the converse of a pairwise relation holds pairwise
flipped : {A B : Type 0} (R : A → B → Type 0) (xs : List A) (ys : List B) → AllZip R xs ys → AllZip (λ y x. R x y) ys xs
flipped R [] [] h = tt
flipped R [] (y ∷ ys) h = absurd h
flipped R (x ∷ xs) [] h = absurd h
flipped R (x ∷ xs) (y ∷ ys) h = (h.0, flipped R xs ys h.1)

module _ {X Y : Type 0} (Answer : X → Option Y → Type 0) (Collapses : X → Type 0) (R : X → X → Type 0) (AtMost : Y → Y → Type 0)
    (none : (x : X) → Answer x None → Collapses x)
    (some : (x : X) (y : Y) → Answer x (Some y) → Collapses x → ⊥)
    (one : (x z : X) (y w : Y) → Answer x (Some y) → Answer z (Some w) → (y ≡ w) ↔ R x z)
    (decide : (y w : Y) → Dec (y ≡ w))
    (itself : (y : Y) → AtMost y y)
    (antisym : (y w : Y) → AtMost y w → AtMost w y → y ≡ w) where
  abbrev Gives : X → Y → Type 0
  Gives x y = Answer x (Some y)

  -- the members that have an answer, paired with their answers
  uncollapsed_of : (xs : List X) (forms : List Y) → Survivors Answer xs forms → (left : List X) × Survivors (Stays Collapses) xs left × AllZip Gives left forms
  uncollapsed_of =
      survivors_each Answer (λ xs forms. (left : List X) × Survivors (Stays Collapses) xs left × AllZip Gives left forms) ([], survivors-none (Stays Collapses), tt)
      (λ x xs forms h r. (r.0, survivors_gone (Stays Collapses) x xs r.0 (none x h) r.1, r.2))
      (λ x y xs forms h r. (x ∷ r.0, survivors_left (Stays Collapses) x x xs r.0 (some x y h, refl) r.1, (h, r.2)))

  -- the members that don't collapse are unique
  stand_alike : (xs : List X) (a b : List (Option X)) → AllZip (Stays Collapses) xs a → AllZip (Stays Collapses) xs b → filter_map (λ z. z) a ≡ filter_map (λ z. z) b
  stand_alike [] [] [] h k = refl
  stand_alike [] [] (q ∷ b) h k = absurd k
  stand_alike [] (p ∷ a) b h k = absurd h
  stand_alike (x ∷ xs) [] b h k = absurd h
  stand_alike (x ∷ xs) (p ∷ a) [] h k = absurd k
  stand_alike (x ∷ xs) (None ∷ a) (None ∷ b) h k = stand_alike xs a b h.1 k.1
  stand_alike (x ∷ xs) (None ∷ a) (Some q ∷ b) h k = absurd (k.0.0 h.0)
  stand_alike (x ∷ xs) (Some p ∷ a) (None ∷ b) h k = absurd (h.0.0 k.0)
  stand_alike (x ∷ xs) (Some p ∷ a) (Some q ∷ b) h k =
      let rest = stand_alike xs a b h.1 k.1 in
      let here : p ≡ q = h.0.1 ∙ sym k.0.1 in
      λ i. here i ∷ rest i

  stand_once : (xs left right : List X) → Survivors (Stays Collapses) xs left → Survivors (Stays Collapses) xs right → left ≡ right
  stand_once xs left right (a, h, p) (b, k, q) = p ∙ stand_alike xs a b h k ∙ sym q

  -- members with pairwise equal answers are pairwise related
  related : (xs zs : List X) (ys : List Y) → AllZip Gives xs ys → AllZip Gives zs ys → AllZip R xs zs
  related [] [] ys h k = tt
  related [] (z ∷ zs) [] h k = absurd k
  related [] (z ∷ zs) (y ∷ ys) h k = absurd h
  related (x ∷ xs) [] [] h k = absurd h
  related (x ∷ xs) [] (y ∷ ys) h k = absurd k
  related (x ∷ xs) (z ∷ zs) [] h k = absurd h
  related (x ∷ xs) (z ∷ zs) (y ∷ ys) h k = ((one x z y y h.0 k.0).0 refl, related xs zs ys h.1 k.1)

  answered_alike : (xs zs : List X) (ys ws : List Y) → AllZip Gives xs ys → AllZip Gives zs ws → AllZip R xs zs → ys ≡ ws
  answered_alike [] [] [] [] h k r = refl
  answered_alike [] [] [] (w ∷ ws) h k r = absurd k
  answered_alike [] [] (y ∷ ys) ws h k r = absurd h
  answered_alike [] (z ∷ zs) ys ws h k r = absurd r
  answered_alike (x ∷ xs) [] ys ws h k r = absurd r
  answered_alike (x ∷ xs) (z ∷ zs) [] ws h k r = absurd h
  answered_alike (x ∷ xs) (z ∷ zs) (y ∷ ys) [] h k r = absurd k
  answered_alike (x ∷ xs) (z ∷ zs) (y ∷ ys) (w ∷ ws) h k r =
      let here : y ≡ w = (one x z y w h.0 k.0).1 r.0 in
      let rest = answered_alike xs zs ys ws h.1 k.1 r.1 in
      λ i. here i ∷ rest i

  -- the sorted answers of two lists are equal exactly if their members that have answers are matched
  pub sorted_alike : (xs zs : List X) (l m : List Y) → SortedForms Answer AtMost xs l → SortedForms Answer AtMost zs m → (l ≡ m) ↔ MatchedUncollapsed Collapses R xs zs
  sorted_alike xs zs l m (fs, of_xs, to_l, up) (gs, of_zs, to_m, down) = (to, from)
    where
      a : (left : List X) × Survivors (Stays Collapses) xs left × AllZip Gives left fs
      a = uncollapsed_of xs fs of_xs

      b : (left : List X) × Survivors (Stays Collapses) zs left × AllZip Gives left gs
      b = uncollapsed_of zs gs of_zs

      to : l ≡ m → MatchedUncollapsed Collapses R xs zs
      to e =
          let both : IsPermutation gs fs = IsPermutation-trans gs l fs (subst (IsPermutation gs) (sym e) to_m) (IsPermutation-sym fs l to_l) in
          let moves : IsPermutation fs gs = IsPermutation-sym gs fs both in
          let back = followed fs gs moves a.0 a.2 in
          record { left = a.0; right = b.0; uncollapsed_left = a.1; uncollapsed_right = b.1; matched = record { order = back.0; same = back.1; pairs = related back.0 b.0 gs back.2 b.2 } }
        where
          followed : (us vs : List Y) → IsPermutation us vs → (left : List X) → AllZip Gives left us → (order : List X) × IsPermutation left order × AllZip Gives order vs
          followed us vs p left h = let r = follows_permutation (λ y x. Gives x y) us vs p left (flipped Gives left us h) in (r.0, r.1, flipped (λ y x. Gives x y) vs r.0 r.2)

      from : MatchedUncollapsed Collapses R xs zs → l ≡ m
      from w =
          let left : AllZip Gives w.left fs = subst (λ s. AllZip Gives s fs) (stand_once xs a.0 w.left a.1 w.uncollapsed_left) a.2 in
          let right : AllZip Gives w.right gs = subst (λ s. AllZip Gives s gs) (stand_once zs b.0 w.right b.1 w.uncollapsed_right) b.2 in
          let f = follows_permutation Gives w.left w.matched.order w.matched.same fs left in
          let same : f.0 ≡ gs = answered_alike w.matched.order w.right f.0 gs f.2 right w.matched.pairs in
          let moves : IsPermutation fs gs = subst (IsPermutation fs) same f.1 in
          in_one_order AtMost decide itself antisym l m (IsPermutation-trans l fs m (IsPermutation-sym fs l to_l) (IsPermutation-trans fs gs m moves to_m)) up down
