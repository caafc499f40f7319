-- The answer that a walk returns.
use Rattle.std.proofs.Common.{◌≡◌, ℕ, ◌%◌, ◌<◌, ◌≤◌, List, [], ◌∷◌, length, Option, Some, None, option_map, sym, ◌∙◌, pos, refl, arith, ◌⊎◌, inl, inr, ap, All, count_by, IfSome, IfOk, Result}
use Rattle.std.proofs.lemmas.Bool.{cases_lt}
use Rattle.std.proofs.lemmas.Result.{IfOk-weaker}
use Rattle.i_shape_core.proofs.Common.{Point, IsZeroTurn, IsBack, Test, Rotation, Reach, stay, End, IsCollapsed, IsSimple, Sublist, WalkAnswer, SimpleAnswer, SpikelessAnswer, KeptAnswer, VisitsAnswer, IsKept, IsFlat}
use Rattle.i_shape_core.specs.Edges.{edges, shoelace, area_of_edge, is_right, Inside}
use Rattle.i_shape_core.specs.Winding.{winding, winding_of_edge}
use Rattle.i_shape_core.proofs.Removal.ZeroTurns.{every_order, ends_agree}
use Rattle.i_shape_core.proofs.Removal.Ends.{all_left, reach_by_weaker}
use Rattle.i_shape_core.proofs.Lists.Sublists.{sublist_reached}
use Rattle.i_shape_core.proofs.Removal.WithoutBack.{back_straightens}
use Rattle.i_shape_core.proofs.Walks.Spikes.{spikeless_end}
use Rattle.i_shape_core.proofs.Sums.Edges.{area_kept}
use Rattle.i_shape_core.proofs.Sums.RotatedEdges.{same_sum, same_count}
use Rattle.i_shape_core.proofs.Sums.RationalWindings.{winding_between, between_none, between_rotated}
use Rattle.i_shape_core.proofs.Sums.Inside.{inside_laws}
use Rattle.i_shape_core.proofs.Sums.Windings.{winding_kept, winding_none}
use Rattle.i_shape_core.proofs.Arithmetic.Polynomials.{by_polynomials, plus, number}
use Rattle.i_shape_core.proofs.Plane.CrossProducts.{coordinates, area_term, A, B}

-- removing zero turns keeps double area, the points inside and winding numbers
pub reach_keeps : (c e : List Point) → Reach IsZeroTurn c e → IsKept c e
reach_keeps c e r = record {
  area = sym (area_kept c e r);
  inside = λ p. let same = (inside_laws c e).kept r p in (same.1, same.0);
  winding = λ p. sym (winding_kept c e r p);
  between = λ n p. sym (winding_between c e r n p);
}

-- fewer than three points have area 0
pub no_area : (d : List Point) → IsCollapsed d → shoelace d ≡ pos 0
unfolding shoelace area_of_edge
no_area [] h = refl
no_area (a ∷ []) h = by_polynomials (coordinates (a ∷ [])) (plus (area_term A A) (number (pos 0))) (number (pos 0)) refl
no_area (a ∷ b ∷ []) h = by_polynomials (coordinates (a ∷ b ∷ [])) (plus (area_term A B) (plus (area_term B A) (number (pos 0)))) (number (pos 0)) refl
no_area (a ∷ b ∷ d ∷ ds) h = absurd (omega arith)

-- a contour that collapses has area 0, no point inside, and winding number 0 about each point
pub collapsed_is_flat : (c d : List Point) → Reach IsZeroTurn c d → IsCollapsed d → IsFlat c
collapsed_is_flat c d r h = record {
  area = area_kept c d r ∙ no_area d h;
  inside = λ p i. (inside_laws d d).none h p (((inside_laws c d).kept r p).0 i);
  winding = λ p. winding_kept c d r p ∙ winding_none d h p;
  between = λ n p. winding_between c d r n p ∙ between_none d h n p;
}

-- a rotation of what keeps a contour's measures keeps them too
pub kept_by_rotation : (c e l : List Point) → IsKept c e → Rotation e l → IsKept c l
unfolding shoelace Inside winding
kept_by_rotation c e l k r = record {
  area = sym (same_sum area_of_edge e l r) ∙ k.area;
  inside = λ p. let s : count_by (is_right p) (edges e) % 2 ≡ count_by (is_right p) (edges l) % 2 = ap (λ (n : ℕ). n % 2) (same_count p e l r) in
      (λ h. (k.inside p).0 (s ∙ h), λ h. sym s ∙ (k.inside p).1 h);
  winding = λ p. sym (same_sum (winding_of_edge p) e l r) ∙ k.winding p;
  between = λ n p. sym (between_rotated r n p) ∙ k.between n p;
}

-- an end of at least three points is the contour's simple answer
one_answer : (c e : List Point) → End IsZeroTurn c e → 3 ≤ length e → SimpleAnswer c (Some e)
one_answer c e ended enough = record { ended = ended; enough = enough; alone = λ f g. ((every_order c).some e f ended enough g).1 }

-- a walk by zero turns returns the simple answer
pub simple_answer : (c : List Point) (r : Option (List Point)) (visits : ℕ) → WalkAnswer IsZeroTurn c r visits → SimpleAnswer c r
simple_answer c None visits w = λ e f. (every_order c).none w.rest e w.reached w.few f
simple_answer c (Some e) visits w = one_answer c e w.ended w.enough

-- a simple contour is its own answer
pub simple_stays : (c : List Point) → IsSimple c → SimpleAnswer c (Some c)
simple_stays c s = one_answer c c (record { reached = stay; none_left = s.none }) s.enough

-- a walk by zero turns keeps double area, the points inside and winding numbers
pub kept_answer : (c : List Point) (r : Option (List Point)) (visits : ℕ) → WalkAnswer IsZeroTurn c r visits → KeptAnswer c r
kept_answer c None visits w = collapsed_is_flat c w.rest w.reached w.few
kept_answer c (Some e) visits w = reach_keeps c e w.ended.reached

-- if Q holds of each point of the contour, it holds of each that the walk leaves
pub all_answered : (P : Test) {X : Type 0} (Q : Point → Type 0) (f : X → List Point) (c : List Point) (r : Option X) (visits : ℕ) → WalkAnswer P c (option_map f r) visits → All Q c → IfSome r (λ x. All Q (f x))
all_answered P Q f c None visits w h = tt
all_answered P Q f c (Some x) visits w h = all_left Q w.ended.reached h

-- a walk leaves a sublist of the contour
pub in_order_answered : (P : Test) {X : Type 0} (f : X → List Point) (c : List Point) (r : Option X) (visits : ℕ) → WalkAnswer P c (option_map f r) visits → IfSome r (λ x. Sublist c (f x))
in_order_answered P f c None visits w = tt
in_order_answered P f c (Some x) visits w = sublist_reached w.ended.reached

-- a walk's visits are within the bounds
pub visits_answer : (P : Test) (c : List Point) (r : Option (List Point)) (visits : ℕ) → WalkAnswer P c r visits → VisitsAnswer c r visits
visits_answer P c None visits w = record { least = w.least; most = w.most }
visits_answer P c (Some e) visits w = record { least = w.least; most = w.most }

-- a contour of fewer than three points has collapsed before the first visit
pub short_answer : (P : Test) (c : List Point) → length c < 3 → WalkAnswer P c None 0
short_answer P c h = record { rest = c; reached = stay; few = h; least = omega arith; most = omega arith }

-- a walk by back vertices returns the spikeless answer
pub spikeless_answer : (c : List Point) (r : Option (List Point)) (visits : ℕ) → WalkAnswer IsBack c r visits → SpikelessAnswer c r
spikeless_answer c None visits w = λ e f. (every_order c).none w.rest e (reach_by_weaker back_straightens.weaker w.reached) w.few f
spikeless_answer c (Some d) visits w = record {
  ended = w.ended;
  enough = w.enough;
  spikeless = spikeless_end d w.enough w.ended.none_left;
  uncollapsed = uncollapsed;
  ends = λ e f a b. (ends_agree c).ends d e f w.ended w.enough a b;
}
  where
    uncollapsed : (e : List Point) → End IsZeroTurn c e → 3 ≤ length e
    uncollapsed e a = go (cases_lt (length e) 3)
      where
        go : IsCollapsed e ⊎ (3 ≤ length e) → 3 ≤ length e
        go (inl h) = absurd (omega (arith, w.enough, ((ends_agree c).alike d e w.ended a).1 h))
        go (inr h) = h

-- a walk by back vertices keeps double area, the points inside and winding numbers
pub kept_spikeless : (c : List Point) (r : Option (List Point)) (visits : ℕ) → WalkAnswer IsBack c r visits → KeptAnswer c r
kept_spikeless c None visits w = collapsed_is_flat c w.rest (reach_by_weaker back_straightens.weaker w.reached) w.few
kept_spikeless c (Some d) visits w = reach_keeps c d (reach_by_weaker back_straightens.weaker w.ended.reached)

-- a result that equals what the walk leaves, with its count, is the walk's answer
pub walk_kept : {X E : Type 0} (P : Test) (c : List Point) (shown : X → Option (List Point)) (count : X → ℕ) (result : Result X E) (left : Option (List Point)) (visits : ℕ)
    → IfOk result (λ r. (shown r ≡ left) × (count r ≡ visits)) → WalkAnswer P c left visits → IfOk result (λ r. WalkAnswer P c (shown r) (count r))
walk_kept P c shown count result left visits reach_keeps answer = IfOk-weaker result _ _ (λ r w. rw (w.0, w.1) answer) reach_keeps
