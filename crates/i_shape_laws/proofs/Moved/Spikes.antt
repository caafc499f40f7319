-- Spikes and repeated points of a contour whose points are mapped by f.
use Rattle.std.proofs.Common.{◌≡◌, ℕ, ◌<◌, List, [], ◌∷◌, length, map, refl, sym, ap, subst, ◌∙◌, arith, ◌↔◌, Bool, true, false, cond, Option, Some, None, option_map}
use Rattle.std.proofs.lemmas.List.{length-map}
use Rattle.i_shape_core.specs.Point.{Point, IsZeroTurn, IsBack}
use Rattle.i_shape_core.specs.Contour.{Rotation}
use Rattle.i_shape_core.specs.Convex.{is_same, changes_after, last_of, dedup, cross_at, IsReversal, NoSpikes}
use Rattle.i_shape_core.specs.Cleaners.{IsDespiked, SpikelessAnswer, DespikeAnswer}
use Rattle.i_shape_core.proofs.Removal.Dedup.{same_yes, same_self, same_no, apart_no}
use Rattle.i_shape_core.proofs.Moved.Mapped.{Carries, point_mapped, point_before_mapped, point_after_mapped, passes_at_equal_points, rotation_mapped}
use Rattle.i_shape_laws.proofs.Moved.Ends.{Returns, Apart, end_mapped, end_back, end_back_to, one_mapped, rotation_back, answer_mapped}
use Rattle.i_shape_core.proofs.Convex.Laws.{IsReversed}

module _ (f : Point → Point) (apart : Apart f) where
  same_mapped : (p q : Point) → is_same (f p) (f q) ≡ is_same p q
  same_mapped p q = go (is_same p q) refl
    where
      go : (t : Bool) → is_same p q ≡ t → is_same (f p) (f q) ≡ is_same p q
      go true e = subst (λ (x : Point). is_same (f p) (f x) ≡ true) (same_yes p q e) (same_self (f p)) ∙ sym e
      go false e = apart_no (f p) (f q) (λ h. same_no p q e (apart p q h)) ∙ sym e

  chosen : (t : Bool) (p : Point) (l : List Point) → cond t (map f l) (f p ∷ map f l) ≡ map f (cond t l (p ∷ l))
  chosen true p l = refl
  chosen false p l = refl

  changes_mapped : (q : Point) (ps : List Point) → changes_after (f q) (map f ps) ≡ map f (changes_after q ps)
  changes_mapped q [] = refl
  changes_mapped q (p ∷ ps) = ap (λ (l : List Point). cond (is_same (f q) (f p)) l (f p ∷ l)) (changes_mapped p ps)
      ∙ ap (λ (t : Bool). cond t (map f (changes_after p ps)) (f p ∷ map f (changes_after p ps))) (same_mapped q p) ∙ chosen (is_same q p) p (changes_after p ps)

  last_mapped : (q : Point) (ps : List Point) → last_of (f q) (map f ps) ≡ f (last_of q ps)
  last_mapped q [] = refl
  last_mapped q (p ∷ ps) = last_mapped p ps

  -- removing repeated points and mapping is mapping and removing repeated points
  pub dedup_mapped : (c : List Point) → dedup (map f c) ≡ map f (dedup c)
  unfolding dedup
  dedup_mapped [] = refl
  dedup_mapped (p ∷ ps) = ap (λ (x : Point). changes_after x (map f (p ∷ ps))) (last_mapped p ps) ∙ changes_mapped (last_of p ps) (p ∷ ps)

module _ (f : Point → Point) (apart : Apart f) (carries : Carries f IsReversed IsReversed) (returns : Returns f IsReversed IsReversed) where
  reversal_mapped : (c : List Point) (k : ℕ) → IsReversal c k → IsReversal (map f c) k
  unfolding cross_at
  reversal_mapped c k r =
      let w = passes_at_equal_points f IsReversed _ _ _ _ _ _ (sym (point_before_mapped f c k r.within)) (sym (point_mapped f c k r.within)) (sym (point_after_mapped f c k r.within)) (carries _ _ _ (r.straight, r.back)) in
      record { within = omega (arith, length-map c f, r.within); straight = w.0; back = w.1 }

  reversal_back : (c : List Point) (k : ℕ) → IsReversal (map f c) k → IsReversal c k
  unfolding cross_at
  reversal_back c k r =
      let within : k < length c = omega (arith, length-map c f, r.within) in
      let w = returns _ _ _ (passes_at_equal_points f IsReversed _ _ _ _ _ _ (point_before_mapped f c k within) (point_mapped f c k within) (point_after_mapped f c k within) (r.straight, r.back)) in
      record { within = within; straight = w.0; back = w.1 }

  same_length : (c : List Point) → length (dedup (map f c)) ≡ length (dedup c)
  same_length c = ap length (dedup_mapped f apart c) ∙ length-map (dedup c) f

  -- a contour has no spikes exactly if its image has none
  pub spikeless_mapped : (c : List Point) → NoSpikes c ↔ NoSpikes (map f c)
  spikeless_mapped c = (there, back)
    where
      there : NoSpikes c → NoSpikes (map f c)
      there s = record {
        enough = omega (arith, same_length c, s.enough);
        none = λ k r. s.none k (reversal_back (dedup c) k (subst (λ (l : List Point). IsReversal l k) (dedup_mapped f apart c) r));
      }

      back : NoSpikes (map f c) → NoSpikes c
      back s = record {
        enough = omega (arith, same_length c, s.enough);
        none = λ k r. s.none k (subst (λ (l : List Point). IsReversal l k) (sym (dedup_mapped f apart c)) (reversal_mapped (dedup c) k r));
      }

  module _ (zero : Carries f IsZeroTurn IsZeroTurn) (zero_too : Returns f IsZeroTurn IsZeroTurn) (turns : Carries f IsBack IsBack) (turns_too : Returns f IsBack IsBack) where
    despiked_mapped : (c d : List Point) → IsDespiked c d → IsDespiked (map f c) (map f d)
    despiked_mapped c d s = record {
      ended = end_mapped f turns turns_too s.ended;
      enough = omega (arith, length-map d f, s.enough);
      spikeless = (spikeless_mapped d).0 s.spikeless;
      uncollapsed = λ e w. let r = end_back f zero zero_too c e w in omega (arith, ap length r.2, length-map r.0 f, s.uncollapsed r.0 r.1);
      ends = λ e g w v.
          let r = end_back f zero zero_too c e w in
          let q = end_back f zero zero_too d g v in
          subst (λ (l : List Point). Rotation l g) (sym r.2) (subst (Rotation (map f r.0)) (sym q.2) (rotation_mapped f (s.ends r.0 q.0 r.1 q.1)));
    }

    despiked_back : (c d : List Point) → IsDespiked (map f c) (map f d) → IsDespiked c d
    despiked_back c d s = record {
      ended = end_back_to f apart turns turns_too c d s.ended;
      enough = omega (arith, length-map d f, s.enough);
      spikeless = (spikeless_mapped d).1 s.spikeless;
      uncollapsed = λ e w. omega (arith, length-map e f, s.uncollapsed (map f e) (end_mapped f zero zero_too w));
      ends = λ e g w v. rotation_back f apart e g (s.ends (map f e) (map f g) (end_mapped f zero zero_too w) (end_mapped f zero zero_too v));
    }

    spikeless_answer : (c : List Point) (r : Option (List Point)) → SpikelessAnswer c r ↔ SpikelessAnswer (map f c) (option_map (map f) r)
    spikeless_answer c None = answer_mapped f apart zero zero_too c None
    spikeless_answer c (Some d) = (despiked_mapped c d, despiked_back c d)

    same_option : (c : List Point) (r : Option (List Point)) → option_map (map f) r ≡ Some (map f c) → r ≡ Some c
    same_option c None e = absurd (cc)
    same_option c (Some d) e = let h : map f d ≡ map f c = cc in ap (λ (l : List Point). Some l) (one_mapped f apart d c h)

    -- r is a despike answer of a contour exactly if its image is one of the contour's image
    pub despike_mapped : (c : List Point) (r : Option (List Point)) → DespikeAnswer c r ↔ DespikeAnswer (map f c) (option_map (map f) r)
    despike_mapped c r = (there, back)
      where
        there : DespikeAnswer c r → DespikeAnswer (map f c) (option_map (map f) r)
        there a = record {
          clean = λ s. ap (option_map (map f)) (a.clean ((spikeless_mapped c).1 s));
          cleaned = λ n. (spikeless_answer c r).0 (a.cleaned (λ s. n ((spikeless_mapped c).0 s)));
        }

        back : DespikeAnswer (map f c) (option_map (map f) r) → DespikeAnswer c r
        back a = record {
          clean = λ s. same_option c r (a.clean ((spikeless_mapped c).0 s));
          cleaned = λ n. (spikeless_answer c r).1 (a.cleaned (λ s. n ((spikeless_mapped c).1 s)));
        }
