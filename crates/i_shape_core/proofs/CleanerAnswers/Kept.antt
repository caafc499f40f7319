-- What a cleaner's answer keeps of its contour.
use Rattle.std.proofs.Common.{◌≡◌, ℕ, zero, suc, ◌<◌, ◌≤◌, ◌⊎◌, List, [], length, Option, Some, None, Bool, true, false, inl, inr, refl, sym, ◌∙◌, subst, arith, eq-or-lt_of_le, le_of_suc-le-suc, All}
use Rattle.std.proofs.lemmas.Bool.{cases_lt}
use native.Mathlib.Decide.{dec_le, dec_lt}
use Rattle.i_shape_core.proofs.Common.{Point, IsBack, IsZeroTurn, IsRemovable, Reach, stay, step, point_at, place_before, place_after, SimpleAnswer, SpikelessAnswer, DespikeAnswer, IsDespikedAlready, EachEndCollapses, KeptAnswer, IsKept, IsFlat}
use Rattle.i_shape_core.specs.Convex.{dedup, cross_at, is_reversal, IsReversal, NoSpikes}
use Rattle.i_shape_core.proofs.Removal.Ends.{has_end, all_left, reach_by_weaker, reach_shrinks, step_length}
use Rattle.i_shape_core.proofs.Lists.FirstPlaces.{none_found}
use Rattle.i_shape_core.proofs.Removal.Repeats.{dedup_leads}
use Rattle.i_shape_core.proofs.Removal.ZeroTurns.{zero_turn_decided}
use Rattle.i_shape_core.proofs.Removal.WithoutBack.{back_straightens}
use Rattle.i_shape_core.proofs.Walks.Found.{reach_keeps, collapsed_is_flat, no_area, spikeless_answer}
use Rattle.i_shape_core.proofs.Sums.Windings.{winding_none}
use Rattle.i_shape_core.proofs.Sums.RationalWindings.{between_none}
use Rattle.i_shape_core.proofs.Sums.Inside.{inside_laws}
use Rattle.i_shape_core.proofs.Walks.Spikes.{reversal_yes, reversal_no}

-- P holds of some number, or of none below m
find_number : (P : ℕ → Type 0) → ((k : ℕ) → Dec (P k)) → (m : ℕ) → ((k : ℕ) × P k) ⊎ ((k : ℕ) → k < m → P k → ⊥)
find_number P dec zero = inr (λ k h p. absurd (omega arith))
find_number P dec (suc m) = go (find_number P dec m) (dec m)
  where
    go : ((k : ℕ) × P k) ⊎ ((k : ℕ) → k < m → P k → ⊥) → Dec (P m) → ((k : ℕ) × P k) ⊎ ((k : ℕ) → k < suc m → P k → ⊥)
    go (inl x) d = inl x
    go (inr n) (yes p) = inl (m, p)
    go (inr n) (no q) = inr (λ k h p. elim (eq-or-lt_of_le (le_of_suc-le-suc h)) [ inl e ↦ q (subst P e p) | inr l ↦ n k l p ])

reversal_decided : (c : List Point) (k : ℕ) → Dec (IsReversal c k)
unfolding cross_at
reversal_decided c k = go (dec_lt k (length c)) (is_reversal before here after) refl
  where
    before : Point
    before = point_at c (place_before (length c) k)

    here : Point
    here = point_at c k

    after : Point
    after = point_at c (place_after (length c) k)

    go : Dec (k < length c) → (b : Bool) → is_reversal before here after ≡ b → Dec (IsReversal c k)
    go (yes h) true e = let r = reversal_yes before here after e in yes (record { within = h; straight = r.0; back = r.1 })
    go (yes h) false e = no (λ r. reversal_no before here after e (r.straight, r.back))
    go (no n) b e = no (λ r. n r.within)

-- whether a contour has spikes is decidable
pub spikes_decided : (c : List Point) → Dec (NoSpikes c)
spikes_decided c = go (dec_le 3 (length (dedup c))) (find_number (IsReversal (dedup c)) (reversal_decided (dedup c)) (length (dedup c)))
  where
    go : Dec (3 ≤ length (dedup c)) → ((k : ℕ) × IsReversal (dedup c) k) ⊎ ((k : ℕ) → k < length (dedup c) → IsReversal (dedup c) k → ⊥) → Dec (NoSpikes c)
    go (yes h) (inl r) = no (λ s. s.none r.0 r.1)
    go (yes h) (inr n) = yes (record { enough = h; none = λ k r. n k r.within r })
    go (no h) f = no (λ s. h s.enough)

-- a contour keeps its own measures
pub keeps_itself : (c : List Point) → IsKept c c
keeps_itself c = record { area = refl; inside = λ p. (λ i. i, λ i. i); winding = λ p. refl; between = λ n p. refl }

-- the empty contour keeps the measures of a flat one
pub nothing_keeps : (c : List Point) → IsFlat c → IsKept c []
nothing_keeps c f = record { area = no_area [] (omega arith) ∙ sym f.area; inside = λ p. (λ i. absurd ((inside_laws [] []).none (omega arith) p i), λ i. absurd (f.inside p i)); winding = λ p. winding_none [] (omega arith) p ∙ sym (f.winding p); between = λ n p. between_none [] (omega arith) n p ∙ sym (f.between n p) }

-- a contour that collapses is flat
pub collapsed_flat : (c : List Point) → EachEndCollapses c → IsFlat c
collapsed_flat c h = let w = has_end zero_turn_decided c in collapsed_is_flat c w.0 w.1.reached (h w.0 w.1)

-- a simple answer keeps the contour's measures
pub simple_kept : (c : List Point) (r : Option (List Point)) → SimpleAnswer c r → KeptAnswer c r
simple_kept c None a = collapsed_flat c a
simple_kept c (Some e) a = reach_keeps c e a.ended.reached

spikeless_kept : (c : List Point) (r : Option (List Point)) → SpikelessAnswer c r → KeptAnswer c r
spikeless_kept c None a = collapsed_flat c a
spikeless_kept c (Some d) a = reach_keeps c d (reach_by_weaker back_straightens.weaker a.ended.reached)

-- a despike answer keeps the contour's measures
pub despike_kept : (c : List Point) (r : Option (List Point)) → DespikeAnswer c r → KeptAnswer c r
despike_kept c r a = go (spikes_decided c)
  where
    go : Dec (NoSpikes c) → KeptAnswer c r
    go (yes s) = rw (a.clean s) (keeps_itself c)
    go (no n) = spikeless_kept c r (a.cleaned n)

-- if Q holds of each point of the contour, it holds of each point of its simple answer
pub simple_left : (Q : Point → Type 0) (c e : List Point) → SimpleAnswer c (Some e) → All Q c → All Q e
simple_left Q c e a h = all_left Q a.ended.reached h

-- if Q holds of each point of the contour, it holds of each point of its despike answer
pub despike_left : (Q : Point → Type 0) (c e : List Point) → DespikeAnswer c (Some e) → All Q c → All Q e
despike_left Q c e a h = go (spikes_decided c)
  where
    go : Dec (NoSpikes c) → All Q e
    go (yes s) = let same : e ≡ c = cc (a.clean s) in rw same h
    go (no n) = all_left Q (a.cleaned n).ended.reached h

-- a contour without spikes has at least three points
pub spikeless_long : (c : List Point) → NoSpikes c → 3 ≤ length c
spikeless_long c s = omega (arith, s.enough, reach_shrinks (dedup_leads c s.enough))

-- removing spikes from a contour without spikes changes nothing
pub spikeless_stays : (c : List Point) → NoSpikes c → DespikeAnswer c (Some c)
spikeless_stays c s = record { clean = λ _. refl; cleaned = λ spiked. absurd (spiked s) }

-- a contour of at least three points without back vertices is despiked already
pub despiked_stays : (c : List Point) → 3 ≤ length c → ((k : ℕ) → IsRemovable IsBack c k → ⊥) → IsDespikedAlready c
despiked_stays c long none = spikeless_answer c (Some c) (length c) (none_found c (length c) long none refl)

-- each end of a contour of fewer than four points has collapsed unless the contour is despiked already
pub few_collapse : (c : List Point) → length c < 4 → (IsDespikedAlready c → ⊥) → EachEndCollapses c
few_collapse c few spiked e f = go (cases_lt (length e) 3)
  where
    unmoved : (d : List Point) → Reach IsZeroTurn c d → 3 ≤ length d → c ≡ d
    unmoved d stay long = refl
    unmoved d (step s r) long = absurd (omega (arith, few, long, step_length s, reach_shrinks r))

    go : (length e < 3) ⊎ (3 ≤ length e) → length e < 3
    go (inl low) = low
    go (inr long) = absurd (spiked (despiked_stays c (omega (arith, long, reach_shrinks f.reached)) (λ k r. f.none_left k
        (subst (λ (d : List Point). IsRemovable IsZeroTurn d k) (unmoved e f.reached long) (record { enough = r.enough; within = r.within; passes = r.passes.0 })))))
