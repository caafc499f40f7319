-- What removing spikes in place leaves.
use Rattle.std.proofs.Common.{◌≡◌, true, false, Ok, List, [], length, ap, arith, refl}
use Rattle.i_shape.proofs.Common.{Point, NoSpikes, EachEndCollapses, DespikeAnswer, DespikesContour}
use Rattle.i_shape_core.proofs.CleanerAnswers.Kept.{collapsed_flat, spikeless_long, spikeless_stays}
use Rattle.i_shape.proofs.InPlace.Contours.{contour_stays, contour_collapses}

-- a contour without spikes is unchanged
pub spikeless_stays_in_place : (c : List Point) → NoSpikes c → DespikesContour c c (Ok false)
spikeless_stays_in_place c s = record {
  contour = contour_stays NoSpikes DespikeAnswer c s (spikeless_stays c s) (spikeless_long c s);
  again = λ b e. (λ t. omega (arith, spikeless_long c t), λ h. s);
  spared = λ few. refl;
}

-- a contour that collapses becomes empty
pub spikes_collapse : (c d : List Point) → (NoSpikes c → ⊥) → EachEndCollapses c → d ≡ [] → DespikesContour c d (Ok true)
spikes_collapse c d n ends e = record {
  contour = contour_collapses NoSpikes DespikeAnswer c d n (record { clean = λ t. absurd (n t); cleaned = λ t. ends }) (collapsed_flat c ends) e;
  again = λ b f. (λ t. omega (arith, spikeless_long d t), λ h. absurd (omega (arith, ap length e)));
  spared = λ few. refl;
}
