-- Boundaries of simple polygons, and valid polygons, where zero turns are taken out.
use Rattle.std.proofs.Common.{◌≡◌, ℕ, List, Option, Some, None, refl, arith}
use Rattle.i_shape_core.specs.Point.{Point, IsBack, IsZeroTurn}
use Rattle.i_shape_core.specs.Contour.{End, Reach, stay, step}
use Rattle.i_shape_core.specs.Cleaners.{SimpleAnswer, SpikelessAnswer, EachEndCollapses}
use Rattle.i_shape_core.specs.Convex.{NoSpikes}
use Rattle.i_shape_core.proofs.Removal.Ends.{has_end, no_step}
use Rattle.i_shape_core.proofs.Removal.ZeroTurns.{zero_turn_decided}
use Rattle.i_shape_core.proofs.Walks.Spikes.{spikeless_end}
use Rattle.i_shape_contacts.specs.Contacts.{IsSimplePolygon}
use Rattle.i_shape_contacts.proofs.Removal.{no_contact_kept, simple_polygon_kept, none_back}
use Rattle.i_shape_contacts.proofs.Valid.{valid_kept}
use Rattle.i_shape_laws.specs.Contacts.{SimplePolygonKept, ValidPolygonKept}

-- not each end of the boundary of a simple polygon collapses
uncollapsed : (c : List Point) → IsSimplePolygon c → EachEndCollapses c → ⊥
uncollapsed c s each = collapses (has_end zero_turn_decided c)
  where
    collapses : ((e : List Point) × End IsZeroTurn c e) → ⊥
    collapses f = let enough = (simple_polygon_kept c f.0 f.1.reached s).enough in let few = each f.0 f.1 in omega (arith, enough, few)

-- `simplified` returns the boundary of a simple polygon
simplified_kept : (c : List Point) → IsSimplePolygon c → (r : Option (List Point)) → SimpleAnswer c r → (e : List Point) × (r ≡ Some e) × IsSimplePolygon e
simplified_kept c s None each = absurd (uncollapsed c s each)
simplified_kept c s (Some e) one = (e, refl, simple_polygon_kept c e one.ended.reached s)

-- `despiked_contour` returns the contour itself
despiked_kept : (c : List Point) → IsSimplePolygon c → (r : Option (List Point)) → SpikelessAnswer c r → r ≡ Some c
despiked_kept c s None each = absurd (uncollapsed c s each)
despiked_kept c s (Some d) despiked = go despiked.ended.reached
  where
    go : {d : List Point} → Reach IsBack c d → Some d ≡ Some c
    go stay = refl
    go (step first more) = absurd (no_step (none_back c s) first)

-- there are no spikes to remove
spikeless : (c : List Point) → IsSimplePolygon c → NoSpikes c
spikeless c s = spikeless_end c s.enough (none_back c s)

-- removals of zero turns keep simple polygons
pub kept_simple : (c : List Point) → SimplePolygonKept c
kept_simple c = record {
  no_contact = λ clear d r. no_contact_kept c d r clear;
  simple = λ s d r. simple_polygon_kept c d r s;
  simplified = simplified_kept c;
  despiked = despiked_kept c;
  spikes_removed = λ s r a. a.clean (spikeless c s);
}

-- and valid ones
pub kept_valid : (offsets : List ℕ) (c : List Point) (left : List ℕ) (e : List Point) → ValidPolygonKept offsets c left e
kept_valid offsets c left e w valid = valid_kept offsets left c e w.divided w.left_divided w.count w.each valid
