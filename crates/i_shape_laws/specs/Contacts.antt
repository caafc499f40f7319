-- Laws of contacts of edges.
use Rattle.std.specs.Prelude.{◌≡◌, ◌+◌, ◌<◌, ℕ, List, length, Option, Some}
use Rattle.i_shape_core.specs.Point.{Point, IsZeroTurn}
use Rattle.i_shape_core.specs.Contour.{Reach}
use Rattle.i_shape_core.specs.Rings.{nth_ring}
use Rattle.i_shape_core.specs.Cleaners.{SimpleAnswer, SpikelessAnswer, DespikeAnswer}
use Rattle.i_shape_contacts.specs.Contacts.{IsContact, NoContact, IsSimplePolygon}
use Rattle.i_shape_contacts.specs.Courses.{DividesPoints}
use Rattle.i_shape_contacts.specs.Validity.{IsValidPolygon}

-- removing zero turns brings no edges into contact, and the boundary of a simple polygon stays one, so it doesn't
-- collapse: `simplified` returns the boundary of a simple polygon, `despiked_contour` and `remove_spikes` leave the
-- contour as it is
pub record SimplePolygonKept (c : List Point) : Type 0 where
  pub no_contact : NoContact (IsContact c) → (d : List Point) → Reach IsZeroTurn c d → NoContact (IsContact d)
  pub simple : IsSimplePolygon c → (d : List Point) → Reach IsZeroTurn c d → IsSimplePolygon d
  pub simplified : IsSimplePolygon c → (r : Option (List Point)) → SimpleAnswer c r → (e : List Point) × (r ≡ Some e) × IsSimplePolygon e
  pub despiked : IsSimplePolygon c → (r : Option (List Point)) → SpikelessAnswer c r → r ≡ Some c
  pub spikes_removed : IsSimplePolygon c → (r : Option (List Point)) → DespikeAnswer c r → r ≡ Some c

-- both offsets divide their points into as many rings, and removals lead from each ring of c to the one of e at its
-- place
pub record AreReached (offsets : List ℕ) (c : List Point) (left : List ℕ) (e : List Point) : Type 0 where
  pub divided : DividesPoints (length c) offsets
  pub left_divided : DividesPoints (length e) left
  pub count : length left ≡ length offsets
  pub each : (k : ℕ) → k + 1 < length offsets → Reach IsZeroTurn (nth_ring c offsets k) (nth_ring e left k)

-- removals of points of its rings leave a valid polygon valid
abbrev pub ValidPolygonKept : List ℕ → List Point → List ℕ → List Point → Type 0
ValidPolygonKept offsets c left e = AreReached offsets c left e → IsValidPolygon offsets c → IsValidPolygon left e
