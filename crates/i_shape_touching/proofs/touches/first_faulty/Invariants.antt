use Rattle.std.proofs.Common.{ℕ, ◌<◌, get_or}
use Rattle.i_shape_core.specs.IntPoint.{contour_of}
use Rattle.i_shape_contacts.specs.declared.plain.Contact.{Contact}
use Rattle.i_shape_touching.specs.Touching.{IsFaultyContact}
use Rattle.i_shape_touching.proofs.touches.first_faulty.Given as goal

abbrev pub invariant-loop-contact : goal.invariant-loop-contact
invariant-loop-contact g l = (k : ℕ) (d : Contact) → k < l.contact-index
    → IsFaultyContact l.offsets (contour_of g.P.Coordinate.IntNumber.value (g.P.ContourPoint.points l.points)) (get_or l.contacts k d).first (get_or l.contacts k d).second → ⊥
