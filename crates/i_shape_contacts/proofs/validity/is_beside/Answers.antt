use Rattle.std.proofs.Common.{◌≡◌, ◌↔◌, ℤ, pos, eqb, IsTrue, FitsSigned, w64, to_z, of_z, refl, sym, ap, ◌∙◌}
use Rattle.std.proofs.lemmas.Bool.{eqb-true}
use Rattle.std.proofs.lemmas.Int.{to_z-of_z}
use Rattle.i_shape_core.specs.IntPoint.{contour_of}
use Rattle.i_shape_core.specs.Winding.{winding}
use Rattle.i_shape_contacts.proofs.validity.is_beside.Goals as goal

-- a number of the program is 0 where its bits are
zero_test : (z : ℤ) → FitsSigned w64 z → IsTrue (eqb (of_z w64 z) 0) ↔ (z ≡ pos 0)
zero_test z fits = (λ t. sym (to_z-of_z w64 z fits) ∙ ap (to_z w64) (eqb-true (of_z w64 z) 0 t), λ e. rw e refl)

pub returns : goal.returns
returns g c =
    let fits : FitsSigned w64 c.winding_about.result = record { sfits = c.winding_about.type_inv } in
    let told = zero_test c.winding_about.result fits in
    let same = c.winding_about.ensures.answer ∙ ap (winding (contour_of g.P.Coordinate.IntNumber.value (g.P.ContourPoint.points c.args.ring.now))) c.point_of_place.ensures.at in
    (λ t. sym same ∙ told.0 t, λ e. told.1 (same ∙ e))
