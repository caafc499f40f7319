use Rattle.std.proofs.Common.{rules, tests, ◌≡◌, ◌≢◌, ℤ}
use Rattle.std.specs.Global.{Vec}
use Rattle.std.proofs.lemmas.Iterator.{cases_from_any, YieldsList-from_slice}
use Rattle.i_shape.specs.IntPoint.{contour_of}
use Rattle.i_shape.specs.IntPoints.{IntPoint}
use Rattle.callers.proofs.SamePoints.{told_of_mapped}
use Rattle.callers.proofs.store.has_form.Goals as goal

pub returns : goal.returns
returns g c =
    let value : g.row.I.Denot → ℤ = g.I.IntNumber.value in
    let wanted = contour_of value c.args.form.now in
    let cases = cases_from_any _ _ c.any.result (λ (other : Vec (IntPoint g.row.I.Denot)). contour_of value other.items ≡ wanted)
    (λ (other : Vec (IntPoint g.row.I.Denot)). contour_of value other.items ≢ wanted) c.any.ensures.ran
    (YieldsList-from_slice c.args.forms.now cc) (λ x q k. search (rules, tests)) (λ x q k. search (rules, tests)) in
    told_of_mapped (λ (other : Vec (IntPoint g.row.I.Denot)). contour_of value other.items) c.args.forms.now wanted c.any.result cases
