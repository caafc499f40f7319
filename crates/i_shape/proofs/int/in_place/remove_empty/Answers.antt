use Rattle.std.proofs.Common.{rules, ◌≡◌, Bool, ◌∙◌, ap, filter}
use Rattle.std.proofs.lemmas.Fn.{filter_same}
use Rattle.i_shape.proofs.Common.{Vec, contour_of, IntPoint, shape_of, has_points}
use Rattle.i_shape.proofs.InPlace.Left.{has_points_told, filter_read}
use Rattle.i_shape.proofs.int.in_place.remove_empty.Goals as goal

pub returns : goal.returns
returns g c =
    let value = g.I.IntNumber.value in
    let test : Vec (IntPoint g.row.I.Denot) → Bool = λ v. has_points (contour_of value v.items) in
    let kept : c.retain.new.self.items ≡ filter test c.args.shape.now.items = filter_same _ test _ (λ x b f' k. search (rules, has_points_told value x.items x.len x.ok.0)) _ _ c.retain.ensures.filtered in
    ap (shape_of value) kept ∙ filter_read (λ v. contour_of value v.items) has_points c.args.shape.now.items
