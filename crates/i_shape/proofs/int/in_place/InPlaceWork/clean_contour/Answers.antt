use Rattle.std.proofs.Common.{◌≡◌, ◌<◌, List, length, take, sym, ap, ◌∙◌, subst, arith}
use Rattle.std.proofs.lemmas.List.{length-map}
use Rattle.std.proofs.lemmas.Grind.{common_steps}
use Rattle.i_shape.proofs.Common.{contour_of, point_of, slot, IntPoint}
use Rattle.i_shape_core.proofs.CleanerAnswers.Written.{slot_some}
use Rattle.i_shape.proofs.InPlace.Left.{written_whole}
use Rattle.i_shape.proofs.int.in_place.InPlaceWork.clean_contour.Goals as goal

pub is_clean-requires : goal.is_clean-requires
is_clean-requires g c =
    rw c.as_slice.ensures.value c.requires.safe

pub returns-then-is_clean-clause-left : goal.returns-then-is_clean-clause-left
returns-then-is_clean-clause-left g c =
    let contour = contour_of g.I.IntNumber.value c.args.contour.now.items in
    let clean = rw c.as_slice.ensures.value at (c.is_clean.ensures.0 c.if-is_clean.true) in
    let some : 0 < length contour = omega (arith, c.if-len-lt3.false, c.len.ensures, c.args.contour.now.ok.0, length-map c.args.contour.now.items (point_of g.I.IntNumber.value)) in
    subst (g.C.ContourCleaner.meaning.answers contour) (sym (slot_some contour some)) (g.met.C.InPlaceCleaner.stays contour clean)

pub returns-clause-left : goal.returns-clause-left
returns-clause-left g c =
    let value = g.I.IntNumber.value in
    let out = c.write_left-left.new.out in
    let n = c.write_left-left.result in
    let Left : List (IntPoint g.row.I.Denot) → List (IntPoint g.row.I.Denot) → Type 0 = λ given left. g.C.ContourCleaner.meaning.answers (contour_of value given) (slot (contour_of value left)) in
    let copied : c.as_slice-3.result.now ≡ c.args.contour.now.items = grind (arith, common_steps) in
    let left : c.truncate.new.self.items ≡ take n out = c.truncate.ensures.items ∙ ap (take n) (written_whole out _ c.args.contour.now.len (omega (arith, c.as_mut_slice.ensures.len, c.write_left-left.ensures.len))) in
    subst (λ w. Left c.args.contour.now.items w) (sym left) (subst (λ w. Left w (take n out)) copied c.write_left-left.ensures.written.cleaned.answer)
