use Rattle.std.proofs.Common.{◌≡◌, ℕ, ◌++◌, ◌∙◌, ap, get_or, option_map, All, option_to_list}
use Rattle.i_shape.proofs.Common.{Range, contour_of, IsSafe, Survivors, contours_of}
use Rattle.std.proofs.lemmas.List.{get_or_default, map-append}
use Rattle.i_shape.proofs.Buffers.CleanedContours.{contour_at, contour-read, contours-all, map-option_to_list}
use Rattle.i_shape.proofs.Lists.Surviving.{survivors-more}
use Rattle.i_shape.proofs.Buffers.CleanedShapes.{grows_chain}
use Rattle.i_shape.proofs.flat.buffer.cleaning.parts.append_parts.Goals as goal

pub append_cleaned-requires : goal.append_cleaned-requires
append_cleaned-requires g c =
    rw c.part.ensures (contour-read g.T.IntNumber.value c.args.source.now c.args.named.now c.loop-range.range-index (record { start = 0; end = 0 }) c.loop-range-test.true (All (IsSafe g.T.IntNumber.width)) c.requires.safe)

pub loop-range-preserved : goal.loop-range-preserved
loop-range-preserved g c =
    let value = g.T.IntNumber.value in
    let named = c.args.named.now in
    let i = c.loop-range.range-index in
    let d : Range ℕ = record { start = 0; end = 0 } in
    let inv = c.loop-range.invariant in
    let step = c.in_ok-append_cleaned.ensures.ok in
    let here = rw c.part.ensures at step.1 in
    let more = survivors-more (contour_at value c.args.source.now) g.C.ContourCleaner.meaning.answers named i (get_or named i d) (contours_of value inv.0) (option_map (contour_of value) step.0) c.loop-range-test.true (get_or_default named i d (get_or named i d) c.loop-range-test.true) inv.1 here in
    let joins : contours_of value (inv.0 ++ option_to_list step.0) ≡ contours_of value inv.0 ++ option_to_list (option_map (contour_of value) step.0) =
    map-append (contour_of value) inv.0 (option_to_list step.0) ∙ ap (λ w. contours_of value inv.0 ++ w) (map-option_to_list (contour_of value) step.0) in (
      inv.0 ++ option_to_list step.0,
      rw joins more,
      grows_chain _ _ _ _ _ _ inv.0 (option_to_list step.0) inv.2 step.2,
    )

pub returns-clause-ok : goal.returns-clause-ok
returns-clause-ok g c =
    let value = g.T.IntNumber.value in
    let inv = c.loop-range.invariant in
    (inv.0, contours-all value c.args.source.now c.args.named.now c.loop-range.range-index (λ w. Survivors g.C.ContourCleaner.meaning.answers w (contours_of value inv.0)) c.loop-range-test.false inv.1, inv.2)
