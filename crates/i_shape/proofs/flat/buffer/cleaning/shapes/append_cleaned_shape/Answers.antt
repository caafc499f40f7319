use Rattle.std.proofs.Common.{◌≡◌, ◌∙◌, true, false, length, refl, subst, All, is_some}
use Rattle.std.proofs.lemmas.List.Elements.{All-head, All-tail}
use Rattle.i_shape.proofs.Common.{contour_of, IsSafe, InOrder, part_of, slices, contours_of}
use Rattle.i_shape.proofs.Buffers.CleanedShapes.{appends-empty, appends-none, appends-whole}
use Rattle.i_shape.proofs.flat.buffer.cleaning.shapes.append_cleaned_shape.Goals as goal

pub returns-in_default-clause-ok : goal.returns-in_default-clause-ok
returns-in_default-clause-ok g c =
    appends-empty g.T.IntNumber.value c.args.source.now c.args.named.now c.args.kept.now _ c.len-start.result c.in_default.ensures.cases (c.len-start.ensures ∙ c.args.kept.now.contour_ranges.ok.0) refl refl c.in_ok-push.ensures.items

pub part-requires : goal.part-requires
part-requires g c =
    All-head (InOrder (length c.args.source.now)) c.in-Some.outer.now c.in-Some.holes.now (subst (All (InOrder (length c.args.source.now))) c.in-Some.ensures.cases.0 c.requires.readable)

pub append_cleaned-requires : goal.append_cleaned-requires
append_cleaned-requires g c =
    let value = g.T.IntNumber.value in
    let source = c.args.source.now in
    rw c.part.ensures
    (All-head (All (IsSafe g.T.IntNumber.width)) (contour_of value (part_of source c.in-Some.outer.now)) (contours_of value (slices source c.in-Some.holes.now)) (rw c.in-Some.ensures.cases.0 at c.requires.safe))

pub returns-then-not-left-clause-ok : goal.returns-then-not-left-clause-ok
returns-then-not-left-clause-ok g c =
    let value = g.T.IntNumber.value in
    let step = c.in_ok-left.ensures.ok in
    let told : false ≡ is_some step.0 = cc in
    appends-none value c.args.source.now c.args.named.now c.args.kept.now _ c.in-Some.outer.now c.in-Some.holes.now c.in-Some.ensures.cases.0 step.0 (rw c.part.ensures at step.1) step.2 told refl

pub append_parts-requires-clause-readable : goal.append_parts-requires-clause-readable
append_parts-requires-clause-readable g c =
    All-tail (InOrder (length c.args.source.now)) c.in-Some.outer.now c.in-Some.holes.now (subst (All (InOrder (length c.args.source.now))) c.in-Some.ensures.cases.0 c.requires.readable)

pub append_parts-requires-clause-safe : goal.append_parts-requires-clause-safe
append_parts-requires-clause-safe g c =
    let value = g.T.IntNumber.value in
    let source = c.args.source.now in
    All-tail (All (IsSafe g.T.IntNumber.width)) (contour_of value (part_of source c.in-Some.outer.now)) (contours_of value (slices source c.in-Some.holes.now)) (rw c.in-Some.ensures.cases.0 at c.requires.safe)

pub returns-clause-ok : goal.returns-clause-ok
returns-clause-ok g c =
    let value = g.T.IntNumber.value in
    let step = c.in_ok-left.ensures.ok in
    let rest = c.in_ok-append_parts.ensures.ok in
    let told : true ≡ is_some step.0 = cc in
    appends-whole value c.args.source.now c.args.named.now c.args.kept.now _ c.in-Some.outer.now c.in-Some.holes.now c.in-Some.ensures.cases.0
    c.append_cleaned.new.points.items c.append_cleaned.new.ranges.items step.0 rest.0 c.len-start.result c.len-end.result
    (rw c.part.ensures at step.1) step.2 told rest.1 rest.2
    (c.len-start.ensures ∙ c.args.kept.now.contour_ranges.ok.0) (c.len-end.ensures ∙ c.append_parts.new.ranges.ok.0) c.in_ok-push-2.ensures.items
