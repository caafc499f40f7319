use Rattle.std.proofs.Common.{◌≡◌, ◌∙◌, ℕ, ℤ, List, Option, None, Some, option_map, sym, arith, All, IfOk, Result}
use Rattle.std.specs.Global.{Vec}
use Rattle.std.specs.Int.{Width}
use Rattle.std.proofs.lemmas.Result.{IfOk-weaker}
use Rattle.i_shape_core.proofs.Common.{Point, IsZeroTurn, IsSimple, contour_of, IsSafe, WalkAnswer, IntPoint}
use Rattle.i_shape_core.specs.Cleaning.{simplifying}
use Rattle.i_shape_core.specs.Written.{CleansInOrder}
use Rattle.i_shape_core.proofs.Plane.Contours.{length-contour}
use Rattle.i_shape_core.proofs.Walks.Found.{simple_answer, kept_answer, visits_answer, short_answer, walk_kept}
use Rattle.i_shape_core.proofs.Walks.RisingPlaces.{each_rising_below}
use Rattle.i_shape_core.proofs.CleanerAnswers.Written.{walked, unless_memory}
use Rattle.i_shape_core.proofs.clean.simplifier.ContourSimplifier.simplify_counted.Given.{Over}
use Rattle.i_shape_core.proofs.clean.simplifier.ContourSimplifier.simplify_counted.Goals.{After-keep_whole}
use Rattle.i_shape_core.proofs.clean.simplifier.ContourSimplifier.simplify_counted.Goals as goal

-- the contour that a result represents
abbrev shown : {I : Type 0} → (I → ℤ) → Option (Vec (IntPoint I)) × ℕ → Option (List Point)
shown value r = option_map (λ kept. contour_of value kept.items) r.0

-- the result is the walk's answer
abbrev Found : {I E : Type 0} → (I → ℤ) → List (IntPoint I) → Result (Option (Vec (IntPoint I)) × ℕ) E → Type 0
Found value contour result = IfOk result (λ r. WalkAnswer IsZeroTurn (contour_of value contour) (shown value r) r.1)

pub returns-then-contour-lt3-clause-answer : goal.returns-then-contour-lt3-clause-answer
returns-then-contour-lt3-clause-answer g c =
    let value = g.I.IntNumber.value in
    let points = contour_of value c.before.args.contour.now in
    walked g.I.IntNumber.width IsZeroTurn simplifying points (λ (kept : Vec (IntPoint g.row.I.Denot)). contour_of value kept.items) None 0 (simple_answer points None 0) (kept_answer points None 0) c.before.requires
    (short_answer IsZeroTurn points (omega (arith, length-contour value c.before.args.contour.now)))

pub returns-then-contour-lt3-clause-visits : goal.returns-then-contour-lt3-clause-visits
returns-then-contour-lt3-clause-visits g c =
    record { least = omega (arith, length-contour g.I.IntNumber.value c.before.args.contour.now); most = omega arith }

-- the result cleans the contour if it is the walk's answer
told : {I E : Type 0} (width : Width) (value : I → ℤ) (contour : List (IntPoint I)) (result : Result (Option (Vec (IntPoint I)) × ℕ) E) → All (IsSafe width) (contour_of value contour) → Found value contour result
    → IfOk result (λ r. CleansInOrder simplifying width value (contour_of value contour) r.0)
told {I} width value contour result safe found =
    IfOk-weaker result _ _ (λ r w. walked width IsZeroTurn simplifying (contour_of value contour) (λ (kept : Vec (IntPoint I)). contour_of value kept.items) r.0 r.1
    (simple_answer (contour_of value contour) (shown value r) r.1) (kept_answer (contour_of value contour) (shown value r) r.1) safe w) found

-- if no vertex is removed, the result is the walk's answer
whole : (g : Over) (c : After-keep_whole g) → Found g.I.IntNumber.value c.args.contour.now c.keep_whole.result
whole g c =
    let points = contour_of g.I.IntNumber.value c.args.contour.now in
    let same : c.start_of_walk-probe.result.0.contour ≡ c.args.contour.now = c.start_of_walk-probe.ensures.contour ∙ c.new.ensures.contour in
    walk_kept IsZeroTurn points (shown g.I.IntNumber.value) (λ r. r.1) c.keep_whole.result (Some points) c.start_of_walk-probe.result.0.visits (rw same at c.keep_whole.ensures.kept)
    (rw c.new.ensures.contour at (c.start_of_walk-probe.ensures.clean c.in_default.is))

pub returns-in_default-clause-answer : goal.returns-in_default-clause-answer
returns-in_default-clause-answer g c =
    unless_memory c.keep_whole.result _ (told g.I.IntNumber.width g.I.IntNumber.value c.args.contour.now c.keep_whole.result c.requires (whole g c)) c.keep_whole.ensures.memory

pub returns-in_default-clause-visits : goal.returns-in_default-clause-visits
returns-in_default-clause-visits g c =
    let value = g.I.IntNumber.value in
    let points = contour_of value c.args.contour.now in
    IfOk-weaker c.keep_whole.result _ _ (λ r w. visits_answer IsZeroTurn points (shown value r) r.1 w) (whole g c)

pub keep_left-requires : goal.keep_left-requires
keep_left-requires g c = rw (c.close-probe.ensures.contour) (each_rising_below _ _ c.close-probe.ensures.rising)

pub returns-clause-answer : goal.returns-clause-answer
returns-clause-answer g c =
    let value = g.I.IntNumber.value in
    let points = contour_of value c.args.contour.now in
    let first : c.stack_places-probe.result.contour ≡ c.args.contour.now = c.stack_places-probe.ensures.contour ∙ (c.start_of_walk-probe.ensures.contour ∙ c.new.ensures.contour) in
    let same : c.close-probe.result.0.contour ≡ c.args.contour.now = c.close-probe.ensures.contour ∙ first in
    let found : Found value c.args.contour.now c.keep_left.result = walk_kept IsZeroTurn points (shown value) (λ r. r.1) c.keep_left.result _ c.close-probe.result.0.visits (rw same at c.keep_left.ensures.kept) (rw first at c.close-probe.ensures.answer) in
    unless_memory c.keep_left.result _ (told g.I.IntNumber.width value c.args.contour.now c.keep_left.result c.requires found) c.keep_left.ensures.memory

pub returns-then-contour-lt3-clause-clean_visits : goal.returns-then-contour-lt3-clause-clean_visits
returns-then-contour-lt3-clause-clean_visits g c = λ simple.
    absurd (omega (arith, simple.enough, length-contour g.I.IntNumber.value c.before.args.contour.now))

pub returns-in_default-clause-clean_visits : goal.returns-in_default-clause-clean_visits
returns-in_default-clause-clean_visits g c =
    let counted = rw c.new.ensures.contour at c.start_of_walk-probe.ensures.counted in
    IfOk-weaker c.keep_whole.result _ _ (λ r w simple. w.1 ∙ (counted simple).1) c.keep_whole.ensures.kept

pub returns-clause-clean_visits : goal.returns-clause-clean_visits
returns-clause-clean_visits g c =
    let counted = rw c.new.ensures.contour at c.start_of_walk-probe.ensures.counted in
    IfOk-weaker c.keep_left.result _ _ (λ r w simple. (let no : Some c.in-Some.start ≡ None = sym c.in-Some.is ∙ (counted simple).0 in absurd (cc))) c.keep_left.ensures.kept

pub returns-in_default-clause-takes_room : goal.returns-in_default-clause-takes_room
returns-in_default-clause-takes_room g c =
    let points = contour_of g.I.IntNumber.value c.args.contour.now in
    let found = rw c.new.ensures.contour at (c.start_of_walk-probe.ensures.clean c.in_default.is) in
    let simple : IsSimple points = record { enough = found.enough; none = found.ended.none_left } in
    IfOk-weaker c.keep_whole.result _ _ (λ r w unclean. absurd (unclean simple)) c.keep_whole.ensures.kept
