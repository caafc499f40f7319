use Rattle.std.proofs.Common.{◌≡◌, ◌∙◌, None, Some, option_map, arith, IfOk}
use Rattle.std.proofs.lemmas.Result.{IfOk-weaker}
use Rattle.i_shape_core.proofs.Common.{IsBack, contour_of, answered, IntPoint, WalkAnswer}
use Rattle.i_shape_core.specs.Cleaning.{despiking}
use Rattle.std.specs.Global.{Vec}
use Rattle.i_shape_core.proofs.Plane.Contours.{length-contour}
use Rattle.i_shape_core.proofs.Walks.Found.{spikeless_answer, kept_spikeless, short_answer, visits_answer, walk_kept}
use Rattle.i_shape_core.proofs.CleanerAnswers.Kept.{despiked_stays}
use Rattle.i_shape_core.proofs.CleanerAnswers.Written.{walked, unless_memory}
use Rattle.i_shape_core.proofs.Lists.FirstPlaces.{none_found, first_collapses}
use Rattle.i_shape_core.proofs.Walks.RingStates.{StartsAt, starting_size, starting_removes}
use Rattle.i_shape_core.proofs.Walks.RisingPlaces.{rising_below}
use Rattle.i_shape_core.proofs.clean.despike.ContourDeSpiker.despike_counted.Given.{Over}
use Rattle.i_shape_core.proofs.clean.despike.ContourDeSpiker.despike_counted.Goals.{After-keep_left, After-keep_whole, After-visits}
use Rattle.i_shape_core.proofs.clean.despike.ContourDeSpiker.despike_counted.Goals as goal

pub returns-then-contour-lt3-clause-answer : goal.returns-then-contour-lt3-clause-answer
returns-then-contour-lt3-clause-answer g c =
    let value = g.I.IntNumber.value in
    let points = contour_of value c.args.contour.now in
    walked g.I.IntNumber.width IsBack despiking points (λ (kept : Vec (IntPoint g.row.I.Denot)). contour_of value kept.items) None 0 (spikeless_answer points None 0) (kept_spikeless points None 0) c.requires
    (short_answer IsBack points (omega (arith, length-contour value c.args.contour.now, c.if-contour-lt3.true)))

pub returns-then-contour-lt3-clause-visits : goal.returns-then-contour-lt3-clause-visits
returns-then-contour-lt3-clause-visits g c =
    record { least = omega (arith, length-contour g.I.IntNumber.value c.args.contour.now, c.if-contour-lt3.true); most = omega arith }

-- if no point is removed, the result is the walk's answer
whole : (g : Over) (c : After-keep_whole g) → IfOk c.keep_whole.result (λ r. WalkAnswer IsBack (contour_of g.I.IntNumber.value c.args.contour.now) (answered (contour_of g.I.IntNumber.value) r.0) r.1)
whole g c =
    let points = contour_of g.I.IntNumber.value c.args.contour.now in
    let same : c.first_back-probe.result.0.contour ≡ c.args.contour.now = c.first_back-probe.ensures.contour ∙ c.new.ensures.contour in
    let none = rw (c.in_default.is, c.new.ensures.contour) at c.first_back-probe.ensures.answer in
    walk_kept IsBack points _ (λ r. r.1) c.keep_whole.result (Some points) c.first_back-probe.result.0.visits (rw same at c.keep_whole.ensures.kept)
    (none_found points c.first_back-probe.result.0.visits (omega (arith, length-contour g.I.IntNumber.value c.args.contour.now, c.if-contour-lt3.false)) none.0 none.1)

pub returns-in_default-clause-answer : goal.returns-in_default-clause-answer
returns-in_default-clause-answer g c =
    let value = g.I.IntNumber.value in
    let points = contour_of value c.args.contour.now in
    let shown = λ (kept : Vec (IntPoint g.row.I.Denot)). contour_of value kept.items in
    unless_memory c.keep_whole.result _
    (IfOk-weaker c.keep_whole.result _ _
    (λ r w. walked g.I.IntNumber.width IsBack despiking points shown r.0 r.1 (spikeless_answer points (option_map shown r.0) r.1) (kept_spikeless points (option_map shown r.0) r.1) c.requires w)
    (whole g c)) c.keep_whole.ensures.memory

pub returns-in_default-clause-visits : goal.returns-in_default-clause-visits
returns-in_default-clause-visits g c = IfOk-weaker c.keep_whole.result _ _ (λ r w. visits_answer IsBack _ (answered (contour_of g.I.IntNumber.value) r.0) r.1 w) (whole g c)

-- removing one of three points collapses the contour
three : (g : Over) (c : After-visits g) → WalkAnswer IsBack (contour_of g.I.IntNumber.value c.args.contour.now) None c.first_back-probe.result.0.visits
three g c =
    let points = contour_of g.I.IntNumber.value c.args.contour.now in
    let found = rw (c.in-Some.is, c.new.ensures.contour) at c.first_back-probe.ensures.answer in
    first_collapses points c.in-Some.place c.first_back-probe.result.0.visits found.0 (length-contour g.I.IntNumber.value c.args.contour.now ∙ c.if-contour-eq3.true) found.1

pub returns-then-contour-eq3-clause-answer : goal.returns-then-contour-eq3-clause-answer
returns-then-contour-eq3-clause-answer g c =
    let value = g.I.IntNumber.value in
    let points = contour_of value c.args.contour.now in
    let visits = c.first_back-probe.result.0.visits in
    walked g.I.IntNumber.width IsBack despiking points (λ (kept : Vec (IntPoint g.row.I.Denot)). contour_of value kept.items) None visits (spikeless_answer points None visits) (kept_spikeless points None visits) c.requires (three g c)

pub returns-then-contour-eq3-clause-visits : goal.returns-then-contour-eq3-clause-visits
returns-then-contour-eq3-clause-visits g c = rw c.visits.ensures (visits_answer IsBack _ None _ (three g c))

pub remove-requires : goal.remove-requires
remove-requires g c =
    let points = contour_of g.I.IntNumber.value c.args.contour.now in
    let long = length-contour g.I.IntNumber.value c.args.contour.now in
    let all : StartsAt points c.ring_at-ring.result c.in-Some.place _ = rw (← long) at c.ring_at-ring.ensures in
    omega (arith, starting_size points c.ring_at-ring.result c.in-Some.place _ all, long, c.if-contour-lt3.false)

pub walk-probe-requires-clause-state : goal.walk-probe-requires-clause-state
walk-probe-requires-clause-state g c =
    let points = contour_of g.I.IntNumber.value c.args.contour.now in
    let long = length-contour g.I.IntNumber.value c.args.contour.now in
    let same : c.first_back-probe.result.0.contour ≡ c.args.contour.now = c.first_back-probe.ensures.contour ∙ c.new.ensures.contour in
    let found = rw (c.in-Some.is, c.new.ensures.contour) at c.first_back-probe.ensures.answer in
    let all : StartsAt points c.ring_at-ring.result c.in-Some.place _ = rw (← long) at c.ring_at-ring.ensures in
    rw same (starting_removes points c.ring_at-ring.result c.remove.new.self c.in-Some.place _ c.first_back-probe.result.0.visits found.0 all
    (omega (arith, long, c.if-contour-lt3.false, c.if-contour-eq3.false)) found.1 c.remove.ensures.places c.remove.ensures.untested c.remove.ensures.lead)

pub returns-then-not-is_left-clause-answer : goal.returns-then-not-is_left-clause-answer
returns-then-not-is_left-clause-answer g c =
    let value = g.I.IntNumber.value in
    let points = contour_of value c.args.contour.now in
    let visits = c.walk-probe.result.0.visits in
    let same : c.first_back-probe.result.0.contour ≡ c.args.contour.now = c.first_back-probe.ensures.contour ∙ c.new.ensures.contour in
    let fallen : WalkAnswer IsBack points None visits = rw same at (c.walk-probe.ensures.falls c.if-not-is_left.true) in
    walked g.I.IntNumber.width IsBack despiking points (λ (kept : Vec (IntPoint g.row.I.Denot)). contour_of value kept.items) None visits (spikeless_answer points None visits) (kept_spikeless points None visits) c.requires fallen

pub keep_left-requires : goal.keep_left-requires
keep_left-requires g c =
    rw (c.walk-probe.ensures.contour, c.as_slice.ensures.value) (rising_below _ _ (c.walk-probe.ensures.rising c.if-not-is_left.false))

-- if points are removed, the result is the walk's answer
found : (g : Over) (c : After-keep_left g) → IfOk c.keep_left.result (λ r. WalkAnswer IsBack (contour_of g.I.IntNumber.value c.args.contour.now) (answered (contour_of g.I.IntNumber.value) r.0) r.1)
found g c =
    let points = contour_of g.I.IntNumber.value c.args.contour.now in
    let first : c.first_back-probe.result.0.contour ≡ c.args.contour.now = c.first_back-probe.ensures.contour ∙ c.new.ensures.contour in
    let same : c.walk-probe.result.0.contour ≡ c.args.contour.now = c.walk-probe.ensures.contour ∙ first in
    walk_kept IsBack points _ (λ r. r.1) c.keep_left.result _ c.walk-probe.result.0.visits (rw (same, c.as_slice.ensures.value) at c.keep_left.ensures.kept)
    (rw first at (c.walk-probe.ensures.left c.if-not-is_left.false))

pub returns-clause-answer : goal.returns-clause-answer
returns-clause-answer g c =
    let value = g.I.IntNumber.value in
    let points = contour_of value c.args.contour.now in
    let shown = λ (kept : Vec (IntPoint g.row.I.Denot)). contour_of value kept.items in
    unless_memory c.keep_left.result _
    (IfOk-weaker c.keep_left.result _ _
    (λ r w. walked g.I.IntNumber.width IsBack despiking points shown r.0 r.1 (spikeless_answer points (option_map shown r.0) r.1) (kept_spikeless points (option_map shown r.0) r.1) c.requires w)
    (found g c)) c.keep_left.ensures.memory

pub returns-clause-visits : goal.returns-clause-visits
returns-clause-visits g c = IfOk-weaker c.keep_left.result _ _ (λ r w. visits_answer IsBack _ (answered (contour_of g.I.IntNumber.value) r.0) r.1 w) (found g c)

pub returns-clause-short : goal.returns-clause-short
returns-clause-short g c = λ few.
    absurd (omega (arith, few, length-contour g.I.IntNumber.value c.args.contour.now, c.if-contour-lt3.false))

pub returns-then-contour-lt3-clause-clean_visits : goal.returns-then-contour-lt3-clause-clean_visits
returns-then-contour-lt3-clause-clean_visits g c = λ clean.
    absurd (omega (arith, clean.enough, length-contour g.I.IntNumber.value c.args.contour.now, c.if-contour-lt3.true))

pub returns-in_default-clause-clean_visits : goal.returns-in_default-clause-clean_visits
returns-in_default-clause-clean_visits g c =
    let none = rw (c.in_default.is, c.new.ensures.contour) at c.first_back-probe.ensures.answer in
    IfOk-weaker c.keep_whole.result _ _ (λ r w clean. w.1 ∙ none.1) c.keep_whole.ensures.kept

pub returns-then-contour-eq3-clause-clean_visits : goal.returns-then-contour-eq3-clause-clean_visits
returns-then-contour-eq3-clause-clean_visits g c =
    let found = rw (c.in-Some.is, c.new.ensures.contour) at c.first_back-probe.ensures.answer in
    λ clean. absurd (clean.ended.none_left c.in-Some.place found.0.here)

pub returns-then-not-is_left-clause-clean_visits : goal.returns-then-not-is_left-clause-clean_visits
returns-then-not-is_left-clause-clean_visits g c =
    let found = rw (c.in-Some.is, c.new.ensures.contour) at c.first_back-probe.ensures.answer in
    λ clean. absurd (clean.ended.none_left c.in-Some.place found.0.here)

pub returns-clause-clean_visits : goal.returns-clause-clean_visits
returns-clause-clean_visits g c =
    let found = rw (c.in-Some.is, c.new.ensures.contour) at c.first_back-probe.ensures.answer in
    IfOk-weaker c.keep_left.result _ _ (λ r w clean. absurd (clean.ended.none_left c.in-Some.place found.0.here)) c.keep_left.ensures.kept

pub returns-in_default-clause-takes_room : goal.returns-in_default-clause-takes_room
returns-in_default-clause-takes_room g c =
    let none = rw (c.in_default.is, c.new.ensures.contour) at c.first_back-probe.ensures.answer in
    let already = despiked_stays _ (omega (arith, length-contour g.I.IntNumber.value c.args.contour.now, c.if-contour-lt3.false)) none.0 in
    IfOk-weaker c.keep_whole.result _ _ (λ r w unclean. absurd (unclean already)) c.keep_whole.ensures.kept

pub returns-in_default-clause-spared : goal.returns-in_default-clause-spared
returns-in_default-clause-spared g c =
    let none = rw (c.in_default.is, c.new.ensures.contour) at c.first_back-probe.ensures.answer in
    let already = despiked_stays _ (omega (arith, length-contour g.I.IntNumber.value c.args.contour.now, c.if-contour-lt3.false)) none.0 in
    λ unclean. absurd (unclean already)
