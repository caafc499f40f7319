use Rattle.std.proofs.Common.{◌+◌, ◌∙◌, length, ap, arith}
use Rattle.i_shape_core.proofs.LeastRotation.Search.{search_greater, next_start_within, search_past}
use Rattle.i_shape_core.proofs.LeastRotation.SearchSteps.{search_to_rival, is_rival, less_told, equal_told, greater_told, search_past_rival, round_least, lost_in_step, kept_in_step, none_met, met_after, none_after, room_after, is_next, all_compared, loop_most, sum_fits, next_fits, room_to_compare}
use Rattle.i_shape_core.proofs.form.canonical.search_starts.Goals as goal

pub loop-challenger-preserved-in-Less : goal.loop-challenger-preserved-in-Less
loop-challenger-preserved-in-Less g c =
    let inv = c.loop-challenger.invariant in
    let count = c.len-count.ensures in
    let found = c.next_rival-rival.ensures in
    let compared = c.compare_starts-compared.ensures in
    let s = search_to_rival g.P.Coordinate.IntNumber.value _ _ inv.contour _ _ _ _ count inv.search found.within found.passed in
    let wr = is_rival g.P.Coordinate.IntNumber.value _ _ inv.contour _ _ _ count found.within c.if-rival-count.false in
    let ahead = less_told g.P.Coordinate.IntNumber.value _ _ (found.contour ∙ inv.contour) _ _ _ _ c.in-Less.is compared.order in
    let bounds = lost_in_step _ _ _ _ _ _ _ _ inv.slow inv.moved (met_after _ _ _ _ _ _ _ count (ap length inv.contour) wr found.counted) compared.counted (room_after _ _ _ c.if-compared-count.false) in
    record {
      contour = compared.contour ∙ (found.contour ∙ inv.contour);
      search = search_past_rival _ _ _ _ _ s wr ahead;
      slow = bounds.0;
      moved = bounds.1;
      short = bounds.2;
    }

pub overflow_add-kept : goal.overflow_add-kept
overflow_add-kept g c =
    let inv = c.loop-challenger.invariant in
    let count = c.len-count.ensures in
    let found = c.next_rival-rival.ensures in
    let compared = c.compare_starts-compared.ensures in
    let s = search_to_rival g.P.Coordinate.IntNumber.value _ _ inv.contour _ _ _ _ count inv.search found.within found.passed in
    let wr = is_rival g.P.Coordinate.IntNumber.value _ _ inv.contour _ _ _ count found.within c.if-rival-count.false in
    let ahead = greater_told g.P.Coordinate.IntNumber.value _ _ (found.contour ∙ inv.contour) _ _ _ _ c.in-Greater.is compared.order in
    sum_fits _ _ _ (next_start_within _ _ _ _ _ s wr ahead) c.len-count.type_inv

pub overflow_add-challenger-in-Greater : goal.overflow_add-challenger-in-Greater
overflow_add-challenger-in-Greater g c =
    let inv = c.loop-challenger.invariant in
    let count = c.len-count.ensures in
    let found = c.next_rival-rival.ensures in
    let compared = c.compare_starts-compared.ensures in
    let s = search_to_rival g.P.Coordinate.IntNumber.value _ _ inv.contour _ _ _ _ count inv.search found.within found.passed in
    let wr = is_rival g.P.Coordinate.IntNumber.value _ _ inv.contour _ _ _ count found.within c.if-rival-count.false in
    let ahead = greater_told g.P.Coordinate.IntNumber.value _ _ (found.contour ∙ inv.contour) _ _ _ _ c.in-Greater.is compared.order in
    next_fits _ _ _ _ c.max-kept.ensures (next_start_within _ _ _ _ _ s wr ahead) c.len-count.type_inv

pub loop-challenger-preserved : goal.loop-challenger-preserved
loop-challenger-preserved g c =
    let inv = c.loop-challenger.invariant in
    let count = c.len-count.ensures in
    let found = c.next_rival-rival.ensures in
    let compared = c.compare_starts-compared.ensures in
    let s = search_to_rival g.P.Coordinate.IntNumber.value _ _ inv.contour _ _ _ _ count inv.search found.within found.passed in
    let wr = is_rival g.P.Coordinate.IntNumber.value _ _ inv.contour _ _ _ count found.within c.if-rival-count.false in
    let ahead = greater_told g.P.Coordinate.IntNumber.value _ _ (found.contour ∙ inv.contour) _ _ _ _ c.in-Greater.is compared.order in
    let bounds = kept_in_step _ _ _ _ _ _ _ _ inv.slow inv.moved (met_after _ _ _ _ _ _ _ count (ap length inv.contour) wr found.counted) compared.counted _ (is_next _ _ _ _ _ _ c.max-kept.ensures (next_start_within _ _ _ _ _ s wr ahead) s.apart ahead.last) in
    record {
      contour = compared.contour ∙ (found.contour ∙ inv.contour);
      search = search_greater _ _ _ _ _ s wr ahead _ c.max-kept.ensures;
      slow = bounds.0;
      moved = bounds.1;
      short = bounds.2;
    }

pub returns-after-loop-challenger-clause-least : goal.returns-after-loop-challenger-clause-least
returns-after-loop-challenger-clause-least g c =
    search_past _ _ _ _ c.loop-challenger.invariant.search (omega arith)

pub returns-then-rival-count-clause-least : goal.returns-then-rival-count-clause-least
returns-then-rival-count-clause-least g c =
    let inv = c.loop-challenger.invariant in
    let count = c.len-count.ensures in
    let found = c.next_rival-rival.ensures in
    let s = search_to_rival g.P.Coordinate.IntNumber.value _ _ inv.contour _ _ _ _ count inv.search found.within found.passed in
    search_past _ _ _ _ s (omega arith)

pub returns-in-Equal-clause-least : goal.returns-in-Equal-clause-least
returns-in-Equal-clause-least g c =
    let inv = c.loop-challenger.invariant in
    let count = c.len-count.ensures in
    let found = c.next_rival-rival.ensures in
    let compared = c.compare_starts-compared.ensures in
    let s = search_to_rival g.P.Coordinate.IntNumber.value _ _ inv.contour _ _ _ _ count inv.search found.within found.passed in
    let same = equal_told g.P.Coordinate.IntNumber.value _ _ (found.contour ∙ inv.contour) _ _ _ _ c.in-Equal.is compared.order in
    round_least _ _ _ _ _ count s same.0

pub returns-then-compared-count-clause-least : goal.returns-then-compared-count-clause-least
returns-then-compared-count-clause-least g c =
    let inv = c.loop-challenger.invariant in
    let count = c.len-count.ensures in
    let found = c.next_rival-rival.ensures in
    let compared = c.compare_starts-compared.ensures in
    let s = search_to_rival g.P.Coordinate.IntNumber.value _ _ inv.contour _ _ _ _ count inv.search found.within found.passed in
    let wr = is_rival g.P.Coordinate.IntNumber.value _ _ inv.contour _ _ _ count found.within c.if-rival-count.false in
    let ahead = less_told g.P.Coordinate.IntNumber.value _ _ (found.contour ∙ inv.contour) _ _ _ _ c.in-Less.is compared.order in
    search_past _ _ _ (c.next_rival-rival.result.0 + c.compare_starts-compared.result.0) (search_past_rival _ _ _ _ _ s wr ahead) (omega arith)

pub returns-after-loop-challenger-clause-most : goal.returns-after-loop-challenger-clause-most
returns-after-loop-challenger-clause-most g c =
    let inv = c.loop-challenger.invariant in
    loop_most _ _ _ _ _ c.len-count.ensures inv.search.apart inv.short inv.moved

pub returns-then-rival-count-clause-most : goal.returns-then-rival-count-clause-most
returns-then-rival-count-clause-most g c =
    let inv = c.loop-challenger.invariant in
    let count = c.len-count.ensures in
    let found = c.next_rival-rival.ensures in
    none_met _ _ _ _ _ _ count inv.search.apart inv.short inv.moved (none_after _ _ _ _ _ _ _ count (ap length inv.contour) c.if-rival-count.true found.counted)

pub returns-in-Equal-clause-most : goal.returns-in-Equal-clause-most
returns-in-Equal-clause-most g c =
    let inv = c.loop-challenger.invariant in
    let count = c.len-count.ensures in
    let found = c.next_rival-rival.ensures in
    let compared = c.compare_starts-compared.ensures in
    let wr = is_rival g.P.Coordinate.IntNumber.value _ _ inv.contour _ _ _ count found.within c.if-rival-count.false in
    let same = equal_told g.P.Coordinate.IntNumber.value _ _ (found.contour ∙ inv.contour) _ _ _ _ c.in-Equal.is compared.order in
    all_compared _ _ _ _ _ _ _ _ inv.slow inv.moved (met_after _ _ _ _ _ _ _ count (ap length inv.contour) wr found.counted) compared.counted _ count inv.search.apart found.within.0 wr same.1

pub compare_starts-compared-requires-clause-room : goal.compare_starts-compared-requires-clause-room
compare_starts-compared-requires-clause-room g c =
    let inv = c.loop-challenger.invariant in
    let count = c.len-count.ensures in
    let found = c.next_rival-rival.ensures in
    let wr = is_rival g.P.Coordinate.IntNumber.value _ _ inv.contour _ _ _ count found.within c.if-rival-count.false in
    let counted = met_after _ _ _ _ _ _ _ count (ap length inv.contour) wr found.counted in
    room_to_compare _ _ _ _ _ _ _ _ _ c.len-count.type_inv count (ap length inv.contour) (ap length found.contour) inv.moved counted (omega (arith, inv.search.apart, found.within.0)) wr
