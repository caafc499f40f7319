use Rattle.std.proofs.Common.{length, refl, ap, sym, ◌∙◌}
use Rattle.i_shape_core.proofs.LeastRotation.StartSteps.{first_decides, first_agrees, some_point, is_run, run_counted, equal_room, equal_on, less_on, greater_on}
use Rattle.i_shape_core.proofs.form.canonical.compare_starts.Goals as goal

pub returns-then-ne-clause-order : goal.returns-then-ne-clause-order
returns-then-ne-clause-order g c =
    first_decides g.P.Coordinate.IntNumber.value _ _ _ _ _ c.ne.ensures c.requires.kept_within c.requires.rival_within c.requires.first _ c.if-ne.true

pub loop-matched-preserved : goal.loop-matched-preserved
loop-matched-preserved g c =
    let inv = c.loop-matched.invariant in
    let count = c.len-count.ensures in
    let run = c.compare_runs-agreed.ensures in
    let long = ap length inv.contour ∙ sym count in
    let room = equal_room g.P.Coordinate.IntNumber.value _ _ inv.contour _ _ _ _ _ _ _ count c.place_at_step-ours.ensures.value c.place_at_step-theirs.ensures.value inv.agree run.agree _ run.order c.in-Equal.is in
    let within = is_run _ _ _ _ _ _ long c.place_at_step-ours.ensures.within c.place_at_step-theirs.ensures.within inv.within room in
    record {
      contour = run.contour ∙ inv.contour;
      agree = equal_on g.P.Coordinate.IntNumber.value _ _ inv.contour _ _ _ _ _ _ _ count c.place_at_step-ours.ensures.value c.place_at_step-theirs.ensures.value inv.agree run.agree _ run.order within;
      within = within.2;
      counted = run_counted _ _ _ _ _ _ _ _ _ long c.place_at_step-ours.ensures.within c.place_at_step-theirs.ensures.within inv.counted run.counted room;
    }

pub returns-in-Less-clause-order : goal.returns-in-Less-clause-order
returns-in-Less-clause-order g c =
    let inv = c.loop-matched.invariant in
    let count = c.len-count.ensures in
    let run = c.compare_runs-agreed.ensures in
    less_on g.P.Coordinate.IntNumber.value _ _ inv.contour _ _ _ _ _ _ _ count c.place_at_step-ours.ensures.value c.place_at_step-theirs.ensures.value inv.agree run.agree _ run.order c.in-Less.is

pub returns-in-Greater-clause-order : goal.returns-in-Greater-clause-order
returns-in-Greater-clause-order g c =
    let inv = c.loop-matched.invariant in
    let count = c.len-count.ensures in
    let run = c.compare_runs-agreed.ensures in
    greater_on g.P.Coordinate.IntNumber.value _ _ inv.contour _ _ _ _ _ _ _ count c.place_at_step-ours.ensures.value c.place_at_step-theirs.ensures.value inv.agree run.agree _ run.order c.in-Greater.is

pub loop-matched-init : goal.loop-matched-init
loop-matched-init g c = record {
  contour = refl;
  agree = first_agrees g.P.Coordinate.IntNumber.value _ _ _ _ _ c.ne.ensures c.requires.kept_within c.requires.rival_within c.requires.first c.if-ne.false;
  within = some_point _ _ _ c.len-count.ensures c.requires.rival_within;
  counted = refl;
}
