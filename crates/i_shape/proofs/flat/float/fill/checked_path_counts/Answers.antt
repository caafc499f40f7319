use Rattle.std.proofs.Common.{rules, arith, subst, ◌≡◌, ◌+◌, length}
use Rattle.std.specs.Iterator.{Yields}
use Rattle.i_shape_source.proofs.Lent.{saw_all}
use Rattle.i_shape.proofs.Common.{path_of}
use Rattle.i_shape.proofs.Lists.EndToEnd.{count_push, length_push}
use Rattle.i_shape.proofs.Buffers.LentPaths.{points_within}
use Rattle.i_shape.proofs.flat.float.fill.checked_path_counts.Goals as goal

pub returns-in_err-points : goal.returns-in_err-points
returns-in_err-points g c =
    let within = points_within c.iter_paths-path-items.ensures.lends c.loop-path.yielded _ c.loop-path.path-iterator _ c.in-Some.path c.into_iter-path-iterator.ensures.into_iter_gives c.loop-path.yielded_by c.in-Some.ensures.steps in
    search (rules, within)

pub loop-path-preserved : goal.loop-path-preserved
loop-path-preserved g c =
    let seen = c.loop-path.yielded in
    let path = c.in-Some.path in
    let summed : c.in_ok-points.points ≡ c.loop-path.points + length path.now = search rules in
    let counted : c.in_ok-contours.contours ≡ c.loop-path.contours + 1 = search rules in
    record {
      can_next = search rules;
      is_finite = search rules;
      points = omega (arith, length_push path_of seen path);
      contours = omega (arith, count_push path_of seen path);
    }

pub returns : goal.returns
returns g c =
    let given = subst (λ s. Yields g.R.ResourceIter.Iterator.next_gives s c.loop-path.yielded c.loop-path.path-iterator) c.into_iter-path-iterator.ensures.into_iter_gives c.loop-path.yielded_by in
    let all = saw_all c.iter_paths-path-items.ensures.lends c.loop-path.yielded _ given _ _ c.in-None.is c.next.ensures.steps in
    (rw all at c.loop-path.invariant.points, rw all at c.loop-path.invariant.contours)
