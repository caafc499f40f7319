use Rattle.std.proofs.Common.{rules, arith, refl, subst}
use Rattle.std.specs.Iterator.{Yields}
use Rattle.i_shape_source.proofs.Lent.{saw_all}
use Rattle.i_shape.proofs.Common.{path_of}
use Rattle.i_shape.proofs.Lists.EndToEnd.{count_push, length_push, points_push, ranges_push}
use Rattle.i_shape.proofs.Buffers.LentPaths.{points_within}
use Rattle.i_shape.proofs.flat.float.fill.append_paths.Goals as goal

pub append_contour-requires-clause-points_room : goal.append_contour-requires-clause-points_room
append_contour-requires-clause-points_room g c =
    omega (arith, points_within c.iter_paths-path-items.ensures.lends c.loop-path.yielded _ c.loop-path.path-iterator _ c.in-Some.path c.into_iter-path-iterator.ensures.into_iter_gives c.loop-path.yielded_by c.in-Some.ensures.steps)

pub loop-path-preserved : goal.loop-path-preserved
loop-path-preserved g c =
    let seen = c.loop-path.yielded in
    let path = c.in-Some.path in
    record {
      can_next = search rules;
      is_finite = search rules;
      points = points_push path_of seen path _ _ _ _ c.loop-path.invariant.points refl c.append_contour.ensures.points;
      ranges = ranges_push path_of seen path _ _ _ _ _ _ c.loop-path.invariant.ranges c.loop-path.invariant.points_len refl c.append_contour.ensures.ranges;
      points_len = omega (arith, length_push path_of seen path);
      ranges_len = omega (arith, count_push path_of seen path);
      points_capacity = omega arith;
      ranges_capacity = omega arith;
    }

pub returns-clause-points : goal.returns-clause-points
returns-clause-points g c =
    let given = subst (λ s. Yields g.R.ResourceIter.Iterator.next_gives s c.loop-path.yielded c.loop-path.path-iterator) c.into_iter-path-iterator.ensures.into_iter_gives c.loop-path.yielded_by in
    let all = saw_all c.iter_paths-path-items.ensures.lends c.loop-path.yielded _ given _ _ c.in-None.is c.next.ensures.steps in
    rw all at c.loop-path.invariant.points

pub returns-clause-ranges : goal.returns-clause-ranges
returns-clause-ranges g c =
    let given = subst (λ s. Yields g.R.ResourceIter.Iterator.next_gives s c.loop-path.yielded c.loop-path.path-iterator) c.into_iter-path-iterator.ensures.into_iter_gives c.loop-path.yielded_by in
    let all = saw_all c.iter_paths-path-items.ensures.lends c.loop-path.yielded _ given _ _ c.in-None.is c.next.ensures.steps in
    rw all at c.loop-path.invariant.ranges
