use Rattle.std.proofs.Common.{◌≡◌, ◌≤◌, ◌<◌, ◌-◌, ℕ, List, length, inl, inr, ap, subst, refl, arith, ◌∙◌}
use Rattle.std.specs.List.{range_with_len}
use Rattle.i_shape_core.proofs.Common.{contour_of, Point, IsZeroTurn, IsStacked}
use Rattle.i_shape_core.proofs.Plane.Contours.{length-contour}
use Rattle.i_shape_core.proofs.Lists.FirstPlaces.{removable_between}
use Rattle.i_shape_core.proofs.Walks.StackReads.{holds_by_test, fails_by_test}
use Rattle.i_shape_core.proofs.Walks.Prefixes.{prefix_walked, whole_without_first, whole_without_last, whole_ends}
use Rattle.i_shape_core.proofs.clean.simplifier.start_of_walk.Goals as goal

pub returns-then-place-count-clause-start : goal.returns-then-place-count-clause-start
returns-then-place-count-clause-start g c =
    let prefix = c.clean_prefix-probe.ensures in
    let points : List Point = contour_of g.P.Coordinate.IntNumber.value c.args.probe.contour in
    let all = length-contour g.P.Coordinate.IntNumber.value c.args.probe.contour in
    let within : c.clean_prefix-probe.result.1 < length points = omega (arith, c.if-place-count.true, c.len-count.ensures, ap length prefix.contour, all) in
    record {
      rising = omega arith;
      end_within = omega (arith, within);
      place_within = omega (arith, within);
      walked = prefix_walked IsZeroTurn points c.clean_prefix-probe.result.1 c.clean_prefix-probe.result.0.visits _ prefix.least within prefix.clean
          (prefix.zero_turn within) (omega (arith, within, all, prefix.visits)) refl;
    }

pub returns-then-is_zero_at-clause-start : goal.returns-then-is_zero_at-clause-start
returns-then-is_zero_at-clause-start g c =
    let prefix = c.clean_prefix-probe.ensures in
    let points : List Point = contour_of g.P.Coordinate.IntNumber.value c.args.probe.contour in
    let all = length-contour g.P.Coordinate.IntNumber.value c.args.probe.contour in
    let e : c.len-count.result ≡ length points = omega (arith, c.len-count.ensures, ap length prefix.contour, all) in
    let w : c.clean_prefix-probe.result.1 ≡ length points = omega (arith, e, c.if-place-count.false, prefix.most, all) in
    let whole : IsStacked IsZeroTurn points (range_with_len 0 (length points)) (length points) = subst (λ (k : ℕ). IsStacked IsZeroTurn points (range_with_len 0 k) k) w prefix.clean in
    let three : 3 ≤ length points = omega (arith, c.requires.enough, all) in
    rw e (record {
      rising = omega (arith, three);
      end_within = omega arith;
      place_within = omega arith;
      walked = whole_without_first IsZeroTurn points (length points) c.is_zero_at.new.probe.visits refl three
          (omega (arith, prefix.visits, w, c.is_zero_at.ensures.visits, all)) whole
          (holds_by_test c.is_zero_at.result (rw (prefix.contour, e) at c.is_zero_at.ensures.test) c.if-is_zero_at.true);
    })

pub returns-then-is_zero_at-2-clause-start : goal.returns-then-is_zero_at-2-clause-start
returns-then-is_zero_at-2-clause-start g c =
    let prefix = c.clean_prefix-probe.ensures in
    let points : List Point = contour_of g.P.Coordinate.IntNumber.value c.args.probe.contour in
    let all = length-contour g.P.Coordinate.IntNumber.value c.args.probe.contour in
    let e : c.len-count.result ≡ length points = omega (arith, c.len-count.ensures, ap length prefix.contour, all) in
    let w : c.clean_prefix-probe.result.1 ≡ length points = omega (arith, e, c.if-place-count.false, prefix.most, all) in
    let whole : IsStacked IsZeroTurn points (range_with_len 0 (length points)) (length points) = subst (λ (k : ℕ). IsStacked IsZeroTurn points (range_with_len 0 k) k) w prefix.clean in
    let three : 3 ≤ length points = omega (arith, c.requires.enough, all) in
    let same : c.is_zero_at.new.probe.contour ≡ c.args.probe.contour = c.is_zero_at.ensures.contour ∙ prefix.contour in
    rw e (record {
      rising = omega arith;
      end_within = omega arith;
      place_within = omega arith;
      walked = whole_without_last IsZeroTurn points (length points) c.is_zero_at-2.new.probe.visits _ refl three
          (omega (arith, prefix.visits, w, c.is_zero_at.ensures.visits, c.is_zero_at-2.ensures.visits, all)) (omega (arith, three)) whole
          (holds_by_test c.is_zero_at-2.result (rw (same, e) at c.is_zero_at-2.ensures.test) c.if-is_zero_at-2.true);
    })

pub returns-clause-clean : goal.returns-clause-clean
returns-clause-clean g c = λ none.
    let prefix = c.clean_prefix-probe.ensures in
    let points : List Point = contour_of g.P.Coordinate.IntNumber.value c.args.probe.contour in
    let all = length-contour g.P.Coordinate.IntNumber.value c.args.probe.contour in
    let e : c.len-count.result ≡ length points = omega (arith, c.len-count.ensures, ap length prefix.contour, all) in
    let w : c.clean_prefix-probe.result.1 ≡ length points = omega (arith, e, c.if-place-count.false, prefix.most, all) in
    let whole : IsStacked IsZeroTurn points (range_with_len 0 (length points)) (length points) = subst (λ (k : ℕ). IsStacked IsZeroTurn points (range_with_len 0 k) k) w prefix.clean in
    let three : 3 ≤ length points = omega (arith, c.requires.enough, all) in
    let same : c.is_zero_at.new.probe.contour ≡ c.args.probe.contour = c.is_zero_at.ensures.contour ∙ prefix.contour in
    record {
      ended = whole_ends IsZeroTurn points (length points) refl three whole
          (fails_by_test c.is_zero_at.result (rw (prefix.contour, e) at c.is_zero_at.ensures.test) c.if-is_zero_at.false)
          (fails_by_test c.is_zero_at-2.result (rw (same, e) at c.is_zero_at-2.ensures.test) c.if-is_zero_at-2.false);
      enough = three;
      least = omega (arith, prefix.visits, w, c.is_zero_at.ensures.visits, c.is_zero_at-2.ensures.visits, all);
      most = omega (arith, three, prefix.visits, w, c.is_zero_at.ensures.visits, c.is_zero_at-2.ensures.visits, all);
    }

pub returns-then-place-count-clause-counted : goal.returns-then-place-count-clause-counted
returns-then-place-count-clause-counted g c = λ simple.
    let prefix = c.clean_prefix-probe.ensures in
    let points : List Point = contour_of g.P.Coordinate.IntNumber.value c.args.probe.contour in
    let place = c.clean_prefix-probe.result.1 in
    let all = length-contour g.P.Coordinate.IntNumber.value c.args.probe.contour in
    let within : place < length points = omega (arith, c.if-place-count.true, c.len-count.ensures, ap length prefix.contour, all) in
    let least = prefix.least in
    absurd (simple.none (place - 1) (removable_between points (place - 2) (place - 1) place simple.enough (omega (arith, within)) (omega (arith, within))
    (inl (omega (arith, within, least), omega (arith, least))) (inl (omega (arith, within, least), omega (arith, least))) (prefix.zero_turn within)))

pub returns-then-is_zero_at-clause-counted : goal.returns-then-is_zero_at-clause-counted
returns-then-is_zero_at-clause-counted g c = λ simple.
    let prefix = c.clean_prefix-probe.ensures in
    let points : List Point = contour_of g.P.Coordinate.IntNumber.value c.args.probe.contour in
    let all = length-contour g.P.Coordinate.IntNumber.value c.args.probe.contour in
    let e : c.len-count.result ≡ length points = omega (arith, c.len-count.ensures, ap length prefix.contour, all) in
    let three = simple.enough in
    absurd (simple.none 0 (removable_between points (length points - 1) 0 1 three (omega (arith, three)) (omega (arith, three)) (inr (omega (arith, three), refl)) (inl (omega (arith, three), refl))
    (holds_by_test c.is_zero_at.result (rw (prefix.contour, e) at c.is_zero_at.ensures.test) c.if-is_zero_at.true)))

pub returns-then-is_zero_at-2-clause-counted : goal.returns-then-is_zero_at-2-clause-counted
returns-then-is_zero_at-2-clause-counted g c = λ simple.
    let prefix = c.clean_prefix-probe.ensures in
    let points : List Point = contour_of g.P.Coordinate.IntNumber.value c.args.probe.contour in
    let all = length-contour g.P.Coordinate.IntNumber.value c.args.probe.contour in
    let e : c.len-count.result ≡ length points = omega (arith, c.len-count.ensures, ap length prefix.contour, all) in
    let same : c.is_zero_at.new.probe.contour ≡ c.args.probe.contour = c.is_zero_at.ensures.contour ∙ prefix.contour in
    let three = simple.enough in
    absurd (simple.none (length points - 1) (removable_between points (length points - 1 - 1) (length points - 1) 0 three (omega (arith, three)) (omega (arith, three)) (inl (omega (arith, three), omega (arith, three))) (inr (omega (arith, three), refl))
    (holds_by_test c.is_zero_at-2.result (rw (same, e) at c.is_zero_at-2.ensures.test) c.if-is_zero_at-2.true)))

pub returns-clause-counted : goal.returns-clause-counted
returns-clause-counted g c = λ simple.
    let prefix = c.clean_prefix-probe.ensures in
    let all = length-contour g.P.Coordinate.IntNumber.value c.args.probe.contour in
    let three = simple.enough in
    (refl, omega (arith, three, prefix.visits, prefix.most, c.len-count.ensures, ap length prefix.contour, c.if-place-count.false, c.is_zero_at.ensures.visits, c.is_zero_at-2.ensures.visits, all))
