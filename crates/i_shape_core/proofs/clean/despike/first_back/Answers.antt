use Rattle.std.proofs.Common.{◌≡◌, ◌∙◌, ◌-◌, ◌+◌, ◌<◌, ◌≤◌, length, List, ℕ, inl, inr, refl, arith}
use Rattle.i_shape_core.proofs.Common.{Point, contour_of}
use Rattle.i_shape_core.proofs.Plane.Contours.{refuted_by_test, length-contour}
use Rattle.i_shape_core.proofs.Removal.Places.{Follows}
use Rattle.i_shape_core.proofs.Lists.FirstPlaces.{removable_between, none_on}
use Rattle.i_shape_core.proofs.clean.despike.first_back.Goals as goal

-- the neighbours of the first place, of one between the ends, and of the last; n, m and s are the number of points
at_first : (n m s : ℕ) → n ≡ m → 3 ≤ m → s ≡ m → (3 ≤ n) × (s - 1 < n) × (0 < n) × Follows n (s - 1) 0 × Follows n 0 1
at_first n m s e enough d = (omega arith, omega arith, omega arith, inr (omega arith, refl), inl (omega arith, refl))

at_inside : (n m s k : ℕ) → n ≡ m → 3 ≤ m → s ≡ m → 1 ≤ k → k < s - 1 → (3 ≤ n) × (k - 1 < n) × (k < n) × Follows n (k - 1) k × Follows n k (k + 1)
at_inside n m s k e enough d from before = (omega arith, omega arith, omega arith, inl (omega arith, omega arith), inl (omega arith, refl))

at_last : (n m s : ℕ) → n ≡ m → 3 ≤ m → s ≡ m → (3 ≤ n) × (s - 1 - 1 < n) × (s - 1 < n) × Follows n (s - 1 - 1) (s - 1) × Follows n (s - 1) 0
at_last n m s e enough d = (omega arith, omega arith, omega arith, inl (omega arith, omega arith), inr (omega arith, refl))

pub returns-then-is_back_between-clause-answer : goal.returns-then-is_back_between-clause-answer
returns-then-is_back_between-clause-answer g c =
    let whole : List Point = contour_of g.P.Coordinate.IntNumber.value c.args.probe.contour in
    let long : length whole ≡ length c.args.probe.contour = length-contour g.P.Coordinate.IntNumber.value c.args.probe.contour in
    let at = at_first (length whole) (length c.args.probe.contour) c.len-last.result long c.requires.enough c.len-last.ensures in (
      record {
        here = removable_between whole (c.len-last.result - 1) 0 1 at.0 at.1 at.2 at.3 at.4 (c.is_back_between.ensures.test.0 c.if-is_back_between.true);
        earlier = λ k h m. absurd (omega (arith, h));
      },
      omega (arith, c.is_back_between.ensures.visits, c.requires.fresh),
    )

pub loop-place-init : goal.loop-place-init
loop-place-init g c =
    let whole : List Point = contour_of g.P.Coordinate.IntNumber.value c.args.probe.contour in
    let long : length whole ≡ length c.args.probe.contour = length-contour g.P.Coordinate.IntNumber.value c.args.probe.contour in
    let at = at_first (length whole) (length c.args.probe.contour) c.len-last.result long c.requires.enough c.len-last.ensures in
    record {
      contour = c.is_back_between.ensures.contour;
      visits = omega (arith, c.is_back_between.ensures.visits, c.requires.fresh);
      earlier = none_on whole (c.len-last.result - 1) 0 1 at.1 at.2 at.3 at.4
          (refuted_by_test c.is_back_between.result c.is_back_between.ensures.test (λ h. h, λ h. h) c.if-is_back_between.false) (λ j h m. absurd (omega (arith, h)));
    }

pub returns-then-is_back_between-2-clause-answer : goal.returns-then-is_back_between-2-clause-answer
returns-then-is_back_between-2-clause-answer g c =
    let whole : List Point = contour_of g.P.Coordinate.IntNumber.value c.args.probe.contour in
    let long : length whole ≡ length c.args.probe.contour = length-contour g.P.Coordinate.IntNumber.value c.args.probe.contour in
    let inv = c.loop-place.invariant in
    let test = rw inv.contour at c.is_back_between-in-loop-place.ensures.test in
    let place : ℕ = c.loop-place.place in
    let at = at_inside (length whole) (length c.args.probe.contour) c.len-last.result place long c.requires.enough c.len-last.ensures c.loop-place.auto.place c.loop-place-test.true in (
      record {
        here = removable_between whole (place - 1) place (place + 1) at.0 at.1 at.2 at.3 at.4 (test.0 c.if-is_back_between-2.true);
        earlier = inv.earlier;
      },
      omega (arith, c.is_back_between-in-loop-place.ensures.visits, inv.visits),
    )

pub loop-place-preserved : goal.loop-place-preserved
loop-place-preserved g c =
    let whole : List Point = contour_of g.P.Coordinate.IntNumber.value c.args.probe.contour in
    let long : length whole ≡ length c.args.probe.contour = length-contour g.P.Coordinate.IntNumber.value c.args.probe.contour in
    let inv = c.loop-place.invariant in
    let test = rw inv.contour at c.is_back_between-in-loop-place.ensures.test in
    let place : ℕ = c.loop-place.place in
    let at = at_inside (length whole) (length c.args.probe.contour) c.len-last.result place long c.requires.enough c.len-last.ensures c.loop-place.auto.place c.loop-place-test.true in
    record {
      contour = c.is_back_between-in-loop-place.ensures.contour ∙ inv.contour;
      visits = omega (arith, c.is_back_between-in-loop-place.ensures.visits, inv.visits);
      earlier = none_on whole (place - 1) place (place + 1) at.1 at.2 at.3 at.4
          (refuted_by_test c.is_back_between-in-loop-place.result test (λ h. h, λ h. h) c.if-is_back_between-2.false) inv.earlier;
    }

pub returns-then-is_back_between-3-clause-answer : goal.returns-then-is_back_between-3-clause-answer
returns-then-is_back_between-3-clause-answer g c =
    let whole : List Point = contour_of g.P.Coordinate.IntNumber.value c.args.probe.contour in
    let long : length whole ≡ length c.args.probe.contour = length-contour g.P.Coordinate.IntNumber.value c.args.probe.contour in
    let inv = c.loop-place.invariant in
    let test = rw inv.contour at c.is_back_between-2.ensures.test in
    let last : ℕ = c.len-last.result - 1 in
    let at : c.loop-place.place ≡ last = omega (arith, c.len-last.ensures, c.requires.enough, c.loop-place.auto.place-end, c.loop-place-test.false) in
    let ends = at_last (length whole) (length c.args.probe.contour) c.len-last.result long c.requires.enough c.len-last.ensures in (
      record {
        here = removable_between whole (last - 1) last 0 ends.0 ends.1 ends.2 ends.3 ends.4 (test.0 c.if-is_back_between-3.true);
        earlier = λ k h m. inv.earlier k (omega (arith, h, at)) m;
      },
      omega (arith, c.is_back_between-2.ensures.visits, inv.visits, at),
    )

pub returns-clause-answer : goal.returns-clause-answer
returns-clause-answer g c =
    let whole : List Point = contour_of g.P.Coordinate.IntNumber.value c.args.probe.contour in
    let long : length whole ≡ length c.args.probe.contour = length-contour g.P.Coordinate.IntNumber.value c.args.probe.contour in
    let inv = c.loop-place.invariant in
    let test = rw inv.contour at c.is_back_between-2.ensures.test in
    let last : ℕ = c.len-last.result - 1 in
    let at : c.loop-place.place ≡ last = omega (arith, c.len-last.ensures, c.requires.enough, c.loop-place.auto.place-end, c.loop-place-test.false) in
    let ends = at_last (length whole) (length c.args.probe.contour) c.len-last.result long c.requires.enough c.len-last.ensures in (
      (λ k m. none_on whole (last - 1) last 0 ends.1 ends.2 ends.3 ends.4
          (refuted_by_test c.is_back_between-2.result test (λ h. h, λ h. h) c.if-is_back_between-3.false) (λ j h r. inv.earlier j (omega (arith, h, at)) r) k (omega (arith, long, c.len-last.ensures, m.within)) m),
      omega (arith, long, c.is_back_between-2.ensures.visits, inv.visits, at, c.len-last.ensures, c.requires.enough),
    )
