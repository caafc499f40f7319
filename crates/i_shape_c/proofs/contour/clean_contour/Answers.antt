use Rattle.std.proofs.Common.{◌≡◌, ◌<◌, ◌^◌, inl, inr, List, length, map, IsTrue, false, rules, refl, arith, w64}
use Rattle.std.proofs.lemmas.Int.{to_z_pos}
use Rattle.std.proofs.lemmas.List.{length-map}
use Rattle.i_shape.specs.IntPoint.{contour_of, point_of}
use Rattle.i_shape_c.specs.Cleaned.{TakesNoMemory, AreSafe}
use Rattle.i_shape_c.specs.declared.codes.Refusal.TheVariants.{Unsafe, NoMemory}
use Rattle.i_shape_c.proofs.Boundary.{copied_points, safe_contour, written_as}
use Rattle.i_shape_c.proofs.Refusals.{code_of_64, refused, refused_memory, not_refused}
use Rattle.i_shape_c.proofs.contour.clean_contour.Goals as goal

pub try_clean_into-requires-clause-points_safe : goal.try_clean_into-requires-clause-points_safe
try_clean_into-requires-clause-points_safe g c =
    safe_contour g.P.Coordinate.IntNumber.width g.P.Coordinate.IntNumber.value g.P.ContourPoint.point c.args.points.now (g.P.ContourPoint.points c.args.points.now) (g.P.ContourPoint.each c.args.points.now) (c.if-not-are_safe.ensures.0 refl)

pub returns-in-Ok : goal.returns-in-Ok
returns-in-Ok g c =
    let value = g.P.Coordinate.IntNumber.value in
    let as_c : (list : List g.row.P.Denot) → contour_of value (g.P.ContourPoint.points list) ≡ map (λ p. point_of value (g.P.ContourPoint.point p)) list =
    λ list. copied_points g.P.Coordinate.IntNumber.width value g.P.ContourPoint.point list (g.P.ContourPoint.points list) (g.P.ContourPoint.each list) in
    let written = c.in-Ok.ensures.written.written in
    let small : c.in-Ok.count < 2 ^ 63 = omega (arith, written.fewer, c.if-out-points.false, c.requires) in
    rw (to_z_pos w64 c.in-Ok.count small) (record {
      answer = written_as g.C.ContourCleaner.meaning g.P.Coordinate.IntNumber.width _ _ c.args.points.now c.args.out.now c.try_clean_into.new.out c.in-Ok.count as_c written;
      refuses = not_refused (tt, omega (arith, c.if-out-points.false), c.if-not-are_safe.ensures.0 refl) c.in-Ok.count;
    })

pub returns : goal.returns
returns g c =
    let value = g.P.Coordinate.IntNumber.value in
    let points = g.P.ContourPoint.points c.args.points.now in
    let same = copied_points g.P.Coordinate.IntNumber.width value g.P.ContourPoint.point c.args.points.now points (g.P.ContourPoint.each c.args.points.now) in
    let at = λ (p : g.row.P.Denot). point_of value (g.P.ContourPoint.point p) in
    let unspared : TakesNoMemory g.C.ContourCleaner.meaning.fewest g.C.ContourCleaner.meaning.clean (map at c.args.points.now) → ⊥ = λ none. elim none [
      | inl few ↦ let told = c.in-Err.ensures.memory.reserved (g.met.C.ContourCleaner.spares c.new.result (length c.args.points.now) (omega (arith, few, length-map c.args.points.now at))) in absurd (cc)
      | inr clean ↦ c.in-Err.ensures.memory.unclean (rw same clean)
    ] in
    rw (c.code-in-Err.ensures, code_of_64 NoMemory) (record {
      answer = search rules;
      refuses = refused_memory (tt, omega (arith, c.if-out-points.false), c.if-not-are_safe.ensures.0 refl) unspared;
    })

pub returns-then-not-are_safe : goal.returns-then-not-are_safe
returns-then-not-are_safe g c =
    let unsafe : AreSafe g.P.Coordinate.IntNumber.width (λ p. point_of g.P.Coordinate.IntNumber.value (g.P.ContourPoint.point p)) c.args.points.now → ⊥ = λ safe. let told : IsTrue false = c.if-not-are_safe.ensures.1 safe in cc in
    rw (c.code-then-not-are_safe.ensures, code_of_64 Unsafe) (record { answer = (omega arith, refl); refuses = refused Unsafe (tt, omega (arith, c.if-out-points.false), unsafe) })
