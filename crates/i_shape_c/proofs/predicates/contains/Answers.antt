use Rattle.std.proofs.Common.{refl, IsTrue, false}
use Rattle.i_shape_c.specs.declared.codes.Refusal.TheVariants.{Unsafe}
use Rattle.i_shape_c.proofs.Refusals.{code_of_32, same_32}
use Rattle.i_shape_c.proofs.predicates.contains.Goals as goal

pub returns : goal.returns
returns g c =
    let here = rw (c.to_point-point.ensures) at (c.if-not-is_in_safe_range.ensures.0 refl) in
    let told = rw (c.to_point-point.ensures) at c.test_contour.ensures in
    rw (same_32 c.test_contour.result (record { sfits = c.test_contour.type_inv }))
    (record { answer = told.answer; unsafe_points = (λ is both. told.unsafe_points.0 is both.0, λ not_safe. told.unsafe_points.1 (λ safe. not_safe (safe, here))) })

pub returns-then-not-is_in_safe_range : goal.returns-then-not-is_in_safe_range
returns-then-not-is_in_safe_range g c =
    rw (c.code.ensures, code_of_32 Unsafe)
    (record { answer = tt; unsafe_points = (λ is both. let told : IsTrue false = c.if-not-is_in_safe_range.ensures.1 (rw (c.to_point-point.ensures) both.1) in cc, λ unlike. refl) })
