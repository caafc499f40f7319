use Rattle.std.proofs.Common.{refl, subst, sym, rules}
use Rattle.i_shape_tool.specs.Points.{contour_of, IsSafe}
use Rattle.i_shape_tool.specs.Command.{IsCleaner}
use Rattle.i_shape_tool.proofs.line.read_line.Goals as goal
use Rattle.i_shape_tool.proofs.line.read_line.Goals.{else-is_cleaner-via-then-is_cleaner+else-not-is_in_safe_range, else-is_cleaner-via-else-is_cleaner}

pub returns-clause-ok : goal.returns-clause-ok
returns-clause-ok c =
    let read = contour_of c.read_contour.new.contour.items in
    let safe : IsCleaner c.args.command → IsSafe read = elim c.else-is_cleaner.branch [ else-is_cleaner-via-then-is_cleaner+else-not-is_in_safe_range w ↦ λ _. (w.is_in_safe_range.ensures.safe.0 w.if-not-is_in_safe_range.false).0 | else-is_cleaner-via-else-is_cleaner w ↦ λ cleaner. let is_cleaner = w.if-is_cleaner.ensures.1 cleaner in search rules ] in
    (rw c.if-not-branch.false at c.in_ok-read_contour.ensures, safe)

pub returns-then-not-is_in_safe_range-clause-err : goal.returns-then-not-is_in_safe_range-clause-err
returns-then-not-is_in_safe_range-clause-err c =
    let read = contour_of c.read_contour.new.contour.items in
    let unsafe : IsSafe read → ⊥ = λ safe. let told = c.is_in_safe_range.ensures.safe.1 (safe, λ list same. subst (λ l. IsSafe (contour_of l)) (sym same) safe) in absurd cc in
    (refl, (c.if-is_cleaner.ensures.0 refl, (read, rw c.if-not-branch.false at c.in_ok-read_contour.ensures, unsafe)))
