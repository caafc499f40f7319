use Rattle.i_shape_core.specs.IntPoint.{point_of, IsSafe}
use Rattle.i_shape_core.proofs.Lists.Mapped.{all_mapped}
use Rattle.i_shape_source.proofs.SafePaths.{safe_path}
use Rattle.i_shape_source.proofs.int.safe_range.is_safe_path.Goals as goal

pub returns : goal.returns
returns g c =
    let each = c.are_safe.ensures in
    let same = all_mapped (IsSafe g.I.IntNumber.width) (point_of g.I.IntNumber.value) c.args.path.now in
    let path = safe_path g.I.IntNumber.width g.I.IntNumber.value c.args.path.now in
    (λ h. path.1 (same.0 (each.0 h)), λ h. each.1 (same.1 (path.0 h)))
