use Rattle.std.proofs.Common.{rules, ◌≡◌, ◌<◌, length}
use Rattle.i_shape_c.proofs.Batches.{parted_by}
use Rattle.i_shape_c.proofs.batch.are_parted.Goals as goal

pub returns-then-not-is_empty : goal.returns-then-not-is_empty
returns-then-not-is_empty c =
    let some : 0 < length c.args.offsets.now = search rules in
    let told = parted_by c.args.points c.args.offsets.now c.first_bad_offset.result c.first_bad_offset.ensures some in
    (λ is. let same : c.first_bad_offset.result ≡ length c.args.offsets.now = search rules in told.0 same, λ parted. let same = told.1 parted in search rules)
