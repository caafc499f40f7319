use Rattle.std.proofs.Common.{◌≡◌, ◌+◌, ◌%◌, set, arith, length-set}
use Rattle.std.proofs.lemmas.List.{set_comm, drop-set}
use Rattle.i_shape_tool.proofs.Showing.Pairs.{pair_at}
use Rattle.i_shape_tool.proofs.decimal.write_pair.Goals as goal

pub returns : goal.returns
returns c =
    let digits = pair_at c.args.pair c.requires.0 in
    let start = c.args.start in
    let text = c.args.text.now in
    let ones = 48 + c.args.pair % 10 in
    let next : start + 1 + 1 ≡ start + 2 = omega arith in
    rw (digits.0, digits.1, set_comm text start (start + 1) _ _ (λ same. omega arith), drop-set (set text (start + 1) ones) start _ (omega (arith, length-set text (start + 1) ones)), drop-set text (start + 1) _ (omega arith), next)
