use Rattle.std.proofs.Common.{refl, arith}
use Rattle.i_shape_core.proofs.Lists.Rings.{part_from, rest_from}
use Rattle.i_shape_core.proofs.clean.batch.clean_at.Goals as goal

pub returns-clause-left : goal.returns-clause-left
returns-clause-left g c =
    let written = c.clean_ring-count.ensures.written in
    rw (part_from c.args.out.now _ c.clean_ring-count.new.out c.args.at (omega (arith, c.requires.room)) refl c.clean_ring-count.result) (record { picked = written.picked; cleaned = written.cleaned })

pub returns-clause-after : goal.returns-clause-after
returns-clause-after g c = rest_from c.args.out.now _ c.clean_ring-count.new.out c.args.at (omega (arith, c.requires.room)) refl c.clean_ring-count.result c.clean_ring-count.ensures.written.rest
