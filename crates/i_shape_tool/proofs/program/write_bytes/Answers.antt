use Rattle.std.proofs.Common.{◌++◌, take}
use Rattle.std.proofs.KnownBytes.{Appends-trans, Appends-kept}
use Rattle.i_shape_tool.proofs.Running.Serving.{begun, moved}
use Rattle.i_shape_tool.proofs.program.write_bytes.Goals.{in-Ok, in-Err}
use Rattle.i_shape_tool.proofs.program.write_bytes.Goals as goal

pub returns-then-is_empty-clause-begun : goal.returns-then-is_empty-clause-begun
returns-then-is_empty-clause-begun g c = let (done, parts, grown) = c.loop.invariant in begun _ _ _ done _ parts grown

pub returns-in-Ok-eq0-clause-begun : goal.returns-in-Ok-eq0-clause-begun
returns-in-Ok-eq0-clause-begun g c =
    let (done, parts, grown) = c.loop.invariant in
    let written = rw c.in-Ok-eq0.is at c.write.ensures.bytes in
    begun _ _ _ (done ++ take c.in-Ok-eq0.field-0 c.loop.rest.now) _ (moved _ done c.loop.rest.now c.in-Ok-eq0.field-0 parts)
    (Appends-trans _ _ _ done (take c.in-Ok-eq0.field-0 c.loop.rest.now) grown written)

pub returns-in-Err-2-clause-begun : goal.returns-in-Err-2-clause-begun
returns-in-Err-2-clause-begun g c = let (done, parts, grown) = c.loop.invariant in begun _ _ _ done c.loop.rest.now parts (Appends-kept _ _ _ done grown c.in-Err.ensures.bytes)

pub loop-preserved : goal.loop-preserved
loop-preserved g c =
    let (done, parts, grown) = c.loop.invariant in
    elim c.match-write.branch [
      | in-Ok w ↦ (
        done ++ take w.in-Ok.count c.loop.rest.now,
        rw w.rest-is (moved _ done c.loop.rest.now w.in-Ok.count parts),
        Appends-trans _ _ _ done (take w.in-Ok.count c.loop.rest.now) grown w.in-Ok.ensures.bytes,
      )
      | in-Err w ↦ (done, rw w.rest-is parts, Appends-kept _ _ _ done grown w.in-Err.ensures.bytes)
    ]

pub returns-clause-begun : goal.returns-clause-begun
returns-clause-begun g c = let (done, parts, grown) = c.loop.invariant in begun _ _ _ done _ parts grown
