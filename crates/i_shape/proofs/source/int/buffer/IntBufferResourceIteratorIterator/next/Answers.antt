use Rattle.std.proofs.Common.{length, All}
use Rattle.std.proofs.lemmas.List.Elements.{All-tail}
use Rattle.i_shape.proofs.Common.{InOrder}
use Rattle.i_shape.proofs.source.int.buffer.IntBufferResourceIteratorIterator.next.Goals as goal

pub invariant_of-self : goal.invariant_of-self
invariant_of-self g c =
    let readable : All (InOrder (length c.self.inside.points.now)) c.self.inside.ranges.now = c.self.invariant in
    All-tail (InOrder (length c.self.inside.points.now)) _ _ (rw c.in_ok-range.ensures.cases.0 at readable)
