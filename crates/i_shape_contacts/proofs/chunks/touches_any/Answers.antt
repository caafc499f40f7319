use Rattle.std.proofs.Common.{arith, inl, inr}
use Rattle.std.proofs.lemmas.Bool.{cases_lt}
use Rattle.i_shape_contacts.proofs.chunks.touches_any.Goals as goal

pub returns : goal.returns
returns g c = λ e k r h l m n w.
    let before = c.chunk_end-to.ensures.most k l (omega (arith, m, n)) in
    elim (cases_lt r c.if-to-points.start) [
      | inl s ↦ c.does_chunk_touch.ensures c.if-does_chunk_touch.false k r h (omega (arith, m, s)) (omega (arith, h, m)) s m w
      | inr s ↦ c.touches_behind.ensures e k r h before s n m w
    ]
