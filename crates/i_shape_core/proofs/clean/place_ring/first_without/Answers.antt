use Rattle.std.proofs.Common.{◌∙◌, inl, inr, refl, arith}
use Rattle.i_shape_core.proofs.Walks.Gaps.{IsMoved, removed_lead}
use Rattle.i_shape_core.proofs.clean.place_ring.first_without.Goals as goal
use Rattle.i_shape_core.proofs.clean.place_ring.first_without.Goals.{then-behind-eq0, else-behind-eq0+then-behind-first, else-behind-eq0+else-behind-first}

pub returns-then-moved-left-clause-lead : goal.returns-then-moved-left-clause-lead
returns-then-moved-left-clause-lead c =
    let moved : IsMoved c.args.first c.args.behind c.if-behind-eq0.moved = elim c.if-behind-eq0.branch [
      | then-behind-eq0 w ↦ inl (w.if-behind-eq0.true, w.moved-is ∙ w.max-moved.ensures)
      | else-behind-eq0+then-behind-first w ↦ inr (inl (omega (arith, w.if-behind-eq0.false), w.if-behind-first.true, omega (arith, w.if-behind-first.true, w.moved-is)))
      | else-behind-eq0+else-behind-first w ↦ inr (inr (omega (arith, w.if-behind-eq0.false), w.if-behind-first.false, w.moved-is))
    ] in
    removed_lead c.args.left c.args.first c.args.behind c.if-behind-eq0.moved 0 c.requires.some c.requires.first c.requires.behind moved (inl (c.if-moved-left.true, refl))

pub returns-else-moved-left-clause-lead : goal.returns-else-moved-left-clause-lead
returns-else-moved-left-clause-lead c =
    let moved : IsMoved c.args.first c.args.behind c.if-behind-eq0.moved = elim c.if-behind-eq0.branch [
      | then-behind-eq0 w ↦ inl (w.if-behind-eq0.true, w.moved-is ∙ w.max-moved.ensures)
      | else-behind-eq0+then-behind-first w ↦ inr (inl (omega (arith, w.if-behind-eq0.false), w.if-behind-first.true, omega (arith, w.if-behind-first.true, w.moved-is)))
      | else-behind-eq0+else-behind-first w ↦ inr (inr (omega (arith, w.if-behind-eq0.false), w.if-behind-first.false, w.moved-is))
    ] in
    removed_lead c.args.left c.args.first c.args.behind c.if-behind-eq0.moved c.if-behind-eq0.moved c.requires.some c.requires.first c.requires.behind moved (inr (c.if-moved-left.false, refl))
