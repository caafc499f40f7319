use Rattle.std.proofs.Common.{◌≤◌, ◌∙◌, ℕ, arith, inl, inr, refl, subst, sym}
use Rattle.std.proofs.lemmas.Bool.{cases_eq}
use Rattle.i_shape_core.specs.IntPoint.{contour_of}
use Rattle.i_shape_contacts.specs.Contacts.{IsContactBy}
use Rattle.i_shape_contacts.proofs.BlockSteps.{least_more}
use Rattle.i_shape_contacts.proofs.blocks.least_of_chunk.Goals as goal

pub loop-rank-init : goal.loop-rank-init
loop-rank-init g c = record {
  most = omega arith;
  found = λ n. absurd (n refl);
  tried = λ m h l w. absurd (omega (arith, h, l));
}

pub edge-edge-requires : goal.edge-edge-requires
edge-edge-requires g c = omega (arith, c.requires.ordered.count, c.loop-rank-test.true, c.requires.within)

pub lesser_contact-least-requires-clause-within : goal.lesser_contact-least-requires-clause-within
lesser_contact-least-requires-clause-within g c =
    let inside = c.loop-rank-test.true in
    let most = c.requires.within in
    omega (arith, c.edge-edge.ensures, c.requires.ordered.within c.loop-rank.rank (omega (arith, inside, most)))

pub loop-rank-preserved : goal.loop-rank-preserved
loop-rank-preserved g c =
    let value = g.P.Coordinate.IntNumber.value in
    let list = contour_of value (g.P.ContourPoint.points c.args.points.now) in
    let read = c.edge-edge.ensures in
    let before = c.loop-rank.invariant in
    let less = c.lesser_contact-least.ensures.most in
    let most = before.most in
    record {
      most = omega (arith, less, most);
      found = λ n. elim (cases_eq c.lesser_contact-least.result c.loop-rank.least) [
        | inl e ↦ subst (IsContactBy (g.C.Course.follows c.args.course) list c.args.first) (sym e) (before.found (λ q. n (e ∙ q)))
        | inr m ↦ c.lesser_contact-least.ensures.found m
      ];
      tried = least_more value (g.C.Course.follows c.args.course) list (g.O.Order.edge_at c.args.order) c.args.first c.args.from c.loop-rank.rank c.loop-rank.least c.lesser_contact-least.result less before.tried
          (λ w. subst (λ (k : ℕ). c.lesser_contact-least.result ≤ k) read (c.lesser_contact-least.ensures.tried (subst (IsContactBy (g.C.Course.follows c.args.course) list c.args.first) (sym read) w)));
    }

pub returns-clause-tried : goal.returns-clause-tried
returns-clause-tried g c = λ k h l w. let past = c.loop-rank-test.false in c.loop-rank.invariant.tried k h (omega (arith, past, l)) w
