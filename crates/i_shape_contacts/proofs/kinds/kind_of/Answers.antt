use Rattle.std.proofs.Common.{IsTrue, refl}
use Rattle.i_shape_core.specs.IntPoint.{point_of}
use Rattle.i_shape_contacts.specs.Kinds.{DoCross, DoOverlap}
use Rattle.i_shape_contacts.proofs.Overlaps.{along_overlap, overlap_along, cross_apart}
use Rattle.i_shape_contacts.proofs.kinds.kind_of.Goals as goal

pub returns-then-do_cross : goal.returns-then-do_cross
returns-then-do_cross g c =
    let at = point_of g.I.IntNumber.value in
    let cross : DoCross (at c.args.a) (at c.args.b) (at c.args.c) (at c.args.e) = c.do_cross.ensures.0 c.if-do_cross.true in
    record {
      crossing = (λ e. cross, λ h. refl);
      touch = (λ e. absurd (cc), λ h. absurd (h.not_across cross));
      overlap = (λ e. absurd (cc), λ h. absurd (cross_apart _ _ _ _ cross h));
    }

pub returns-then-are_along : goal.returns-then-are_along
returns-then-are_along g c =
    let at = point_of g.I.IntNumber.value in
    let no_cross = c.if-do_cross.false in
    let over : DoOverlap (at c.args.a) (at c.args.b) (at c.args.c) (at c.args.e) = along_overlap _ _ _ _ c.requires.meet (c.are_along.ensures.0 c.if-are_along.true) in
    record {
      crossing = (λ e. absurd (cc), λ h. let t : IsTrue c.do_cross.result = c.do_cross.ensures.1 h in absurd (cc));
      touch = (λ e. absurd (cc), λ h. absurd (h.sole over));
      overlap = (λ e. over, λ h. refl);
    }

pub returns-else-are_along : goal.returns-else-are_along
returns-else-are_along g c =
    let no_cross = c.if-do_cross.false in
    let no_along = c.if-are_along.false in
    record {
      crossing = (λ e. absurd (cc), λ h. let t : IsTrue c.do_cross.result = c.do_cross.ensures.1 h in absurd (cc));
      touch = (
        λ e. record {
          meet = c.requires.meet;
          sole = λ h. let t : IsTrue c.are_along.result = c.are_along.ensures.1 (overlap_along _ _ _ _ h) in absurd (cc);
          not_across = λ h. let t : IsTrue c.do_cross.result = c.do_cross.ensures.1 h in absurd (cc);
        },
        λ h. refl,
      );
      overlap = (λ e. absurd (cc), λ h. let t : IsTrue c.are_along.result = c.are_along.ensures.1 (overlap_along _ _ _ _ h) in absurd (cc));
    }
