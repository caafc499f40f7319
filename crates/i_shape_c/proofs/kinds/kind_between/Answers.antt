use Rattle.std.proofs.Common.{IsTrue, refl}
use Rattle.i_shape.specs.IntPoint.{point_of}
use Rattle.i_shape_contacts.specs.Meeting.{Meet}
use Rattle.i_shape_c.proofs.Crossing.{cross_meets, overlap_meets}
use Rattle.i_shape_c.proofs.kinds.kind_between.Goals as goal

pub returns-then-not-do_meet : goal.returns-then-not-do_meet
returns-then-not-do_meet g c =
    let at = point_of g.I.IntNumber.value in
    let none : Meet (at c.args.a) (at c.args.b) (at c.args.c) (at c.args.e) → ⊥ = λ m. let t : IsTrue c.do_meet.result = c.do_meet.ensures.1 m in absurd (cc) in
    record {
      apart = (λ e. none, λ n. refl);
      crossing = (λ e. absurd (cc), λ h. absurd (none (cross_meets _ _ _ _ h)));
      touch = (λ e. absurd (cc), λ h. absurd (none h.meet));
      overlap = (λ e. absurd (cc), λ h. absurd (none (overlap_meets _ _ _ _ h)));
    }

pub returns-in-Crossing : goal.returns-in-Crossing
returns-in-Crossing g c =
    let kind = c.kind_of.ensures in
    let is = c.in-Crossing.is in
    record {
      apart = (λ e. absurd (cc), λ none. absurd (none (c.do_meet.ensures.0 c.if-not-do_meet.false)));
      crossing = (λ e. kind.crossing.0 is, λ h. refl);
      touch = (λ e. absurd (cc), λ h. let other = kind.touch.1 h in absurd (cc));
      overlap = (λ e. absurd (cc), λ h. let other = kind.overlap.1 h in absurd (cc));
    }

pub returns-in-Overlap : goal.returns-in-Overlap
returns-in-Overlap g c =
    let kind = c.kind_of.ensures in
    let is = c.in-Overlap.is in
    record {
      apart = (λ e. absurd (cc), λ none. absurd (none (c.do_meet.ensures.0 c.if-not-do_meet.false)));
      crossing = (λ e. absurd (cc), λ h. let other = kind.crossing.1 h in absurd (cc));
      touch = (λ e. absurd (cc), λ h. let other = kind.touch.1 h in absurd (cc));
      overlap = (λ e. kind.overlap.0 is, λ h. refl);
    }
