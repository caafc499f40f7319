use Rattle.std.proofs.Common.{◌≡◌, ℕ, get_or, arith, sym, ap, subst, ◌∙◌, inl, inr}
use Rattle.std.proofs.lemmas.Bool.{cases_lt}
use Rattle.std.proofs.lemmas.List.{get_or_default}
use Rattle.i_shape_core.specs.IntPoint.{contour_of}
use Rattle.i_shape_contacts.specs.declared.plain.Contact.{Contact}
use Rattle.i_shape_contacts.proofs.Faults.{not_by_test}
use Rattle.i_shape_touching.specs.Touching.{AreTouching, IsFaultyContact}
use Rattle.i_shape_touching.proofs.ContactLists.{first_in_list, none_in_list}
use Rattle.i_shape_touching.proofs.touches.first_faulty.Goals as goal

pub returns-then-not-is_touch : goal.returns-then-not-is_touch
returns-then-not-is_touch g c =
    let list = contour_of g.P.Coordinate.IntNumber.value (g.P.ContourPoint.points c.args.points.now) in
    let contacts = c.args.contacts.now in
    let n = c.loop-contact.contact-index in
    let within = c.loop-contact-test.true in
    let it : Contact = get_or contacts n (record { first = 0; second = 0 }) in
    first_in_list _ (IsFaultyContact c.args.offsets.now list) contacts n it c.requires.all (λ i j h. h.contact) within (λ d. get_or_default contacts n d (record { first = 0; second = 0 }) within) c.loop-contact.invariant
    (record { contact = c.requires.all.each n (record { first = 0; second = 0 }) within; more = not_by_test {Q = AreTouching c.args.offsets.now list it.first it.second} c.is_touch.result c.is_touch.ensures c.if-not-is_touch.true })

pub loop-contact-preserved : goal.loop-contact-preserved
loop-contact-preserved g c = λ k d h faulty. elim (cases_lt k c.loop-contact.contact-index) [
  | inl before ↦ c.loop-contact.invariant k d before faulty
  | inr not_before ↦ (
      let list = contour_of g.P.Coordinate.IntNumber.value (g.P.ContourPoint.points c.args.points.now) in
      let contacts = c.args.contacts.now in
      let n = c.loop-contact.contact-index in
      let within = c.loop-contact-test.true in
      let here : k ≡ n = omega (arith, h, not_before) in
      let same : get_or contacts k d ≡ get_or contacts n (record { first = 0; second = 0 }) = ap (λ (m : ℕ). get_or contacts m d) here ∙ get_or_default contacts n d (record { first = 0; second = 0 }) within in
      faulty.more (subst (λ (it : Contact). AreTouching c.args.offsets.now list it.first it.second) (sym same) (c.is_touch.ensures.0 c.if-not-is_touch.false))
      )
]

pub returns : goal.returns
returns g c =
    let list = contour_of g.P.Coordinate.IntNumber.value (g.P.ContourPoint.points c.args.points.now) in
    let past = c.loop-contact-test.false in
    none_in_list _ (IsFaultyContact c.args.offsets.now list) c.args.contacts.now c.loop-contact.contact-index c.requires.all (λ i j h. h.contact) past c.loop-contact.invariant
