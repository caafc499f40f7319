use Rattle.std.proofs.Common.{◌≡◌, ◌+◌, ◌-◌, ◌≤◌, ℕ, arith, refl, subst, inl, inr}
use Rattle.std.proofs.lemmas.Bool.{cases_lt}
use Rattle.i_shape_core.specs.Rings.{offset}
use Rattle.i_shape_contacts.proofs.course.are_rising.Goals as goal

pub loop-place-init : goal.loop-place-init
loop-place-init c = λ k h. absurd (omega (arith, h))

pub loop-place-preserved : goal.loop-place-preserved
loop-place-preserved c = λ k h.
    let offsets = c.args.offsets.now in
    let place = c.loop-place.place in
    elim (cases_lt (k + 1) place) [
      | inl l ↦ c.loop-place.invariant k l
      | inr l ↦ (
          let last : k + 1 ≡ place = omega (arith, h, l) in
          let before : place - 1 ≡ k = omega (arith, last) in
          let rises : offset offsets (place - 1) ≤ offset offsets place = c.if-offsets-place.false in
          subst (λ (m : ℕ). offset offsets k ≤ offset offsets m) (let back : place ≡ k + 1 = omega (arith, last) in back) (subst (λ (m : ℕ). offset offsets m ≤ offset offsets place) before rises))
    ]

pub returns-then-offsets-place : goal.returns-then-offsets-place
returns-then-offsets-place c =
    let offsets = c.args.offsets.now in
    let place = c.loop-place.place in
    let some = c.loop-place.auto.place in
    let inside = c.loop-place-test.true in
    let falls = c.if-offsets-place.true in
    let same : place - 1 + 1 ≡ place = omega (arith, some) in (
      λ t. absurd (cc),
      λ all.
          let rises : offset offsets (place - 1) ≤ offset offsets place = subst (λ (m : ℕ). offset offsets (place - 1) ≤ offset offsets m) same (all (place - 1) (omega (arith, inside, same))) in
          absurd (omega (arith, rises, falls)),
    )

pub returns : goal.returns
returns c = let past = c.loop-place-test.false in (λ t k h. c.loop-place.invariant k (omega (arith, past, h)), λ all. refl)
