-- The first fault of a polygon.
use Rattle.std.proofs.Common.{◌≡◌, ◌↔◌, ℕ, ℤ, ◌+◌, ◌-◌, ◌<◌, Bool, false, IsTrue, List, length, map, take, drop, slice_range, All, refl, sym, ap, subst, ◌∙◌, inl, inr}
use Rattle.std.proofs.lemmas.Bool.{cases_lt}
use Rattle.std.proofs.lemmas.List.{take-map, drop-map}
use Rattle.std.proofs.lemmas.List.Elements.{All-take, All-drop}
use Rattle.i_shape_core.specs.Point.{Point}
use Rattle.i_shape_core.specs.IntPoint.{contour_of}
use Rattle.i_shape_core.specs.Rings.{nth_ring}
use Rattle.i_shape_core.specs.declared.point.IntPoint.{IntPoint}
use Rattle.i_shape_core.proofs.Plane.PointLists.{read-length}
use Rattle.i_shape_contacts.specs.Courses.{DividesPoints}
use Rattle.i_shape_contacts.specs.Validity.{IsDegenerate, IsDegenerateRing, IsLeast, IsFirstFault, IsValidPolygon}
use Rattle.i_shape_contacts.specs.declared.validity.Validity.{Validity}
use Rattle.i_shape_contacts.specs.declared.validity.Validity.TheVariants.{Valid, TooFewPoints, Contact, HoleOutside, HoleWithin}

-- a part of what is made of each item
slice_range-map : {X Y : Type 0} (f : X → Y) (xs : List X) (a b : ℕ) → slice_range (map f xs) a b ≡ map f (slice_range xs a b)
slice_range-map f xs a b = ap (take (b - a)) (drop-map f a xs) ∙ take-map f (b - a) (drop a xs)

-- a part of a list of a caller's points, read as a contour
pub read-part : {A I : Type 0} (value : I → ℤ) (point : A → IntPoint I) (points : List A → List (IntPoint I)) (each : (list : List A) → points list ≡ map point list) (list : List A) (a b : ℕ)
    → contour_of value (points (slice_range list a b)) ≡ slice_range (contour_of value (points list)) a b
read-part value point points each list a b =
    ap (contour_of value) (each (slice_range list a b) ∙ sym (slice_range-map point list a b) ∙ ap (λ l. slice_range l a b) (sym (each list)))
    ∙ sym (slice_range-map _ (points list) a b)

-- what holds of each item holds of each item of a part
pub All-part : {X : Type 0} (P : X → Type 0) (xs : List X) (a b : ℕ) → All P xs → All P (slice_range xs a b)
All-part P xs a b all = All-take P (b - a) (drop a xs) (All-drop P a xs all)

-- offsets that divide a list of a caller's points divide what is read of it
pub divides_read : {A I : Type 0} (value : I → ℤ) (point : A → IntPoint I) (points : List A → List (IntPoint I)) (each : (list : List A) → points list ≡ map point list) (list : List A) (offsets : List ℕ)
    → DividesPoints (length list) offsets → DividesPoints (length (contour_of value (points list))) offsets
divides_read value point points each list offsets d = subst (λ n. DividesPoints n offsets) (sym (read-length value point points each list)) d

-- false isn't true
pub untrue : IsTrue false → ⊥
untrue t = absurd (cc)

-- if a test of Q returns false, Q doesn't hold
pub not_by_test : {Q : Type 0} (b : Bool) → (IsTrue b ↔ Q) → b ≡ false → Q → ⊥
not_by_test b tells fails q = let t : IsTrue b = tells.1 q in absurd (cc)

-- a number at which P is true, and below which it isn't, is the least
pub least_at : (P : ℕ → Type 0) (n : ℕ) → ((k : ℕ) → k < n → P k → ⊥) → P n → IsLeast P n
least_at P n none here = record { is = here; least = λ j w. elim (cases_lt j n) [ inl h ↦ absurd (none j h w) | inr h ↦ h ] }

module _ (offsets : List ℕ) (c : List Point) where
  -- ring k is degenerate where its points are
  pub degenerate_at : (k : ℕ) (ring : List Point) (b : Bool) → ring ≡ nth_ring c offsets k → (IsTrue b ↔ IsDegenerate ring) → k + 1 < length offsets → IsTrue b ↔ IsDegenerateRing offsets c k
  degenerate_at k ring b is tells within = (
    λ t. record { is_ring = within; degenerate = rw (← is) (tells.0 t) },
    λ w. tells.1 (rw is w.degenerate),
  )

  -- no fault is the first exactly where the polygon is valid
  pub valid_by_fault : (v : Validity) → IsFirstFault offsets c v → (v ≡ Valid) ↔ IsValidPolygon offsets c
  valid_by_fault Valid f = (λ e. f, λ w. refl)
  valid_by_fault (TooFewPoints k) f = (λ e. absurd (cc), λ w. absurd (w.no_degenerate k f.is))
  valid_by_fault (Contact it) f = (λ e. absurd (cc), λ w. absurd (w.no_contact.none it.first it.second f.first.first.contact))
  valid_by_fault (HoleOutside k) f = (λ e. absurd (cc), λ w. absurd (w.no_outside k f.first.is))
  valid_by_fault (HoleWithin k j) f = (λ e. absurd (cc), λ w. absurd (w.no_within k j f.first.first_other.is))
