-- Removals from a contour whose points are mapped by f.
use Rattle.std.proofs.Common.{◌≡◌, ℕ, zero, suc, ◌<◌, List, [], ◌∷◌, length, map, remove, refl, sym, ap, subst, ◌∙◌, arith}
use Rattle.std.proofs.lemmas.List.{get_or-map, length-map, map-append}
use Rattle.i_shape_core.proofs.Common.{Point, origin, Test, point_at, place_before, place_after, IsRemovable, Step, Reach, stay, step, Rotation}
use Rattle.i_shape_core.proofs.Removal.Places.{before_within, after_within}

-- if three points pass P, their images pass Q
abbrev pub Carries : (Point → Point) → Test → Test → Type 0
Carries f P Q = (a b c : Point) → P a b c → Q (f a) (f b) (f c)

module _ (f : Point → Point) where
  -- the image's point at place k is the image of the point at k
  pub point_mapped : (c : List Point) (k : ℕ) → k < length c → point_at (map f c) k ≡ f (point_at c k)
  point_mapped c k h = get_or-map f c k origin origin h

  -- the image's point before place k is the image of the point before k
  pub point_before_mapped : (c : List Point) (k : ℕ) → k < length c → point_at (map f c) (place_before (length (map f c)) k) ≡ f (point_at c (place_before (length c) k))
  point_before_mapped c k h = ap (λ (n : ℕ). point_at (map f c) (place_before n k)) (length-map c f) ∙ point_mapped c (place_before (length c) k) (before_within (length c) k h)

  -- the image's point after place k is the image of the point after k
  pub point_after_mapped : (c : List Point) (k : ℕ) → k < length c → point_at (map f c) (place_after (length (map f c)) k) ≡ f (point_at c (place_after (length c) k))
  point_after_mapped c k h = ap (λ (n : ℕ). point_at (map f c) (place_after n k)) (length-map c f) ∙ point_mapped c (place_after (length c) k) (after_within (length c) k h)

  -- three points equal to ones that pass pass too
  pub passes_at_equal_points : (Q : Test) (a b c a' b' c' : Point) → a ≡ a' → b ≡ b' → c ≡ c' → Q a b c → Q a' b' c'
  passes_at_equal_points Q a b c a' b' c' e g h q = subst (λ (x : Point). Q x b' c') e (subst (λ (y : Point). Q a y c') g (subst (λ (z : Point). Q a b z) h q))

  -- a place removable by P is removable by Q in the image
  pub removable_mapped : {P Q : Test} → Carries f P Q → (c : List Point) (k : ℕ) → IsRemovable P c k → IsRemovable Q (map f c) k
  removable_mapped {Q = Q} carries c k r = record {
    enough = omega (arith, length-map c f, r.enough);
    within = omega (arith, length-map c f, r.within);
    passes = passes_at_equal_points Q _ _ _ _ _ _ (sym (point_before_mapped c k r.within)) (sym (point_mapped c k r.within)) (sym (point_after_mapped c k r.within)) (carries _ _ _ r.passes);
  }

  -- removing place k and mapping is mapping and removing place k
  pub map_without : (c : List Point) (k : ℕ) → map f (remove c k) ≡ remove (map f c) k
  map_without [] zero = refl
  map_without [] (suc k) = refl
  map_without (a ∷ c) zero = refl
  map_without (a ∷ c) (suc k) = ap (λ (l : List Point). f a ∷ l) (map_without c k)

  step_mapped : {P Q : Test} → Carries f P Q → {c d : List Point} → Step P c d → Step Q (map f c) (map f d)
  step_mapped carries {c} s = record { place = s.place; removable = removable_mapped carries c s.place s.removable; left = ap (map f) s.left ∙ map_without c s.place }

  -- if c reaches d by P, the image of c reaches the image of d by Q
  pub reach_mapped : {P Q : Test} → Carries f P Q → {c d : List Point} → Reach P c d → Reach Q (map f c) (map f d)
  reach_mapped carries stay = stay
  reach_mapped carries (step s r) = step (step_mapped carries s) (reach_mapped carries r)

  -- images of rotations are rotations
  pub rotation_mapped : {c d : List Point} → Rotation c d → Rotation (map f c) (map f d)
  rotation_mapped r = record {
    front = map f r.front;
    back = map f r.back;
    before = ap (map f) r.before ∙ map-append f r.front r.back;
    after = ap (map f) r.after ∙ map-append f r.back r.front;
  }
