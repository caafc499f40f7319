-- What a contour whose points are mapped by f reaches, and its simple answers.
use Rattle.std.proofs.Common.{◌≡◌, ℕ, ◌<◌, List, [], ◌∷◌, ◌++◌, length, map, take, drop, remove, refl, sym, ap, ap₂, subst, ◌∙◌, arith, ◌↔◌, take_at, drop_at, Option, Some, None, option_map}
use Rattle.std.proofs.lemmas.List.{length-map, map-append, take-map, drop-map, take-append-drop}
use Rattle.i_shape_core.specs.Point.{Point, IsZeroTurn}
use Rattle.i_shape_core.specs.Contour.{Test, IsRemovable, Reach, stay, step, End, Rotation, IsCollapsed}
use Rattle.i_shape_core.specs.Cleaners.{IsOneEnd, EachEndCollapses, SimpleAnswer}
use Rattle.i_shape_core.proofs.Moved.Mapped.{Carries, point_mapped, point_before_mapped, point_after_mapped, passes_at_equal_points, removable_mapped, map_without, reach_mapped, rotation_mapped}

-- if the images of three points pass Q, the points pass P
abbrev pub Returns : (Point → Point) → Test → Test → Type 0
Returns f P Q = (a b c : Point) → Q (f a) (f b) (f c) → P a b c

-- f is injective
abbrev pub Apart : (Point → Point) → Type 0
Apart f = (p q : Point) → f p ≡ f q → p ≡ q

module _ (f : Point → Point) where
  removable_back : {P Q : Test} → Returns f P Q → (c : List Point) (k : ℕ) → IsRemovable Q (map f c) k → IsRemovable P c k
  removable_back {Q = Q} returns c k r =
      let within : k < length c = omega (arith, length-map c f, r.within) in
      record {
        enough = omega (arith, length-map c f, r.enough);
        within = within;
        passes = returns _ _ _ (passes_at_equal_points f Q _ _ _ _ _ _ (point_before_mapped f c k within) (point_mapped f c k within) (point_after_mapped f c k within) r.passes);
      }

  -- each list that the image of c reaches is the image of one that c reaches
  reach_back : {P Q : Test} → Returns f P Q → (c : List Point) {g e : List Point} → Reach Q g e → g ≡ map f c → (d : List Point) × Reach P c d × (e ≡ map f d)
  reach_back returns c stay h = (c, stay, h)
  reach_back {P} {Q} returns c {g} (step {d = d} s r) h =
      let removable : IsRemovable P c s.place = removable_back returns c s.place (subst (λ (l : List Point). IsRemovable Q l s.place) h s.removable) in
      let rest = reach_back returns (remove c s.place) r (s.left ∙ ap (λ (l : List Point). remove l s.place) h ∙ sym (map_without f c s.place)) in
      (rest.0, step (record { place = s.place; removable = removable; left = refl }) rest.1, rest.2)

  -- the image of an end is an end of the image
  pub end_mapped : {P Q : Test} → Carries f P Q → Returns f P Q → {c e : List Point} → End P c e → End Q (map f c) (map f e)
  end_mapped carries returns {c} {e} w = record { reached = reach_mapped f carries w.reached; none_left = λ k r. w.none_left k (removable_back returns e k r) }

  -- each end of the image is the image of an end
  pub end_back : {P Q : Test} → Carries f P Q → Returns f P Q → (c g : List Point) → End Q (map f c) g → (e : List Point) × End P c e × (g ≡ map f e)
  end_back {P} {Q} carries returns c g w =
      let r = reach_back returns c w.reached refl in
      (r.0, record { reached = r.1; none_left = λ k h. w.none_left k (subst (λ (l : List Point). IsRemovable Q l k) (sym r.2) (removable_mapped f carries r.0 k h)) }, r.2)

  -- lists with equal images are equal
  pub one_mapped : Apart f → (c d : List Point) → map f c ≡ map f d → c ≡ d
  one_mapped apart [] [] e = refl
  one_mapped apart [] (b ∷ d) e = absurd (cc)
  one_mapped apart (a ∷ c) [] e = absurd (cc)
  one_mapped apart (a ∷ c) (b ∷ d) e =
      let head : f a ≡ f b = cc in
      let tail : map f c ≡ map f d = cc in
      let first = apart a b head in
      let rest = one_mapped apart c d tail in
      cc

  -- if the image of c reaches the image of d, c reaches d
  pub reach_back_to : {P Q : Test} → Apart f → Returns f P Q → (c d : List Point) → Reach Q (map f c) (map f d) → Reach P c d
  reach_back_to {P} apart returns c d r =
      let w = reach_back returns c r refl in
      subst (Reach P c) (sym (one_mapped apart d w.0 w.2)) w.1

  -- if the image of e is an end of the image of c, e is an end of c
  pub end_back_to : {P Q : Test} → Apart f → Carries f P Q → Returns f P Q → (c e : List Point) → End Q (map f c) (map f e) → End P c e
  end_back_to {P} apart carries returns c e w =
      let r = end_back carries returns c (map f e) w in
      subst (End P c) (sym (one_mapped apart e r.0 r.2)) r.1

  -- if images are rotations, so are the lists
  pub rotation_back : Apart f → (c d : List Point) → Rotation (map f c) (map f d) → Rotation c d
  rotation_back apart c d r =
      let k : ℕ = length r.front in
      let front : take k (map f c) ≡ r.front = ap (take k) r.before ∙ take_at r.front r.back k refl in
      let back : drop k (map f c) ≡ r.back = ap (drop k) r.before ∙ drop_at r.front r.back k refl in
      record {
        front = take k c;
        back = drop k c;
        before = sym (take-append-drop k c);
        after = one_mapped apart d (drop k c ++ take k c) (r.after ∙ ap₂ (λ (x y : List Point). x ++ y) (sym back ∙ drop-map f k c) (sym front ∙ take-map f k c) ∙ sym (map-append f (drop k c) (take k c)));
      }

-- Simple answers of images.
module _ (f : Point → Point) (apart : Apart f) (carries : Carries f IsZeroTurn IsZeroTurn) (returns : Returns f IsZeroTurn IsZeroTurn) where
  collapsed_mapped : (e : List Point) → IsCollapsed e ↔ IsCollapsed (map f e)
  collapsed_mapped e = (λ h. omega (arith, length-map e f), λ h. omega (arith, length-map e f))

  each_mapped : (c : List Point) → EachEndCollapses c → EachEndCollapses (map f c)
  each_mapped c h g w =
      let r = end_back f carries returns c g w in
      subst IsCollapsed (sym r.2) ((collapsed_mapped r.0).0 (h r.0 r.1))

  each_back : (c : List Point) → EachEndCollapses (map f c) → EachEndCollapses c
  each_back c h e w = (collapsed_mapped e).1 (h (map f e) (end_mapped f carries returns w))

  one_end_mapped : (c e : List Point) → IsOneEnd c e → IsOneEnd (map f c) (map f e)
  one_end_mapped c e o = record {
    ended = end_mapped f carries returns o.ended;
    enough = omega (arith, length-map e f, o.enough);
    alone = λ g w. let r = end_back f carries returns c g w in subst (Rotation (map f e)) (sym r.2) (rotation_mapped f (o.alone r.0 r.1));
  }

  one_end_back : (c e : List Point) → IsOneEnd (map f c) (map f e) → IsOneEnd c e
  one_end_back c e o = record {
    ended = end_back_to f apart carries returns c e o.ended;
    enough = omega (arith, length-map e f, o.enough);
    alone = λ g w. rotation_back f apart e g (o.alone (map f g) (end_mapped f carries returns w));
  }

  -- r is a simple answer of c exactly if its image is one of the image of c
  pub answer_mapped : (c : List Point) (r : Option (List Point)) → SimpleAnswer c r ↔ SimpleAnswer (map f c) (option_map (map f) r)
  answer_mapped c None = (each_mapped c, each_back c)
  answer_mapped c (Some e) = (one_end_mapped c e, one_end_back c e)
