-- A store keeps canonical forms, so it has a contour that is joined to c exactly if it has the form of c.
use Rattle.std.proofs.Common.{◌≡◌, ◌↔◌, ◌⊎◌, ℤ, List, [], ◌∷◌, ◌++◌, Contains, inl, inr, sym, ap, ◌∙◌, subst, arith}
use Rattle.std.specs.Global.{Vec}
use Rattle.std.proofs.lemmas.List.{map-append}
use Rattle.std.proofs.lemmas.List.Elements.{All-push, All-contains, Contains-append_left, Contains-push, Contains-push_cases}
use Rattle.i_shape.specs.Point.{Point, IsZeroTurn}
use Rattle.i_shape.specs.Contour.{SameEnd, collapsed, rotated, IsCollapsed}
use Rattle.i_shape.specs.Cleaners.{EachEndCollapses}
use Rattle.i_shape.specs.Canonical.{IsCanonical, Joined}
use Rattle.i_shape_core.proofs.Removal.Ends.{has_end}
use Rattle.i_shape_core.proofs.Removal.ZeroTurns.{zero_turn_slides, zero_turn_decided}
use Rattle.i_shape_core.proofs.Forms.Canonical.{canonical_joined, ends_of_joined, joined_trans, joined_sym, joined_by_reach, joined_by_rotation}
use Rattle.i_shape.specs.IntPoint.{contour_of}
use Rattle.i_shape.specs.IntPoints.{IntPoint}
use Rattle.i_shape.specs.ShapeLists.{shape_of}
use Rattle.callers.specs.Store.{AreForms, IsFound, AlsoFinds}

-- a contour is joined to its form
form_joined : {c l : List Point} → IsCanonical c l → Joined IsZeroTurn c l
form_joined w = joined_trans (joined_by_reach w.ends.ended.reached w.ends.enough) (joined_by_rotation w.least.rotation w.ends.enough)

-- joined contours have equal forms
one_form : {c d l m : List Point} → IsCanonical c l → IsCanonical d m → Joined IsZeroTurn c d → l ≡ m
one_form {c} {d} {l} {m} a b joined =
    (canonical_joined c d a.end b.end l m a.ends.ended a.ends.enough b.ends.ended b.ends.enough a.least b.least).1 joined

-- a contour that has a form isn't joined to one that collapses
pub never_joined : {c d l : List Point} → IsCanonical c l → EachEndCollapses d → Joined IsZeroTurn c d → ⊥
never_joined {c} {d} a collapses joined =
    let end = has_end zero_turn_decided d in
    go (collapses end.0 end.1) (ends_of_joined zero_turn_slides zero_turn_decided joined a.ends.ended end.1)
  where
    go : {e : List Point} → IsCollapsed e → SameEnd a.end e → ⊥
    go few (collapsed p q) = let enough = a.ends.enough in omega arith
    go few (rotated p q r) = omega arith

-- Each member of a store is the canonical form of some contour.
module _ (store : List (List Point)) (forms : AreForms store) where
  member : (form : List Point) → Contains store form → (c : List Point) × IsCanonical c form
  member form there = All-contains (λ form. (c : List Point) × IsCanonical c form) store form forms there

  -- a store contains the form of c exactly if it has a contour that is joined to c
  pub found_by_form : (c l : List Point) → IsCanonical c l → Contains store l ↔ IsFound store c
  found_by_form c l w = (to, from)
    where
      to : Contains store l → IsFound store c
      to there = (l, there, joined_sym (form_joined w))

      from : IsFound store c → Contains store l
      from (form, there, joined) =
          let own = member form there in
          subst (Contains store) (one_form own.1 w (joined_trans (form_joined own.1) joined)) there

  -- a store has no contour that is joined to one that collapses
  pub none_found : (c : List Point) → EachEndCollapses c → IsFound store c → ⊥
  none_found c collapses (form, there, joined) =
      let own = member form there in
      never_joined own.1 collapses (joined_trans (form_joined own.1) joined)

  -- appending a form keeps all members forms
  pub forms_more : (c l : List Point) → IsCanonical c l → AreForms (store ++ l ∷ [])
  forms_more c l w = All-push (λ form. (c : List Point) × IsCanonical c form) store l forms (c, w)

-- a store with the form of c appended also finds the contours that are joined to c
pub finds_more : (store : List (List Point)) (c l : List Point) → IsCanonical c l → AlsoFinds store c (store ++ l ∷ [])
finds_more store c l w d = (to, from)
  where
    split : (form : List Point) → Joined IsZeroTurn form d → Contains store form ⊎ (l ≡ form) → IsFound store d ⊎ Joined IsZeroTurn c d
    split form joined (inl there) = inl (form, there, joined)
    split form joined (inr same) = inr (joined_trans (form_joined w) (subst (λ (x : List Point). Joined IsZeroTurn x d) (sym same) joined))

    to : IsFound (store ++ l ∷ []) d → IsFound store d ⊎ Joined IsZeroTurn c d
    to (form, there, joined) = split form joined (Contains-push_cases store l form there)

    from : IsFound store d ⊎ Joined IsZeroTurn c d → IsFound (store ++ l ∷ []) d
    from (inl (form, there, joined)) = (form, Contains-append_left store (l ∷ []) form there, joined)
    from (inr joined) = (l, Contains-push store l, joined_trans (joined_sym (form_joined w)) joined)

-- a store that has a contour joined to c already finds the contours that are joined to c
pub finds_same : (store : List (List Point)) (c : List Point) → IsFound store c → AlsoFinds store c store
finds_same store c (form, there, joined) d = (λ found. inl found, from)
  where
    from : IsFound store d ⊎ Joined IsZeroTurn c d → IsFound store d
    from (inl found) = found
    from (inr more) = (form, there, joined_trans joined more)

-- pushing a contour appends it to the shape
pub shape_more : {I : Type 0} (value : I → ℤ) (old new : List (Vec (IntPoint I))) (pushed : Vec (IntPoint I))
    → new ≡ old ++ pushed ∷ [] → shape_of value new ≡ shape_of value old ++ contour_of value pushed.items ∷ []
shape_more value old new pushed became =
    ap (shape_of value) became ∙ map-append (λ contour. contour_of value contour.items) old (pushed ∷ [])
