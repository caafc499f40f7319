-- A contour winds about no point beside a box that holds its points.
use Rattle.std.proofs.Common.{◌≡◌, ◌∙◌, ℕ, suc, ◌+◌, ◌<◌, List, [], ◌∷◌, length, get_or, ℤ, pos, ◌+ℤ◌, ◌≤ℤ◌, ◌<ℤ◌, int_lt, Bool, true, false, All, refl, sym, ap, ap₂, subst, arith, ◌⊎◌, inl, inr}
use Rattle.std.proofs.lemmas.Bool.{cases_lt}
use Rattle.std.proofs.lemmas.Int.{ints}
use Rattle.std.proofs.lemmas.List.Elements.{All-get_or}
use Rattle.i_shape_core.specs.Point.{Point, origin}
use Rattle.i_shape_core.specs.Contour.{point_at}
use Rattle.i_shape_core.specs.Edges.{edges_between, sum_of}
use Rattle.i_shape_core.specs.IntPoint.{point_of}
use Rattle.i_shape_core.specs.Winding.{winding, winding_of_edge}
use Rattle.i_shape_core.proofs.Sums.Windings.{flat}
use Rattle.i_shape_contacts.specs.Steps.Boxes.{IsWithin, Holds, AreApart}
use Rattle.i_shape_contacts.specs.declared.boxes.Bounds.{Bounds}
use Rattle.i_shape_contacts.proofs.Apart.{apart_x, meet_swapped}
use Rattle.i_shape_contacts.proofs.SameWinding.{follower, follower_on, follower_round, same_about_ends}

-- what holds of each item of a list holds of each but the first
all_tail : (Q : Point → Type 0) (b : Point) (bs : List Point) → All Q (b ∷ bs) → All Q bs
all_tail Q b bs all = λ k d h. all (suc k) d (omega (arith, h))

-- a path on one side of the height of p adds nothing
flat_path : (p : Point) (s : Bool) (a : Point) (bs : List Point) (z : Point) → int_lt p.y a.y ≡ s → All (λ q. int_lt p.y q.y ≡ s) bs → int_lt p.y z.y ≡ s → sum_of (winding_of_edge p) (edges_between a bs z) ≡ pos 0
flat_path p s a [] z e all f = ap (λ w. w +ℤ pos 0) (flat p a z s e f)
flat_path p s a (b ∷ bs) z e all f =
    let here : int_lt p.y b.y ≡ s = all 0 b (omega arith) in
    ap₂ (λ v w. v +ℤ w) (flat p a b s e here) (flat_path p s b bs z here (all_tail (λ q. int_lt p.y q.y ≡ s) b bs all) f)

-- a contour on one side of it winds about p nowhere
flat_contour : (p : Point) (s : Bool) (c : List Point) → All (λ q. int_lt p.y q.y ≡ s) c → winding c p ≡ pos 0
unfolding winding
flat_contour p s [] all = refl
flat_contour p s (a ∷ bs) all = let here : int_lt p.y a.y ≡ s = all 0 a (omega arith) in flat_path p s a bs a here (all_tail (λ q. int_lt p.y q.y ≡ s) a bs all) here

-- what holds of each point of a contour holds of the one that follows a place
follower_has : (Q : Point → Type 0) (c : List Point) (k : ℕ) → All Q c → k < length c → Q (follower c k)
follower_has Q c k all h = elim (cases_lt (k + 1) (length c)) [
  | inl less ↦ subst Q (sym (follower_on c k less)) (All-get_or Q c (k + 1) origin less all)
  | inr more ↦ subst Q (sym (follower_round c k (omega (arith, h, more)))) (All-get_or Q c 0 origin (omega (arith, h)) all)
]

-- a number that isn't less
not_less : (x y : ℤ) → y ≤ℤ x → int_lt x y ≡ false
not_less x y h = go (int_lt x y) refl
  where
    go : (b : Bool) → int_lt x y ≡ b → int_lt x y ≡ false
    go false e = e
    go true e = absurd (omega (arith, ints))

is_less : (x y : ℤ) → x <ℤ y → int_lt x y ≡ true
is_less x y h = go (int_lt x y) refl
  where
    go : (b : Bool) → int_lt x y ≡ b → int_lt x y ≡ true
    go true e = e
    go false e = absurd (omega (arith, ints))

module _ (low high p : Point) (c : List Point) (all : All (IsWithin low high) c) where
  all_below : high.y ≤ℤ p.y → All (λ q. int_lt p.y q.y ≡ false) c
  all_below h = λ k d less. let most = (all k d less).above in not_less p.y (get_or c k d).y (at_most (get_or c k d).y high.y p.y most h)
    where
      at_most : (x y z : ℤ) → x ≤ℤ y → y ≤ℤ z → x ≤ℤ z
      at_most x y z a b = omega (arith, ints)

  all_above : p.y <ℤ low.y → All (λ q. int_lt p.y q.y ≡ true) c
  all_above h = λ k d less. let least = (all k d less).below in is_less p.y (get_or c k d).y (below p.y low.y (get_or c k d).y h least)
    where
      below : (x y z : ℤ) → x <ℤ y → y ≤ℤ z → x <ℤ z
      below x y z a b = omega (arith, ints)

-- a contour in a box winds about no point that isn't in it
pub winding_outside : (low high p : Point) (c : List Point) → All (IsWithin low high) c → ((p.x <ℤ low.x) ⊎ ((high.x <ℤ p.x) ⊎ ((p.y <ℤ low.y) ⊎ (high.y <ℤ p.y)))) → winding c p ≡ pos 0
winding_outside low high p c all (inl left) = same_about_ends p top c (λ k h m. apart_x p top (point_at c k) (follower c k) p.x low.x (omega (arith, ints)) (omega (arith, ints)) left (All-get_or (IsWithin low high) c k origin h all).left (follower_has (IsWithin low high) c k all h).left m)
    ∙ flat_contour top false c (all_below low high top c all (omega (arith, ints)))
  where
    top : Point
    top = record { x = p.x; y = high.y }
winding_outside low high p c all (inr (inl right)) = same_about_ends p top c (λ k h m. apart_x (point_at c k) (follower c k) p top high.x p.x (All-get_or (IsWithin low high) c k origin h all).right (follower_has (IsWithin low high) c k all h).right right (omega (arith, ints)) (omega (arith, ints)) (meet_swapped p top (point_at c k) (follower c k) m))
    ∙ flat_contour top false c (all_below low high top c all (omega (arith, ints)))
  where
    top : Point
    top = record { x = p.x; y = high.y }
winding_outside low high p c all (inr (inr (inl below))) = flat_contour p true c (all_above low high p c all below)
winding_outside low high p c all (inr (inr (inr above))) = flat_contour p false c (all_below low high p c all (omega (arith, ints)))

-- boxes that are apart: a contour in one of them winds about no point in the other
pub winding_apart : {I : Type 0} (value : I → ℤ) (own b : Bounds I) (p : Point) (c : List Point) → Holds value own p → All (Holds value b) c → AreApart value own b → winding c p ≡ pos 0
winding_apart value own b p c here all (inl left) = let most = here.right in winding_outside (point_of value b.low) (point_of value b.high) p c all (inl (omega (arith, ints)))
winding_apart value own b p c here all (inr (inl right)) = let least = here.left in winding_outside (point_of value b.low) (point_of value b.high) p c all (inr (inl (omega (arith, ints))))
winding_apart value own b p c here all (inr (inr (inl below))) = let most = here.above in winding_outside (point_of value b.low) (point_of value b.high) p c all (inr (inr (inl (omega (arith, ints)))))
winding_apart value own b p c here all (inr (inr (inr above))) = let least = here.below in winding_outside (point_of value b.low) (point_of value b.high) p c all (inr (inr (inr (omega (arith, ints)))))
