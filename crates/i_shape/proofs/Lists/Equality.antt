-- What comparing two lists member by member returns.
use Rattle.std.proofs.Common.{◌≡◌, ℕ, ◌==◌, ◌&&◌, Bool, IsTrue, Decides, List, [], ◌∷◌, refl, sym, ap, subst}
use Rattle.i_shape.proofs.Common.{AllZip, Range}
use Rattle.std.specs.Cmp.Lexicographic.{pointwise}
use Rattle.std.proofs.lemmas.Bool.Decides.{Decides-and, Decides-like, Decides-eqb}
use Rattle.std.proofs.lemmas.List.Elements.{same_from_all_zip}

module _ {X : Type 0} (E : X → X → Bool) where
  -- lists compare equal exactly if they have the same length and each pair of members compares equal
  pub pairs_decided : (xs ys : List X) → Decides (pointwise E xs ys) (AllZip (λ x y. IsTrue (E x y)) xs ys)
  pairs_decided [] [] = (λ _. tt, λ _. refl)
  pairs_decided [] (y ∷ ys) = (λ e. absurd (cc), λ h. absurd h)
  pairs_decided (x ∷ xs) [] = (λ e. absurd (cc), λ h. absurd h)
  pairs_decided (x ∷ xs) (y ∷ ys) = Decides-and (E x y) (pointwise E xs ys) (λ t. t, λ t. t) (pairs_decided xs ys)

  with_itself : ((x : X) → IsTrue (E x x)) → (xs : List X) → AllZip (λ x y. IsTrue (E x y)) xs xs
  with_itself same [] = tt
  with_itself same (x ∷ xs) = (same x, with_itself same xs)

  -- if E decides whether members are equal, it decides whether lists are
  pub lists_decided : ((x y : X) → Decides (E x y) (x ≡ y)) → (xs ys : List X) → Decides (pointwise E xs ys) (xs ≡ ys)
  lists_decided decides xs ys =
      Decides-like _ (λ h. sym (same_from_all_zip (λ x y. IsTrue (E x y)) xs ys h (λ x y t. sym ((decides x y).0 t))))
      (λ e. subst (λ zs. AllZip (λ x y. IsTrue (E x y)) xs zs) e (with_itself (λ x. (decides x x).1 refl) xs))
      (pairs_decided xs ys)

-- ranges compare equal exactly if they are equal
range_decided : (r s : Range ℕ) → Decides (r.start == s.start && r.end == s.end) (r ≡ s)
range_decided r s =
    Decides-like _ (λ h. λ i. record { start = h.0 i; end = h.1 i }) (λ e. (ap (λ q. q.start) e, ap (λ q. q.end) e))
    (Decides-and (r.start == s.start) (r.end == s.end) (Decides-eqb r.start s.start) (Decides-eqb r.end s.end))

-- lists of ranges compare equal, member by member, exactly if they are equal
pub ranges_decided : (rs ss : List (Range ℕ)) → Decides (pointwise (λ r s. r.start == s.start && r.end == s.end) rs ss) (rs ≡ ss)
ranges_decided rs ss = lists_decided (λ r s. r.start == s.start && r.end == s.end) range_decided rs ss
