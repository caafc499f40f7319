-- What holds of each item of a list: of those read so far, and of the items of a mapped list.
use Rattle.std.proofs.Common.{◌≡◌, ◌↔◌, ◌∙◌, ℕ, ◌+◌, ◌<◌, ◌≤◌, List, [], ◌∷◌, ◌++◌, length, take, get_or, map, Bool, ◌&&◌, IsTrue, Some, refl, subst, sym, ap, All}
use Rattle.std.proofs.lemmas.Bool.Decides.{Decides-and}
use Rattle.std.proofs.lemmas.List.{take_all, take_more}
use Rattle.std.proofs.lemmas.List.Elements.{All-nil, All-cons, All-head, All-tail, All-push, All-pop, All-map}

module _ {X : Type 0} where
  -- the first i + 1 items are the first i and then item i
  pub take_one_more : (xs : List X) (i : ℕ) (x : X) → i < length xs → x ≡ get_or xs i x → take (i + 1) xs ≡ take i xs ++ x ∷ []
  take_one_more xs i x lt read = take_more xs i x lt ∙ ap (λ (y : X). take i xs ++ y ∷ []) (sym read)

  -- s and t are true exactly if P holds of the first i items and of item i, so `s && t` exactly if it holds of i + 1
  pub next_told : (P : X → Type 0) (xs : List X) (i : ℕ) (x : X) (s t : Bool) → i < length xs → x ≡ get_or xs i x → IsTrue s ↔ All P (take i xs) → IsTrue t ↔ P x → IsTrue (s && t) ↔ All P (take (i + 1) xs)
  next_told P xs i x s t lt read f g =
      let told = Decides-and s t f g in
      rw (take_one_more xs i x lt read) (λ h. let both = told.0 h in All-push P (take i xs) x both.0 both.1, λ h. told.1 (All-pop P (take i xs ++ x ∷ []) (take i xs) (Some x) refl h))

  -- once all items are read, s is true exactly if P holds of the list
  pub whole_told : (P : X → Type 0) (xs : List X) (i : ℕ) (s : Bool) → length xs ≤ i → IsTrue s ↔ All P (take i xs) → IsTrue s ↔ All P xs
  whole_told P xs i s over f = subst (λ (ys : List X). IsTrue s ↔ All P ys) (take_all i xs over) f

module _ {X Y : Type 0} (P : X → Type 0) (f : Y → X) where
  unmapped : (ys : List Y) → All P (map f ys) → All (λ y. P (f y)) ys
  unmapped [] h = All-nil (λ y. P (f y))
  unmapped (y ∷ ys) h = All-cons (λ z. P (f z)) y ys (All-head P (f y) (map f ys) h) (unmapped ys (All-tail P (f y) (map f ys) h))

  -- P holds of each mapped item exactly if it holds of f y for each item y
  pub all_mapped : (ys : List Y) → All (λ y. P (f y)) ys ↔ All P (map f ys)
  all_mapped ys = (All-map P f ys, unmapped ys)
