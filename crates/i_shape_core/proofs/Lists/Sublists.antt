-- What removals leave is a sublist.
use Rattle.std.proofs.Common.{ℕ, zero, suc, List, [], ◌∷◌, inl, inr, refl, sym, subst, remove}
use Rattle.i_shape_core.proofs.Common.{Point, Test, Reach, stay, step, Sublist}

-- a list is its own sublist, and sublists of sublists are sublists
pub sublist_refl : {A : Type 0} (c : List A) → Sublist c c
sublist_refl [] = refl
sublist_refl (a ∷ c) = inr (c, refl, sublist_refl c)

pub sublist_trans : {A : Type 0} (c d e : List A) → Sublist c d → Sublist d e → Sublist c e
sublist_trans {A} [] d e h k = subst (λ (l : List A). Sublist l e) h k
sublist_trans (a ∷ c) d e (inl h) k = inl (sublist_trans c d e h k)
sublist_trans {A} (a ∷ c) d e (inr h) k = go (subst (λ (l : List A). Sublist l e) h.1 k) (λ f. sublist_trans c h.0 f h.2)
  where
    go : Sublist (a ∷ h.0) e → ((f : List A) → Sublist h.0 f → Sublist c f) → Sublist (a ∷ c) e
    go (inl b) on = inl (on e b)
    go (inr b) on = inr (b.0, b.1, on b.0 b.2)

-- the empty list is a sublist of each
pub sublist_none : {A : Type 0} (c : List A) → Sublist c []
sublist_none [] = refl
sublist_none (a ∷ c) = inl (sublist_none c)

-- a list without one item is a sublist
pub without_one : {A : Type 0} (k : ℕ) (c : List A) → Sublist c (remove c k)
without_one zero [] = refl
without_one (suc k) [] = refl
without_one zero (a ∷ c) = inl (sublist_refl c)
without_one (suc k) (a ∷ c) = inr (remove c k, refl, without_one k c)

-- removals by any test leave a sublist
pub sublist_reached : {P : Test} {c e : List Point} → Reach P c e → Sublist c e
sublist_reached {c = c} stay = sublist_refl c
sublist_reached {c = c} {e = e} (step {d = d} s r) = sublist_trans c d e (subst (Sublist c) (sym s.left) (without_one s.place c)) (sublist_reached r)
