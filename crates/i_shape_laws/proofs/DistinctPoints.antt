-- A sublist of a list without repeated points is determined by its points.
use Rattle.std.proofs.Common.{◌≡◌, ◌⊎◌, List, [], ◌∷◌, ◌++◌, inl, inr, refl, sym, ap, ◌∙◌, subst, arith}
use Rattle.i_shape_core.specs.Point.{Point}
use Rattle.i_shape_core.specs.Contour.{Sublist, Rotation, SameEnd, collapsed, rotated}
use Rattle.i_shape_laws.specs.Ends.{IsIn, Distinct, OneCertainEnd}
use Rattle.i_shape_core.proofs.Lists.Sublists.{sublist_reached}
use Rattle.i_shape_core.proofs.Removal.ZeroTurns.{one_end}

in_whole : (x : Point) (c d : List Point) → Sublist c d → IsIn x d → IsIn x c
in_whole x [] d s h = subst (IsIn x) s h
in_whole x (p ∷ c) d (inl s) h = inr (in_whole x c d s h)
in_whole x (p ∷ c) d (inr (e, is, s)) h = elim (subst (IsIn x) is h) [ inl same ↦ inl same | inr later ↦ inr (in_whole x c e s later) ]

-- if p isn't in d, and each point of p ∷ d is in p ∷ e, each point of d is in e
inner : (p : Point) (c d e : List Point) → (IsIn p c → ⊥) → Sublist c d → ((x : Point) → IsIn x (p ∷ d) → IsIn x (p ∷ e)) → (x : Point) → IsIn x d → IsIn x e
inner p c d e n s f x h = elim (f x (inr h)) [ inl k ↦ absurd (n (subst (λ (y : Point). IsIn y c) k (in_whole x c d s h))) | inr k ↦ k ]

-- sublists of such a list with the same points are equal
same_parts : (c d e : List Point) → Distinct c → Sublist c d → Sublist c e → ((x : Point) → IsIn x d → IsIn x e) → ((x : Point) → IsIn x e → IsIn x d) → d ≡ e
same_parts [] d e n s t f g = s ∙ sym t
same_parts (p ∷ c) d e n (inl s) (inl t) f g = same_parts c d e n.1 s t f g
same_parts (p ∷ c) d e n (inl s) (inr (v, to, t)) f g = absurd (n.0 (in_whole p c d s (g p (subst (IsIn p) (sym to) (inl refl)))))
same_parts (p ∷ c) d e n (inr (u, is, s)) (inl t) f g = absurd (n.0 (in_whole p c e t (f p (subst (IsIn p) (sym is) (inl refl)))))
same_parts (p ∷ c) d e n (inr (u, is, s)) (inr (v, to, t)) f g =
    let there = λ (x : Point) (h : IsIn x (p ∷ u)). subst (IsIn x) to (f x (subst (IsIn x) (sym is) h)) in
    let back = λ (x : Point) (h : IsIn x (p ∷ v)). subst (IsIn x) is (g x (subst (IsIn x) (sym to) h)) in
    is ∙ ap (λ l. p ∷ l) (same_parts c u v n.1 s t (inner p c u v n.0 s there) (inner p c v u n.0 t back)) ∙ sym to

in_left : (x : Point) (u t : List Point) → IsIn x u → IsIn x (u ++ t)
in_left x [] t h = absurd h
in_left x (p ∷ u) t (inl e) = inl e
in_left x (p ∷ u) t (inr h) = inr (in_left x u t h)

in_right : (x : Point) (u t : List Point) → IsIn x t → IsIn x (u ++ t)
in_right x [] t h = h
in_right x (p ∷ u) t h = inr (in_right x u t h)

in_either : (x : Point) (u t : List Point) → IsIn x (u ++ t) → IsIn x u ⊎ IsIn x t
in_either x [] t h = inr h
in_either x (p ∷ u) t (inl e) = inl (inl e)
in_either x (p ∷ u) t (inr h) = elim (in_either x u t h) [ inl a ↦ inl (inr a) | inr a ↦ inr a ]

in_rotated : (x : Point) (u t : List Point) → IsIn x (u ++ t) → IsIn x (t ++ u)
in_rotated x u t h = elim (in_either x u t h) [ inl a ↦ in_right x t u a | inr a ↦ in_left x t u a ]

in_rotation : {c d : List Point} → Rotation c d → (x : Point) → IsIn x c → IsIn x d
in_rotation r x h = subst (λ (y : List Point). IsIn x y) (sym r.after) (in_rotated x r.front r.back (subst (λ (y : List Point). IsIn x y) r.before h))

-- a contour without repeated points has one end as a list
pub one_certain_end : (c : List Point) → OneCertainEnd c
one_certain_end c n e f a h b = go (one_end c e f a b)
  where
    go : SameEnd e f → f ≡ e
    go (collapsed x y) = absurd (omega arith)
    go (rotated x y r) = sym (same_parts c e f n (sublist_reached a.reached) (sublist_reached b.reached) (in_rotation r) (in_rotation (record { front = r.back; back = r.front; before = r.after; after = r.before })))
