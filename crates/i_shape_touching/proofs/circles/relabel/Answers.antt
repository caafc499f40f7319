use Rattle.std.proofs.Common.{◌≡◌, ◌<◌, ◌+◌, ◌++◌, [], ◌∷◌, ℕ, List, length, get_or, set, take, drop, map, cond, nat_eq, Bool, sym, ap, ◌∙◌, arith}
use Rattle.std.proofs.lemmas.Bool.{eq-eqb, ne_eqb}
use Rattle.std.proofs.lemmas.List.{drop_more, take_more, set_at, get_or_at, map-append, append_assoc, length-map, length-take-le, set-get_or}
use Rattle.i_shape_touching.proofs.circles.relabel.Goals.{then-label-left, else-label-left}
use Rattle.i_shape_touching.proofs.circles.relabel.Goals as goal

-- one more label is replaced
module _ (f : ℕ → ℕ) (xs now : List ℕ) (i : ℕ) (within : i < length xs) (is : now ≡ map f (take i xs) ++ drop i xs) where
  -- the length of what is replaced already
  front : length (map f (take i xs)) ≡ i
  front = length-map (take i xs) f ∙ length-take-le i xs (omega arith)

  -- the labels, cut at the next one
  split : now ≡ map f (take i xs) ++ get_or xs i 0 ∷ drop (i + 1) xs
  split = is ∙ ap (λ l. map f (take i xs) ++ l) (drop_more xs i 0 within)

  -- the next label is still the old one
  here : get_or now i 0 ≡ get_or xs i 0
  here = ap (λ l. get_or l i 0) split ∙ get_or_at (map f (take i xs)) (get_or xs i 0) (drop (i + 1) xs) 0 i front

  -- the next label, replaced, goes to the front
  longer : map f (take i xs) ++ f (get_or xs i 0) ∷ drop (i + 1) xs ≡ map f (take (i + 1) xs) ++ drop (i + 1) xs
  longer = sym (ap (λ l. map f l ++ drop (i + 1) xs) (take_more xs i 0 within) ∙ ap (λ l. l ++ drop (i + 1) xs) (map-append f (take i xs) (get_or xs i 0 ∷ [])) ∙ append_assoc (map f (take i xs)) (f (get_or xs i 0) ∷ []) (drop (i + 1) xs))

  -- writing the new label
  replaced : (z : ℕ) → z ≡ f (get_or xs i 0) → set now i z ≡ map f (take (i + 1) xs) ++ drop (i + 1) xs
  replaced z e = ap (λ l. set l i z) split ∙ set_at (map f (take i xs)) (get_or xs i 0) (drop (i + 1) xs) z i front ∙ ap (λ y. map f (take i xs) ++ y ∷ drop (i + 1) xs) e ∙ longer

  -- leaving a label that stays the same
  kept_so : get_or xs i 0 ≡ f (get_or xs i 0) → now ≡ map f (take (i + 1) xs) ++ drop (i + 1) xs
  kept_so e = split ∙ ap (λ y. map f (take i xs) ++ y ∷ drop (i + 1) xs) e ∙ longer

pub loop-label-preserved : goal.loop-label-preserved
loop-label-preserved c =
    let f = λ (label : ℕ). cond (nat_eq label c.args.left) c.args.kept label in
    let i = c.loop-label.label-index in
    let xs = c.args.labels.now in
    let now = c.loop-label.labels in
    let within = c.loop-label-test.true in
    let known = c.loop-label.invariant in
    elim c.if-label-left.branch [
      | then-label-left w ↦ w.labels-is ∙ replaced f xs now i within known c.args.kept
          (sym (ap (λ (b : Bool). cond b c.args.kept (get_or xs i 0)) (eq-eqb (get_or xs i 0) c.args.left (sym (here f xs now i within known) ∙ w.if-label-left.true))))
      | else-label-left w ↦ w.labels-is ∙ set-get_or now i 0 ∙ kept_so f xs now i within known
          (sym (ap (λ (b : Bool). cond b c.args.kept (get_or xs i 0)) (ne_eqb (get_or xs i 0) c.args.left (λ e. w.if-label-left.false (here f xs now i within known ∙ e)))))
    ]
