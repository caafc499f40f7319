-- Steps of a loop over the members of a list, each read by a function: what holds of all, and what is left.
use Rattle.std.proofs.Common.{◌≡◌, ℕ, ◌+◌, ◌<◌, List, [], ◌∷◌, ◌++◌, length, get_or, take, map, sym, ap, ◌∙◌, subst, Option, Some, None, All, filter_map, option_to_list}
use Rattle.i_shape.proofs.Common.{AllZip, Survivors}
use Rattle.std.proofs.lemmas.List.{get_or_default, get_or-map, length-map, map-append}
use Rattle.std.proofs.lemmas.List.Elements.{All-nil, All-cons, All-head, All-tail, All-push}
use Rattle.i_shape_core.proofs.Lists.Mapped.{take_one_more}
use Rattle.i_shape_core.proofs.Lists.Survivors.{survivors-none, survivors-push}

-- below the length, the member at an index doesn't depend on the default
pub same_read : {X : Type 0} (xs : List X) (i : ℕ) (d : X) → i < length xs → get_or xs i d ≡ get_or xs i (get_or xs i d)
same_read xs i d lt = get_or_default xs i d (get_or xs i d) lt

-- what holds of all mapped members holds of the one at index i
pub mapped-read : {X Y : Type 0} (f : X → Y) (P : Y → Type 0) (xs : List X) (i : ℕ) (x : X) → i < length xs → x ≡ get_or xs i x → All P (map f xs) → P (f x)
mapped-read f P xs i x lt read holds =
    let lt' : i < length (map f xs) = rw (length-map xs f) lt in
    subst (λ z. P (f z)) (sym read) (rw (get_or-map f xs i x (f x) lt) at (holds i (f x) lt'))

-- mapping the first i + 1 members appends f x to mapping the first i
pub mapped-taken : {X Y : Type 0} (f : X → Y) (xs : List X) (i : ℕ) (x : X) → i < length xs → x ≡ get_or xs i x → map f (take (i + 1) xs) ≡ map f (take i xs) ++ f x ∷ []
mapped-taken f xs i x lt read = ap (map f) (take_one_more xs i x lt read) ∙ map-append f (take i xs) (x ∷ [])

-- if P holds of the first i members and of the next, it holds of the first i + 1
pub mapped-more : {X Y : Type 0} (f : X → Y) (P : Y → Type 0) (xs : List X) (i : ℕ) (x : X) → i < length xs → x ≡ get_or xs i x → All P (map f (take i xs)) → P (f x) → All P (map f (take (i + 1) xs))
mapped-more f P xs i x lt read holds here = rw (mapped-taken f xs i x lt read) (All-push P (map f (take i xs)) (f x) holds here)

-- appending a member's answer to what is left of the first i members is what is left of i + 1
pub survivors-more : {X Y Z : Type 0} (f : X → Y) (Answer : Y → Option Z → Type 0) (xs : List X) (i : ℕ) (x : X) (kept : List Z) (a : Option Z) → i < length xs → x ≡ get_or xs i x
    → Survivors Answer (map f (take i xs)) kept → Answer (f x) a → Survivors Answer (map f (take (i + 1) xs)) (kept ++ option_to_list a)
survivors-more f Answer xs i x kept a lt read survive answer = rw (mapped-taken f xs i x lt read) (survivors-push Answer (map f (take i xs)) (f x) kept a survive answer)

module _ {X Y : Type 0} (Answer : X → Option Y → Type 0) where
  -- a collapsed member in front leaves nothing
  pub survivors_gone : (x : X) (xs : List X) (kept : List Y) → Answer x None → Survivors Answer xs kept → Survivors Answer (x ∷ xs) kept
  survivors_gone x xs kept answer (answers, zipped, are) = (None ∷ answers, (answer, zipped), are)

  -- a member in front with an answer leaves that answer in front
  pub survivors_left : (x : X) (y : Y) (xs : List X) (kept : List Y) → Answer x (Some y) → Survivors Answer xs kept → Survivors Answer (x ∷ xs) (y ∷ kept)
  survivors_left x y xs kept answer (answers, zipped, are) = (Some y ∷ answers, (answer, zipped), ap (λ l. y ∷ l) are)

  -- P holds of a list and what is left of it if P holds of [] and is kept by each member put in front, collapsed or not
  pub survivors_each : (P : List X → List Y → Type 0) → P [] [] → ((x : X) (xs : List X) (kept : List Y) → Answer x None → P xs kept → P (x ∷ xs) kept)
      → ((x : X) (y : Y) (xs : List X) (kept : List Y) → Answer x (Some y) → P xs kept → P (x ∷ xs) (y ∷ kept)) → (xs : List X) (kept : List Y) → Survivors Answer xs kept → P xs kept
  survivors_each P none gone left xs kept (answers, zipped, are) = subst (P xs) (sym are) (go xs answers zipped)
    where
      go : (xs : List X) (answers : List (Option Y)) → AllZip Answer xs answers → P xs (filter_map (λ answer. answer) answers)
      go [] [] h = none
      go [] (a ∷ answers) h = absurd h
      go (x ∷ xs) [] h = absurd h
      go (x ∷ xs) (None ∷ answers) h = gone x xs _ h.0 (go xs answers h.1)
      go (x ∷ xs) (Some y ∷ answers) h = left x y xs _ h.0 (go xs answers h.1)

  -- if answers turn P into Q, members that all have P leave members that all have Q
  pub survivors_have : (P : X → Type 0) (Q : Y → Type 0) → ((x : X) (y : Y) → Answer x (Some y) → P x → Q y) → (xs : List X) (kept : List Y) → Survivors Answer xs kept → All P xs → All Q kept
  survivors_have P Q takes =
      survivors_each (λ xs kept. All P xs → All Q kept) (λ all. All-nil Q) (λ x xs kept a rest all. rest (All-tail P x xs all))
      (λ x y xs kept a rest all. All-cons Q y kept (takes x y a (All-head P x xs all)) (rest (All-tail P x xs all)))

-- what is left by a relation is left by a weaker one
pub survivors_weaker : {X Y : Type 0} (Answer Weaker : X → Option Y → Type 0) → ((x : X) (r : Option Y) → Answer x r → Weaker x r) → (xs : List X) (kept : List Y) → Survivors Answer xs kept → Survivors Weaker xs kept
survivors_weaker Answer Weaker weaken =
    survivors_each Answer (Survivors Weaker) (survivors-none Weaker) (λ x xs kept a. survivors_gone Weaker x xs kept (weaken x None a)) (λ x y xs kept a. survivors_left Weaker x y xs kept (weaken x (Some y) a))

-- a list whose members are their own answers is left whole
pub survivors_stay : {X : Type 0} (P : X → Type 0) (Answer : X → Option X → Type 0) → ((x : X) → P x → Answer x (Some x)) → (xs : List X) → All P xs → Survivors Answer xs xs
survivors_stay P Answer stays [] all = survivors-none Answer
survivors_stay P Answer stays (x ∷ xs) all = survivors_left Answer x x xs xs (stays x (All-head P x xs all)) (survivors_stay P Answer stays xs (All-tail P x xs all))
