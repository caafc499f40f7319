-- Concatenated lists, and the ranges that name the parts.
use Rattle.std.proofs.Common.{suc, ◌-◌, add-zero, ◌≡◌, ℕ, ◌+◌, ◌<◌, ◌≤◌, List, [], ◌∷◌, ◌++◌, length, get_or, take, drop, map, refl, sym, ap, ◌∙◌, append_assoc, arith, length-append, All}
use Rattle.std.proofs.lemmas.List.{length-map, map-append, take-append-drop, take_at, drop_at, append-nil}
use Rattle.i_shape.proofs.Common.{Vec, Range, paths_of_shape, concatenated, InOrder, part_of, slices, end_to_end}
use Rattle.std.proofs.lemmas.List.Elements.{All-cons, All-nil}
use Rattle.i_shape_core.proofs.Lists.Mapped.{take_one_more}

-- concatenating two lists of parts is concatenating each and appending
pub concatenated-append : {P : Type 0} (cs ds : List (List P)) → concatenated (cs ++ ds) ≡ concatenated cs ++ concatenated ds
concatenated-append [] ds = refl
concatenated-append (a ∷ cs) ds = rw (concatenated-append cs ds) (sym (append_assoc a (concatenated cs) (concatenated ds)))

-- the ranges of further parts begin where those before them end
pub end_to_end-append : {P : Type 0} (start : ℕ) (cs ds : List (List P)) →
    end_to_end start (cs ++ ds) ≡ end_to_end start cs ++ end_to_end (start + length (concatenated cs)) ds
end_to_end-append start [] ds = rw add-zero refl
end_to_end-append start (a ∷ cs) ds =
    let e : start + length a + length (concatenated cs) ≡ start + length (a ++ concatenated cs) = omega (arith, length-append a (concatenated cs)) in
    rw (end_to_end-append (start + length a) cs ds, e) refl

-- there is one range for each part
pub length-end_to_end : {P : Type 0} (start : ℕ) (cs : List (List P)) → length (end_to_end start cs) ≡ length cs
length-end_to_end start [] = refl
length-end_to_end start (a ∷ cs) = ap (λ n. suc n) (length-end_to_end (start + length a) cs)

-- a concatenation is that of the first i parts followed by that of the rest
pub concatenated_take_drop : {X P : Type 0} (f : X → List P) (xs : List X) (i : ℕ) → concatenated (map f xs) ≡ concatenated (map f (take i xs)) ++ concatenated (map f (drop i xs))
concatenated_take_drop f xs i = ap (λ w. concatenated (map f w)) (sym (take-append-drop i xs)) ∙ ap concatenated (map-append f (take i xs) (drop i xs)) ∙ concatenated-append (map f (take i xs)) (map f (drop i xs))

-- the first i parts have at most as many members as all
pub length_concatenated_take : {X P : Type 0} (f : X → List P) (xs : List X) (i : ℕ) → length (concatenated (map f (take i xs))) ≤ length (concatenated (map f xs))
length_concatenated_take f xs i =
    omega (arith, ap length (concatenated_take_drop f xs i), length-append (concatenated (map f (take i xs))) (concatenated (map f (drop i xs))))

-- ranges laid end to end name exactly the parts, also with items before and after
pub slices-end_to_end : {P : Type 0} (before after : List P) (cs : List (List P)) (start : ℕ) → start ≡ length before →
    slices (before ++ (concatenated cs ++ after)) (end_to_end start cs) ≡ cs
slices-end_to_end before after [] start e = refl
slices-end_to_end before after (a ∷ cs) start e =
    let regroup : before ++ (a ++ concatenated cs ++ after) ≡ (before ++ a) ++ (concatenated cs ++ after) = simp append_assoc in
    let next : start + length a ≡ length (before ++ a) = omega (arith, length-append before a) in
    let dropped : drop start (before ++ (a ++ concatenated cs ++ after)) ≡ a ++ concatenated cs ++ after = drop_at before (a ++ concatenated cs ++ after) start (sym e) in
    let width : length a ≡ start + length a - start = omega arith in
    let take_one_more : take (start + length a - start) (a ++ (concatenated cs ++ after)) ≡ a = take_at a (concatenated cs ++ after) _ width in
    let head : part_of (before ++ (a ++ concatenated cs ++ after)) (record { start = start; end = start + length a }) ≡ a =
    ap (take (start + length a - start)) (dropped ∙ append_assoc a (concatenated cs) after) ∙ take_one_more in
    let rest : slices (before ++ (a ++ concatenated cs ++ after)) (end_to_end (start + length a) cs) ≡ cs =
    ap (λ w. slices w (end_to_end (start + length a) cs)) regroup ∙ slices-end_to_end (before ++ a) after cs (start + length a) next in
    ap (λ w. w ∷ slices (before ++ (a ++ concatenated cs ++ after)) (end_to_end (start + length a) cs)) head ∙ ap (λ w. a ∷ w) rest

-- ranges laid end to end lie within each list that is long enough
pub InOrder-end_to_end : {P : Type 0} (cs : List (List P)) (start n : ℕ) → start + length (concatenated cs) ≤ n →
    All (InOrder n) (end_to_end start cs)
InOrder-end_to_end [] start n le = All-nil (InOrder n)
InOrder-end_to_end (a ∷ cs) start n le =
    let total : length (a ++ concatenated cs) ≡ length a + length (concatenated cs) = length-append a (concatenated cs) in
    let within : start + length a + length (concatenated cs) ≤ n = omega arith in
    All-cons (InOrder n) _ _ (omega arith, omega arith) (InOrder-end_to_end cs (start + length a) n within)

-- ranges laid end to end name exactly the parts of a concatenation
pub slices_concatenated : {P : Type 0} (cs : List (List P)) → slices (concatenated cs) (end_to_end 0 cs) ≡ cs
slices_concatenated cs = ap (λ w. slices w (end_to_end 0 cs)) (sym (append-nil (concatenated cs))) ∙ slices-end_to_end [] [] cs 0 refl

-- ranges laid end to end lie within the concatenation
pub InOrder_concatenated : {P : Type 0} (cs : List (List P)) → All (InOrder (length (concatenated cs))) (end_to_end 0 cs)
InOrder_concatenated cs = InOrder-end_to_end cs 0 (length (concatenated cs)) (omega arith)

-- A loop over things that each represent a list, as a vector does: `seen` are done, x is next.
module _ {X P : Type 0} (f : X → List P) (seen : List X) (x : X) where
  -- x adds one list
  pub count_push : length (map f (seen ++ x ∷ [])) ≡ length (map f seen) + 1
  count_push = ap length (map-append f seen (x ∷ [])) ∙ length-append (map f seen) (f x ∷ [])

  -- x appends its list to the concatenation
  pub concatenated_push : concatenated (map f (seen ++ x ∷ [])) ≡ concatenated (map f seen) ++ f x
  concatenated_push =
      ap concatenated (map-append f seen (x ∷ [])) ∙ concatenated-append (map f seen) (f x ∷ []) ∙ ap (λ w. concatenated (map f seen) ++ w) (append-nil (f x))

  -- x adds its length to the total
  pub length_push : length (concatenated (map f (seen ++ x ∷ []))) ≡ length (concatenated (map f seen)) + length (f x)
  length_push = ap length concatenated_push ∙ length-append (concatenated (map f seen)) (f x)

  end_to_end_push : (start : ℕ) → end_to_end start (map f (seen ++ x ∷ [])) ≡ end_to_end start (map f seen)
      ++ record { start = start + length (concatenated (map f seen)); end = start + length (concatenated (map f seen)) + length (f x) } ∷ []
  end_to_end_push start = ap (end_to_end start) (map-append f seen (x ∷ [])) ∙ end_to_end-append start (map f seen) (f x ∷ [])

  -- appending the list of x to `now` extends the concatenation; `before`, `now` and `after` are the list at the start,
  -- before x and after x
  pub points_push : (before now after part : List P) → now ≡ before ++ concatenated (map f seen) → part ≡ f x → after ≡ now ++ part →
      after ≡ before ++ concatenated (map f (seen ++ x ∷ []))
  points_push before now after part was is_part became =
      rw (became, was, is_part, concatenated_push) (append_assoc before (concatenated (map f seen)) (f x))

  -- appending the range of x extends the ranges laid end to end
  pub ranges_push : (before now after : List (Range ℕ)) (start n k : ℕ) → now ≡ before ++ end_to_end start (map f seen) →
      n ≡ start + length (concatenated (map f seen)) → k ≡ length (f x) →
      after ≡ now ++ record { start = n; end = n + k } ∷ [] →
      after ≡ before ++ end_to_end start (map f (seen ++ x ∷ []))
  ranges_push before now after start n k was at is_length became =
      rw (became, was, at, is_length, end_to_end_push start) (append_assoc before (end_to_end start (map f seen)) _)

-- The same where x is the item at index i of a list.
module _ {X P : Type 0} (f : X → List P) (xs : List X) (i : ℕ) (x : X) (lt : i < length xs) (read : x ≡ get_or xs i x) where
  -- the first i + 1 lists concatenated are the first i followed by that of x
  pub concatenated_step : concatenated (map f (take (i + 1) xs)) ≡ concatenated (map f (take i xs)) ++ f x
  concatenated_step = rw (take_one_more xs i x lt read) (concatenated_push f (take i xs) x)

  -- appending the list of x to a list extended by the first i makes it extended by i + 1
  pub points_step : (before now after part : List P) → now ≡ before ++ concatenated (map f (take i xs)) → part ≡ f x → after ≡ now ++ part →
      after ≡ before ++ concatenated (map f (take (i + 1) xs))
  points_step before now after part was is_part became = rw (take_one_more xs i x lt read) (points_push f (take i xs) x before now after part was is_part became)

  -- appending the range of x to the ranges of the first i lists makes those of i + 1
  pub ranges_step : (before now after : List (Range ℕ)) (start n k : ℕ) → now ≡ before ++ end_to_end start (map f (take i xs)) →
      n ≡ start + length (concatenated (map f (take i xs))) → k ≡ length (f x) →
      after ≡ now ++ record { start = n; end = n + k } ∷ [] →
      after ≡ before ++ end_to_end start (map f (take (i + 1) xs))
  ranges_step before now after start n k was at is_length became =
      rw (take_one_more xs i x lt read) (ranges_push f (take i xs) x before now after start n k was at is_length became)

  -- adding the length of x to the total of the first i lists makes that of i + 1
  pub length_step : (start n m k : ℕ) → n ≡ start + length (concatenated (map f (take i xs))) → k ≡ length (f x) → m ≡ n + k →
      m ≡ start + length (concatenated (map f (take (i + 1) xs)))
  length_step start n m k at is_length became = omega (arith, ap length concatenated_step, length-append (concatenated (map f (take i xs))) (f x))

  -- the first i lists and that of x are at most as long as all
  pub length_within : (k : ℕ) → k ≡ length (f x) → length (concatenated (map f (take i xs))) + k ≤ length (concatenated (map f xs))
  length_within k is_length =
      omega (arith, ap length concatenated_step, length-append (concatenated (map f (take i xs))) (f x), length_concatenated_take f xs (i + 1))

-- The same where each item represents a list of contours, as a shape does.
module _ {X P : Type 0} (f : X → List (List P)) (xs : List X) (i : ℕ) (x : X) (lt : i < length xs) (read : x ≡ get_or xs i x) where
  -- the contours of the first i + 1 items concatenated are those of the first i followed by those of x
  pub all_concatenated_step : concatenated (concatenated (map f (take (i + 1) xs))) ≡ concatenated (concatenated (map f (take i xs))) ++ concatenated (f x)
  all_concatenated_step = ap concatenated (concatenated_step f xs i x lt read) ∙ concatenated-append (concatenated (map f (take i xs))) (f x)

  -- appending the points of x to a list extended by those of the first i makes it extended by i + 1
  pub all_points_step : (before now after : List P) (part : List (List P)) → now ≡ before ++ concatenated (concatenated (map f (take i xs))) → part ≡ f x → after ≡ now ++ concatenated part →
      after ≡ before ++ concatenated (concatenated (map f (take (i + 1) xs)))
  all_points_step before now after part was is_part became =
      rw (became, was, is_part, all_concatenated_step) (append_assoc before (concatenated (concatenated (map f (take i xs)))) (concatenated (f x)))

  -- appending the ranges of x to those of the first i items makes those of i + 1
  pub all_ranges_step : (before now after : List (Range ℕ)) (part : List (List P)) (start n : ℕ) → now ≡ before ++ end_to_end start (concatenated (map f (take i xs))) →
      n ≡ start + length (concatenated (concatenated (map f (take i xs)))) → part ≡ f x → after ≡ now ++ end_to_end n part →
      after ≡ before ++ end_to_end start (concatenated (map f (take (i + 1) xs)))
  all_ranges_step before now after part start n was at is_part became =
      let more : end_to_end start (concatenated (map f (take (i + 1) xs))) ≡ end_to_end start (concatenated (map f (take i xs))) ++ end_to_end (start + length (concatenated (concatenated (map f (take i xs))))) (f x) =
      ap (end_to_end start) (concatenated_step f xs i x lt read) ∙ end_to_end-append start (concatenated (map f (take i xs))) (f x) in
      rw (became, was, at, is_part, more) (append_assoc before (end_to_end start (concatenated (map f (take i xs)))) _)

  -- adding the number of points of x to that of the first i items makes that of i + 1
  pub all_length_step : (start n m k : ℕ) → n ≡ start + length (concatenated (concatenated (map f (take i xs)))) → k ≡ length (concatenated (f x)) → m ≡ n + k →
      m ≡ start + length (concatenated (concatenated (map f (take (i + 1) xs))))
  all_length_step start n m k at is_length became =
      omega (arith, ap length all_concatenated_step, length-append (concatenated (concatenated (map f (take i xs)))) (concatenated (f x)))

  -- the first i items and x have at most as many points as all
  pub all_length_within : (k : ℕ) → k ≡ length (concatenated (f x)) → length (concatenated (concatenated (map f (take i xs)))) + k ≤ length (concatenated (concatenated (map f xs)))
  all_length_within k is_length =
      let rest : concatenated (concatenated (map f xs)) ≡ concatenated (concatenated (map f (take (i + 1) xs))) ++ concatenated (concatenated (map f (drop (i + 1) xs))) =
      ap concatenated (concatenated_take_drop f xs (i + 1)) ∙ concatenated-append (concatenated (map f (take (i + 1) xs))) (concatenated (map f (drop (i + 1) xs))) in
      omega (
        arith,
        ap length all_concatenated_step,
        length-append (concatenated (concatenated (map f (take i xs)))) (concatenated (f x)),
        ap length rest,
        length-append (concatenated (concatenated (map f (take (i + 1) xs)))) (concatenated (concatenated (map f (drop (i + 1) xs)))),
      )

-- a shape has as many vectors as lists of points
pub as_contours : {P : Type 0} (shape now : List (Vec P)) → now ≡ shape → length now ≡ length (paths_of_shape shape)
as_contours shape now e = ap length e ∙ sym (length-map shape (λ contour. contour.items))
