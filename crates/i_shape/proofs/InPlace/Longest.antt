-- The longest contour of a list that isn't clean.
use Rattle.std.proofs.Common.{◌≡◌, ℕ, ◌≤◌, max, List, [], ◌∷◌, ◌++◌, length, subst, Option, Some, None, unwrap_or, All, Contains}
use Rattle.std.proofs.lemmas.List.Elements.{All-nil, All-cons, All-head, All-tail, All-append, All-contains, Contains-get_or, Contains-append_left, Contains-append_right, Contains-append_cases, Contains-push, Contains-push_cases}
use Rattle.i_shape_core.proofs.Lists.Longest.{longer, unclean_alone, longest_of_both, room_for_each}
use Rattle.i_shape.proofs.Common.{Point, concatenated, IsLongestUnclean, LongestUnclean, HasRoomFor}
use Rattle.i_shape_source.proofs.SafePaths.{all_parts}

module _ {X : Type 0} (P : X → Type 0) where
  -- if P holds of the members of a concatenation, it holds of those of each list
  pub each_of_all : (parts : List (List X)) → All P (concatenated parts) → All (All P) parts
  each_of_all [] all = All-nil (All P)
  each_of_all (part ∷ parts) all =
      let both = all_parts P part (concatenated parts) all in
      All-cons (All P) part parts both.0 (each_of_all parts both.1)

  -- if P holds of the members of each list, it holds of those of the concatenation
  pub all_of_each : (parts : List (List X)) → All (All P) parts → All P (concatenated parts)
  all_of_each [] each = All-nil P
  all_of_each (part ∷ parts) each = All-append P part (concatenated parts) (All-head (All P) part parts each) (all_of_each parts (All-tail (All P) part parts each))

  -- if P holds of each member that the list contains, it holds of all
  pub all_contained : (xs : List X) → ((x : X) → Contains xs x → P x) → All P xs
  all_contained xs each k d less = each _ (Contains-get_or xs k d less)

module _ (Clean : List Point → Type 0) where
  -- an empty list has no longest contour
  pub none_longest : LongestUnclean (Contains []) Clean length None
  none_longest c is = All-contains Clean [] c (All-nil Clean) is

  -- the longest of a concatenation is the longer of the longest of both
  pub longest_append : (cs ds : List (List Point)) (r s : Option ℕ) → LongestUnclean (Contains cs) Clean length r → LongestUnclean (Contains ds) Clean length s → LongestUnclean (Contains (cs ++ ds)) Clean length (longer r s)
  longest_append cs ds = longest_of_both Clean length (Contains cs) (Contains ds) (Contains (cs ++ ds)) (Contains-append_cases cs ds) (Contains-append_left cs ds) (Contains-append_right cs ds)

  module _ (cs : List (List Point)) (c : List Point) (r : Option ℕ) (before : LongestUnclean (Contains cs) Clean length r) where
    with_next : (s : Option ℕ) → LongestUnclean (λ d. c ≡ d) Clean length s → LongestUnclean (Contains (cs ++ c ∷ [])) Clean length (longer r s)
    with_next s = longest_of_both Clean length (Contains cs) (λ d. c ≡ d) (Contains (cs ++ c ∷ [])) (Contains-push_cases cs c) (Contains-append_left cs (c ∷ []))
        (λ d same. subst (Contains (cs ++ c ∷ [])) same (Contains-push cs c)) r s before

    -- appending a clean contour doesn't change the longest
    pub clean_more : Clean c → LongestUnclean (Contains (cs ++ c ∷ [])) Clean length r
    clean_more clean = with_next None (λ d same. subst Clean same clean)

    -- appending a contour that isn't clean makes it the longer of both
    pub unclean_more : (Clean c → ⊥) → LongestUnclean (Contains (cs ++ c ∷ [])) Clean length (Some (max (length c) (unwrap_or r 0)))
    unclean_more unclean = with_next (Some (length c)) (unclean_alone Clean length c unclean)

  module _ (cs : List (List Point)) (n : ℕ) (l : IsLongestUnclean (Contains cs) Clean length n) where
    -- if there is a longest, not all contours are clean
    pub not_all_clean : All Clean cs → ⊥
    not_all_clean all = l.unclean (All-contains Clean cs l.longest all l.among)

    -- room for the longest is room for each
    pub room_for_all : {W : Type 0} (has_room : W → ℕ → Type 0) → ((w : W) (m n : ℕ) → m ≤ n → has_room w n → has_room w m) → (w : W) → has_room w n → All (HasRoomFor has_room Clean w) cs
    room_for_all has_room fewer w room = all_contained (HasRoomFor has_room Clean w) cs (room_for_each Clean length (Contains cs) (has_room w) (fewer w) (Some n) l room)
