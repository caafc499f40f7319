-- Parts of lists.
use Rattle.std.proofs.Common.{◌≡◌, ℕ, ◌-◌, List, [], slice_range, refl, arith}

-- the part from an index to itself is empty
pub nothing_between : {X : Type 0} (xs : List X) (n : ℕ) → slice_range xs n n ≡ []
nothing_between xs n = let none : n - n ≡ 0 = omega arith in rw none refl
