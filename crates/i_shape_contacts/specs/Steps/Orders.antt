-- Orders of edges.
use Rattle.std.specs.Prelude.{◌≡◌, ◌<◌, ℕ}

-- edge k has a rank below n
pub record IsRanked (at : ℕ → ℕ) (n k : ℕ) : Type 0 where
  pub rank : ℕ
  pub below : rank < n
  pub is : at rank ≡ k

-- an order of so many edges is one of the edges below n: each has a rank, and there are no others
pub record IsOrder (size : ℕ) (at : ℕ → ℕ) (n : ℕ) : Type 0 where
  pub count : size ≡ n
  pub within : (m : ℕ) → m < n → at m < n
  pub ranked : (k : ℕ) → k < n → IsRanked at n k
