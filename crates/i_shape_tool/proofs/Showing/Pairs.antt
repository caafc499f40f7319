-- The table of the two digits of each number below 100.
use Rattle.std.proofs.Common.{◌≡◌, ℕ, zero, suc, ◌+◌, ◌-◌, ◌*◌, ◌/◌, ◌%◌, ◌<◌, Bool, true, ◌&&◌, T, eqb, get_or, inl, inr, arith, eq-zero-or-pos, eqb→eq}
use lib.Ieee.Fits.{and_l, and_r}
use Rattle.i_shape_tool.specs.declared.decimal.TheConstants.{PAIRS}

abbrev are_pairs : ℕ → Bool
are_pairs zero = true
are_pairs (suc n) = (eqb (get_or PAIRS (n * 2) 0) (48 + n / 10) && eqb (get_or PAIRS (n * 2 + 1) 0) (48 + n % 10)) && are_pairs n

pair_below : (n pair : ℕ) → T (are_pairs n) → pair < n → (get_or PAIRS (pair * 2) 0 ≡ 48 + pair / 10) × (get_or PAIRS (pair * 2 + 1) 0 ≡ 48 + pair % 10)
pair_below zero pair told below = absurd (omega arith)
pair_below (suc n) pair told below =
    elim (eq-zero-or-pos (n - pair)) [
      | inl none ↦ let same : pair ≡ n = omega arith in let here = and_l _ (are_pairs n) told in rw same (eqb→eq _ _ (and_l _ _ here), eqb→eq _ _ (and_r _ _ here))
      | inr some ↦ pair_below n pair (and_r _ (are_pairs n) told) (omega arith)
    ]

-- the table has the two digits of each number below 100 at twice its index
pub pair_at : (pair : ℕ) → pair < 100 → (get_or PAIRS (pair * 2) 0 ≡ 48 + pair / 10) × (get_or PAIRS (pair * 2 + 1) 0 ≡ 48 + pair % 10)
pair_at pair below = pair_below 100 pair tt below
