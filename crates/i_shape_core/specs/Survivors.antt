-- What cleaning leaves of the members of a list. `Answer` relates each member to its cleaned one, or to none if it
-- collapses.
use Rattle.std.specs.Prelude.{◌≡◌, List, Option}
use Rattle.std.specs.List.{AllZip, filter_map}
use Rattle.i_shape_core.specs.Point.{Point}
use Rattle.i_shape_core.specs.Cleaners.{SimpleAnswer}

-- the results for the members, in order, without those that collapse
abbrev pub Survivors : {X Y : Type 0} → (X → Option Y → Type 0) → List X → List Y → Type 0
Survivors {X} {Y} Answer xs kept = (answers : List (Option Y)) × AllZip Answer xs answers × (kept ≡ filter_map (λ answer. answer) answers)

-- the kept contours are the one ends of the contours, in order, without those that collapse
abbrev pub Compact : List (List Point) → List (List Point) → Type 0
Compact contours kept = Survivors SimpleAnswer contours kept
