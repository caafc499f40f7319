-- The definitions that most proofs name.
pub use Rattle.i_shape_core.specs.Point.{Point, IsBack, IsZeroTurn, vector, origin, cross, dot, cross_of}
pub use Rattle.i_shape_core.specs.IntPoint.{IsSafe, IsSafeCoordinate, point_of, contour_of, answered}
pub use Rattle.i_shape_core.specs.declared.point.IntPoint.{IntPoint}
pub use Rattle.i_shape_core.specs.Contour.{IsRemovable, Reach, stay, step, point_at, place_before, place_after, Test, Rotation, Sublist, RotatedSublist, SublistEitherWay, End, Step, SameEnd, collapsed, rotated, IsSimple, IsCollapsed}
pub use Rattle.i_shape_core.specs.Edges.{is_right, is_above, Edge, edges_between, edges, sum_of}
pub use Rattle.i_shape_core.specs.Winding.{winding_of_edge, winding, level, IsWithinHalf}
pub use Rattle.i_shape_core.specs.Convex.{NoSpikes, is_same, last_of}
pub use Rattle.i_shape_core.specs.Canonical.{CanonicalAnswer, UnorientedAnswer, IsCanonical, KeptEitherWay, IsLeast, IsLesserWay, IsBefore, IsAtMost, started_at, by_rotation, by_removal, by_insertion, Joined, alone, link, IsLink, CanonicalJoined, IsUnoriented, IsKeptBackwards, IsKeptEitherWay, JoinedEitherWay}
pub use Rattle.i_shape_core.specs.Cleaners.{SimpleAnswer, DespikeAnswer, SpikelessAnswer, IsDespikedAlready, EachEndCollapses, KeptAnswer, IsKept, IsFlat, VisitsAnswer}
pub use Rattle.i_shape_core.specs.Steps.Walks.{WalkAnswer, Agree, AreAfter, IsBend, bend_of_both, Finds, Falls, IsRingState, from_contour_first, point_round, Precedes, IsOrder, IsFirst, IsStacked, points_left, IsWalked, stacked_point, IsRingWalk, LeadKept, LeadRemoved, RisingPlaces, PlacedRing, ring_of_all, PassesAtPlace, IsSettled}
