-- The definitions of points, contours, shapes and buffers that proofs name.
pub use Rattle.std.specs.List.{AllZip}
pub use Rattle.std.specs.Global.{Vec}
pub use Rattle.std.specs.Int.{Width, int_wrap, w128}
pub use Rattle.std.specs.declared.ops.Range.{Range}
pub use Rattle.i_shape_core.proofs.Common.{IsBack, IsZeroTurn, Point, IsSafe, answered, contour_of, point_of, IsRemovable, IsSimple, Reach, stay, step, NoSpikes, edges, winding, DespikeAnswer, EachEndCollapses, IsFlat, IsKept, KeptAnswer, SimpleAnswer, SpikelessAnswer, CanonicalAnswer, IsAtMost, IsKeptEitherWay, Joined, JoinedEitherWay, UnorientedAnswer}
pub use Rattle.i_shape_core.specs.declared.point.IntPoint.{IntPoint}
pub use Rattle.i_shape_core.specs.declared.error.ShapeError.{ShapeError}
pub use Rattle.i_shape_core.specs.declared.error.ShapeError.TheVariants.{OutOfMemory, TooManyPoints}
unfoldable pub use Rattle.i_shape_core.specs.Edges.{Inside, area_of_edge, is_right, shoelace}
pub use Rattle.i_shape_core.specs.Written.{IsWritten, slot}
pub use Rattle.i_shape_core.specs.Refusals.{OkUnlessMemory}
pub use Rattle.i_shape_core.specs.Unclean.{IsLongestUnclean, LongestUnclean, IsShortOrClean}
pub use Rattle.i_shape_source.specs.Paths.{LendsExactly, concatenated, path_of, paths_of_shape, paths_of_shapes, shape_lists}
pub use Rattle.i_shape.specs.ShapeLists.{IsSafeList, IsSafeShape, shape_of, shapes_of}
unfoldable pub use Rattle.i_shape.specs.ShapeLists.{AreSafePaths}
pub use Rattle.i_shape.specs.Flat.{InOrder, IsReadableShape, end_to_end, part_of, shapes, slices}
pub use Rattle.i_shape.specs.ShapeAnswers.{AreKept, EachContour, EachShape, HasPoints, ListClean, ListKept, ShapeClean, Survivors, shape_shoelace, shape_winding, shapes_shoelace, sum_of}
unfoldable pub use Rattle.i_shape.specs.ShapeAnswers.{inside_count}
pub use Rattle.i_shape.specs.InPlace.{CleansContour, CleansInPlace, CleansList, CleansShape, DespikesContour, Leaves}
pub use Rattle.i_shape.specs.Steps.LeftInPlace.{AreLeftOf, HasRoom, HasRoomFor, IsLeftOf, has_points, keeps_outer, kept_contours, kept_shapes}
pub use Rattle.i_shape.specs.CanonicalShapes.{AreKeptEitherWay, FormsKept, FormsListTo, FormsShapeTo, HasListForm, HasShapeForm, IsShapeAtMost, ListForm, MatchedUncollapsed, OneListForm, OneShapeForm, OuterCollapses, SameShape, ShapeForm, SortedForms, Stays}
pub use Rattle.i_shape.specs.Buffers.{AddsShape, CanReadFirst, Compact, HoldsContours, HoldsShapes, contours_in, contours_of, first_contour, named_contours, named_points, named_shapes, range_len, shapes_in}
pub use Rattle.i_shape.specs.Steps.AppendedAnswers.{AppendsShapeAnswer, Grows}
pub use Rattle.i_shape.specs.FloatBuffers.{FormOneShape, LieEndToEnd, in_one_shape, is_readable, readable_slices}
pub use Rattle.i_shape.specs.declared.flat.buffer.contours.FlatContoursBuffer.{FlatContoursBuffer}
pub use Rattle.i_shape.specs.declared.flat.buffer.shapes.FlatShapesBuffer.{FlatShapesBuffer}
pub use Rattle.i_shape.specs.declared.int.in_place.InPlaceWork.{InPlaceWork}
