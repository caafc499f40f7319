-- The program's points, for the clauses of crates above.
pub use Rattle.i_shape_core.specs.declared.point.IntPoint.{IntPoint}
