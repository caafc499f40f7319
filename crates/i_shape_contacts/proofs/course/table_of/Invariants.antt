use Rattle.i_shape_contacts.specs.Courses.{ListsNext}
use Rattle.i_shape_contacts.proofs.course.table_of.Given as goal

abbrev pub invariant-loop-place : goal.invariant-loop-place
invariant-loop-place l = ListsNext l.offsets l.table.items l.place
