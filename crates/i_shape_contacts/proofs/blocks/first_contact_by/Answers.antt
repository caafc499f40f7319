use Rattle.std.proofs.Common.{refl}
use Rattle.i_shape_contacts.proofs.blocks.first_contact_by.Goals as goal

pub blocks_of-requires-clause-ordered : goal.blocks_of-requires-clause-ordered
blocks_of-requires-clause-ordered g c = record { count = refl; within = λ m h. h; ranked = λ k h. record { rank = k; below = h; is = refl } }

pub found_by_blocks-requires-clause-ordered : goal.found_by_blocks-requires-clause-ordered
found_by_blocks-requires-clause-ordered g c = record { count = refl; within = λ m h. h; ranked = λ k h. record { rank = k; below = h; is = refl } }
