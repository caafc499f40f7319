use Rattle.i_shape_core.proofs.clean.scan.is_simple.Goals as goal

pub returns : goal.returns
returns g c = (λ t. let none = c.has_none.ensures.0 t in record { enough = none.0; none = none.1 }, λ simple. c.has_none.ensures.1 (simple.enough, simple.none))
