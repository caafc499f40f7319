use Rattle.i_shape.proofs.int.area.RefSliceIntPointArea.area_two.Goals as goal

pub returns : goal.returns
returns g c = c.area_of.ensures
