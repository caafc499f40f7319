use Rattle.i_shape.proofs.int.despike.shape.IntShapesDeSpikeShapes.has_no_spikes.Goals as goal

pub returns : goal.returns
returns g c =
    (λ yes. rw c.as_slice.ensures.value at (c.is_clean_list.ensures.0 yes), λ each. c.is_clean_list.ensures.1 (rw c.as_slice.ensures.value each))
