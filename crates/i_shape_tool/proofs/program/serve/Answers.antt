use Rattle.i_shape_tool.proofs.program.serve.Goals as goal

pub returns-in-Ok-clause-unread : goal.returns-in-Ok-clause-unread
returns-in-Ok-clause-unread g c = λ none. absurd (none c.in-Ok.ensures.ok.0 c.in-Ok.ensures.ok.1)
