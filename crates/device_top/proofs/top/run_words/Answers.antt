use Rattle.std.proofs.Common.{◌∙◌}
use Rattle.device_top.proofs.top.run_words.Goals as goal

pub returns-in-Ok-clause-ends : goal.returns-in-Ok-clause-ends
returns-in-Ok-clause-ends g c = rw c.in-Ok.ensures at c.run_command.ensures.ends

pub returns-in-Ok-clause-survives : goal.returns-in-Ok-clause-survives
returns-in-Ok-clause-survives g c = λ i is. c.run_command.ensures.survives i (c.in-Ok.ensures ∙ is)
