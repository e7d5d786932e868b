use Rattle.clubcard_top.proofs.top.run_words.Goals as goal

pub returns-in-Ok-clause-ends : goal.returns-in-Ok-clause-ends
returns-in-Ok-clause-ends g c = rw c.in-Ok.ensures.value at c.run_command.ensures.ends
