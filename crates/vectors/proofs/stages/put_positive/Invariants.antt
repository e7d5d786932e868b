use Rattle.vectors.proofs.stages.put_positive.Given as goal

abbrev pub ghosts-put_by : goal.ghosts-put_by
ghosts-put_by a = record { name = a.b.name; parts = a.b.parts }
