use Rattle.stage_core.proofs.passing.is_false_positive.Given as goal

abbrev pub ghosts-passes_from : goal.ghosts-passes_from
ghosts-passes_from g a = record { name = a.blank.name; parts = a.blank.parts }
