use Rattle.stage_core.proofs.passing.is_row_false_positive.Given as goal

abbrev pub ghosts-row_passes_from : goal.ghosts-row_passes_from
ghosts-row_passes_from a = record { name = a.blank.name; parts = a.blank.parts }
