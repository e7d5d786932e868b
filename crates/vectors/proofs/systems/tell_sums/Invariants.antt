use Rattle.vectors.proofs.systems.tell_sums.Given as goal

abbrev pub ghosts-tell_parities : goal.ghosts-tell_parities
ghosts-tell_parities a = record { name = a.blank.name; parts = a.blank.parts }
