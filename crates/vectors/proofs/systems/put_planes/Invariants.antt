use Rattle.vectors.proofs.systems.put_planes.Given as goal

abbrev pub ghosts-tell_words : goal.ghosts-tell_words
ghosts-tell_words a = record { name = a.blank.name; parts = a.blank.parts }
