use Rattle.benches.proofs.ribbon.ask.Given as goal

abbrev pub ghosts-ask_rounds : goal.ghosts-ask_rounds
ghosts-ask_rounds a = record { name = a.blank.name; parts = a.blank.parts }
