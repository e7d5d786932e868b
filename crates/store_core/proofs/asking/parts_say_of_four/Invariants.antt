use Rattle.store_core.proofs.asking.parts_say_of_four.Given as goal

abbrev pub ghosts-four_said_by-L-Ledger : goal.ghosts-four_said_by-L-Ledger
ghosts-four_said_by-L-Ledger a = record { name = a.probes.name; parts = a.probes.parts }

abbrev pub ghosts-four_said_by-M-Ledger : goal.ghosts-four_said_by-M-Ledger
ghosts-four_said_by-M-Ledger a = record { name = a.words.name; parts = a.words.parts }
