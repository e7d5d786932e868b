use Rattle.store_core.proofs.asking.parts_say.Given as goal

abbrev pub ghosts-said_by-L-Ledger : goal.ghosts-said_by-L-Ledger
ghosts-said_by-L-Ledger a = record { name = a.probes.name; parts = a.probes.parts }

abbrev pub ghosts-said_by-M-Ledger : goal.ghosts-said_by-M-Ledger
ghosts-said_by-M-Ledger a = record { name = a.words.name; parts = a.words.parts }
