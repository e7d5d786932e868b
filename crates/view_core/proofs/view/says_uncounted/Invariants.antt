use Rattle.view_core.proofs.view.says_uncounted.Given as goal

abbrev pub ghosts-uncounted-L-Ledger : goal.ghosts-uncounted-L-Ledger
ghosts-uncounted-L-Ledger g a = record { name = a.probes.name; parts = a.probes.parts }

abbrev pub ghosts-uncounted-M-Ledger : goal.ghosts-uncounted-M-Ledger
ghosts-uncounted-M-Ledger g a = record { name = a.words.name; parts = a.words.parts }
