use Rattle.part_text.proofs.text.put_stage.Given as goal

abbrev pub ghosts-put_planes : goal.ghosts-put_planes
ghosts-put_planes g a = record { name = a.blank.name; parts = a.blank.parts }
