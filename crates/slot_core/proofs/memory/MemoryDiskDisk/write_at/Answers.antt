use Rattle.std.proofs.Common.{◌≡◌, List, [], ◌∷◌, ◌++◌, length, sym, ap, ◌∙◌, subst}
use Rattle.slot_core.specs.Disk.{Tells, Written, Tears}
use Rattle.slot_core.specs.Steps.{Step, Write, recorded_state}
use Rattle.slot_core.specs.Memory.{MemoryView, state_of}
use Rattle.slot_core.proofs.RecordLaws.{tears_written, told_written}
use Rattle.slot_core.proofs.memory.MemoryDiskDisk.write_at.Goals as goal

-- one step more
one : (c : goal.In-Ok) → c.args.self.now.steps ++ Write c.args.at c.args.bytes.now ∷ [] ≡ c.write.new.self
one c =
    let same : c.self.inside.recording ≡ c.args.self.now.steps = ap (λ (d : MemoryView). d.steps) (c.self.view_is ∙ c.next_stops.ensures.made) in
    sym (c.in-Ok.ensures.ok ∙ ap (λ (l : List Step). l ++ Write c.args.at c.args.bytes.now ∷ []) same)

pub returns-in-Ok-clause-ok : goal.returns-in-Ok-clause-ok
returns-in-Ok-clause-ok c =
    subst (λ (l : List Step). Tells (Written c.args.at c.args.bytes.now) (state_of c.args.self.now) (recorded_state l c.self.inside.faults)) (one c)
    (told_written c.args.self.now.steps c.args.self.now.faults c.self.inside.faults c.args.at c.args.bytes.now)

pub returns-in-Ok-clause-tears : goal.returns-in-Ok-clause-tears
returns-in-Ok-clause-tears c =
    subst (λ (l : List Step). Tears c.args.at (length c.args.bytes.now) (state_of c.args.self.now) (recorded_state l c.self.inside.faults)) (one c)
    (tears_written c.args.self.now.steps c.args.self.now.faults c.self.inside.faults c.args.at c.args.bytes.now)
