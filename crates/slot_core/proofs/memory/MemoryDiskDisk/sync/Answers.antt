use Rattle.std.proofs.Common.{◌≡◌, List, [], ◌∷◌, ◌++◌, sym, ap, ◌∙◌, subst}
use Rattle.slot_core.specs.Disk.{IsSynced, Quiet}
use Rattle.slot_core.specs.Steps.{Step, Sync, recorded_state}
use Rattle.slot_core.specs.Memory.{MemoryView, state_of}
use Rattle.slot_core.proofs.RecordLaws.{only_synced, quiet_synced}
use Rattle.slot_core.proofs.memory.MemoryDiskDisk.sync.Goals as goal

-- one step more
one : (c : goal.In-Ok) → c.args.self.now.steps ++ Sync ∷ [] ≡ c.sync.new.self
one c =
    let same : c.self.inside.recording ≡ c.args.self.now.steps = ap (λ (d : MemoryView). d.steps) (c.self.view_is ∙ c.next_stops.ensures.made) in
    sym (c.in-Ok.ensures.ok ∙ ap (λ (l : List Step). l ++ Sync ∷ []) same)

pub returns-in-Ok-clause-ok : goal.returns-in-Ok-clause-ok
returns-in-Ok-clause-ok c =
    subst (λ (l : List Step). IsSynced (recorded_state l c.self.inside.faults)) (one c) (only_synced c.args.self.now.steps c.args.self.now.faults c.self.inside.faults)

pub returns-in-Ok-clause-quiet : goal.returns-in-Ok-clause-quiet
returns-in-Ok-clause-quiet c =
    subst (λ (l : List Step). Quiet (state_of c.args.self.now) (recorded_state l c.self.inside.faults)) (one c)
    (quiet_synced c.args.self.now.steps c.args.self.now.faults c.self.inside.faults)
