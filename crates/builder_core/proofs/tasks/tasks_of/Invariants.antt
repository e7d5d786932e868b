use Rattle.std.proofs.Common.{◌≡◌, map, take}
use Rattle.std.specs.List.{flat_map}
use Rattle.builder_core.specs.Tasks.{task_fields, tasks_of_cut}
use Rattle.builder_core.proofs.tasks.tasks_of.Given as goal

abbrev pub invariant-loop-cut : goal.invariant-loop-cut
invariant-loop-cut l = map task_fields l.tasks.items ≡ flat_map tasks_of_cut (take l.cut-index l.cuts)
