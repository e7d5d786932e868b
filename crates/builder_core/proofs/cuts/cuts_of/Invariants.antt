use Rattle.std.proofs.Common.{◌≡◌, map, take}
use Rattle.std.specs.List.{flat_map}
use Rattle.universe_core.specs.Groups.{group_fields}
use Rattle.builder_core.specs.Tasks.{tasks_in, tasks_of_cut}
use Rattle.builder_core.proofs.cuts.cuts_of.Given as goal

abbrev pub invariant-loop-group : goal.invariant-loop-group
invariant-loop-group g l = flat_map tasks_of_cut l.cuts.items ≡ tasks_in l.format (map group_fields (take l.group-index l.groups))
