use Rattle.std.proofs.Common.{◌≡◌, ◌++◌, map}
use Rattle.std.specs.List.{range_with_len}
use Rattle.universe_core.specs.Groups.{group_fields}
use Rattle.builder_core.specs.Tasks.{task_fields}
use Rattle.builder_core.proofs.tasks.push_tasks.Given as goal

abbrev pub invariant-loop-shard : goal.invariant-loop-shard
invariant-loop-shard l = map task_fields l.tasks.items
    ≡ map task_fields l.fn.tasks.items ++ map (λ j. record { group = group_fields l.cut.group.now; shift = l.cut.shift; shard = j }) (range_with_len 0 l.shard)
