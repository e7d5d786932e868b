use Rattle.std.proofs.Common.{refl}
use Rattle.universe_core.specs.Groups.{group_fields}
use Rattle.builder_core.proofs.TaskLists.{task_more}
use Rattle.builder_core.proofs.tasks.push_tasks.Goals as goal

pub loop-shard-preserved : goal.loop-shard-preserved
loop-shard-preserved c =
    task_more c.args.cut.now.shift c.loop-shard.shard (group_fields c.args.cut.now.group.now) _ c.args.tasks.now.items c.loop-shard.tasks.items _ refl
    c.loop-shard.invariant c.in_ok-push.ensures.items
