use Rattle.builder_core.proofs.TaskLists.{cut_more}
use Rattle.builder_core.proofs.cuts.cuts_of.Goals as goal

pub loop-group-preserved : goal.loop-group-preserved
loop-group-preserved g c =
    cut_more c.args.format c.args.groups.now c.loop-group.group-index c.group-item.result c.loop-group.cuts.items _ _ c.loop-group-test.true c.group-item.is
    c.loop-group.invariant c.in_ok-cut_of.ensures c.in_ok-push.ensures.items
