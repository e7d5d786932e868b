use Rattle.std.proofs.Common.{◌∙◌, ℕ, List, Bool}
use Rattle.ident_core.specs.declared.identity.Identity.{Identity}
use Rattle.builder_core.proofs.ShardMembers.{member_in, flag_in, member_out, flag_out}
use Rattle.builder_core.proofs.members.members_of.Goals.{then-found-shard+in_ok-push+in_ok-push-2, else-found-shard}
use Rattle.builder_core.proofs.members.members_of.Goals as goal

pub loop-i-preserved : goal.loop-i-preserved
loop-i-preserved c =
    let task = c.args.task.now in
    let xs : List Identity = task.group.now.universe.items in
    let fs : List Bool = task.group.now.revoked.items in
    let ss : List ℕ = task.shards.now in
    elim c.if-found-shard.branch [
      | then-found-shard+in_ok-push+in_ok-push-2 w ↦ record {
        universe = rw (w.universe-is, w.in_ok-push.ensures.items, c.loop-i.invariant.universe)
            (member_in task.shift task.shard xs fs ss c.loop-i.i c.requires task.drawn task.ready.beside c.loop-i-test.true w.index.result.now _ w.if-found-shard.true w.index.ensures);
        revoked = rw (w.revoked-is, w.in_ok-push-2.ensures.items, c.loop-i.invariant.revoked)
            (flag_in task.shift task.shard xs fs ss c.loop-i.i c.requires task.drawn task.ready.beside c.loop-i-test.true w.index.result.now _ w.if-found-shard.true
            w.index-then-found-shard.result.now w.index-then-found-shard.ensures);
      }
      | else-found-shard w ↦ record {
        universe = rw w.universe-is
            (c.loop-i.invariant.universe ∙ member_out task.shift task.shard fs ss c.loop-i.i c.requires c.loop-i-test.true _ w.if-found-shard.false xs task.drawn task.ready.beside);
        revoked = rw w.revoked-is
            (c.loop-i.invariant.revoked ∙ flag_out task.shift task.shard fs ss c.loop-i.i c.requires c.loop-i-test.true _ w.if-found-shard.false xs task.drawn task.ready.beside);
      }
    ]
