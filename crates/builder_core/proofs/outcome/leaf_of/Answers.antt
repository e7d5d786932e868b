use Rattle.std.proofs.Common.{◌∙◌}
use Rattle.builder_core.proofs.ShardMembers.{members_few, flags_long, leaf_is}
use Rattle.builder_core.proofs.outcome.leaf_of.Goals as goal

pub build_leaf-requires-clause-flags : goal.build_leaf-requires-clause-flags
build_leaf-requires-clause-flags g c =
    let group = c.args.task.now.group.now in
    flags_long c.args.task.now.shift c.args.task.now.shard group.universe.items group.revoked.items c.deref.result.now c.deref-2.result.now c.args.task.now.ready.beside
    (c.deref.ensures.value ∙ c.in_ok-universe.ensures.universe) (c.deref-2.ensures.value ∙ c.in_ok-universe.ensures.revoked)

pub build_leaf-requires-clause-few : goal.build_leaf-requires-clause-few
build_leaf-requires-clause-few g c =
    members_few c.args.task.now.shift c.args.task.now.shard c.args.task.now.group.now.universe.items c.deref.result.now c.args.task.now.ready.few
    (c.deref.ensures.value ∙ c.in_ok-universe.ensures.universe)

pub returns : goal.returns
returns g c =
    let group = c.args.task.now.group.now in
    leaf_is (g.H.EquationHash.row_of c.args.hash.now) c.args.task.now.shift c.args.task.now.shard group.universe.items group.revoked.items c.deref.result.now c.deref-2.result.now
    c.build_leaf.result c.args.task.now.ready.beside
    (c.deref.ensures.value ∙ c.in_ok-universe.ensures.universe) (c.deref-2.ensures.value ∙ c.in_ok-universe.ensures.revoked) c.build_leaf.ensures
