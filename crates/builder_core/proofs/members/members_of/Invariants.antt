use Rattle.std.proofs.Common.{◌≡◌, nat_eq, take}
use Rattle.equation_core.specs.Shards.{shard}
use Rattle.card_core.specs.Cutting.{flags_of}
use Rattle.card_core.specs.Filter.{in_shard}
use Rattle.builder_core.proofs.members.members_of.Given as goal

abbrev pub invariant-loop-i : goal.invariant-loop-i
invariant-loop-i l = record {
  universe : l.universe.items ≡ in_shard l.task.shift l.task.shard (take l.i l.task.group.now.universe.items);
  revoked : l.revoked.items ≡ flags_of (λ x. nat_eq (shard x l.task.shift) l.task.shard) (take l.i l.task.group.now.universe.items) (take l.i l.task.group.now.revoked.items);
}
