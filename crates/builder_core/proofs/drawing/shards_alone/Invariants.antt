use Rattle.std.proofs.Common.{◌≡◌, ◌*◌, map, take}
use Rattle.equation_core.specs.Shards.{shard}
use Rattle.builder_core.proofs.drawing.shards_alone.Given as goal

abbrev pub invariant-fours : goal.invariant-fours
invariant-fours l = l.shards.items ≡ map (λ x. shard x l.shift) (take (4 * l.i) l.universe)

abbrev pub invariant-rest : goal.invariant-rest
invariant-rest l = l.shards.items ≡ map (λ x. shard x l.shift) (take l.i l.universe)
