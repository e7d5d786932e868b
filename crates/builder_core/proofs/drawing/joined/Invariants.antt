use Rattle.std.proofs.Common.{◌≡◌, ℕ, Vec, Global, take}
use Rattle.std.specs.List.{flat_map}
use Rattle.builder_core.proofs.drawing.joined.Given as goal

abbrev pub invariant-loop-shards : goal.invariant-loop-shards
invariant-loop-shards l = l.all.items ≡ flat_map (λ (v : Vec ℕ Global). v.items) (take l.shards-index l.drawn)
