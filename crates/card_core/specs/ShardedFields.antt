-- What a sharded body holds.
use Rattle.std.specs.Prelude.{◌≡◌, ◌≤◌, ◌^◌, ℕ, List, length}
use Rattle.equation_core.specs.declared.shards.TheConstants.{MAX_SHIFT}
use Rattle.card_core.specs.declared.leaf.Leaf.{Leaf}

pub record ShardedFields : Type 0 where
  pub shift : ℕ
  pub leaves : List Leaf

-- a leaf for each of 2 to 256 shards
pub record IsSharded (s : ShardedFields) : Type 0 where
  pub some : 1 ≤ s.shift
  pub few : s.shift ≤ MAX_SHIFT
  pub count : length s.leaves ≡ 2 ^ s.shift
