-- What a group's leaves are built from.
use Rattle.std.specs.Prelude.{◌≡◌, ◌≤◌, ℕ, zero, suc, List, [], map, length}
use Rattle.ident_core.specs.declared.bounds.TheConstants.{MAX_IDENTITIES}
use Rattle.ident_core.specs.declared.identity.Identity.{Identity}
use Rattle.equation_core.specs.Shards.{shard}
use Rattle.universe_core.specs.declared.admitted.Group.{Group}

-- what building a group asks of it
pub record IsReady (g : Group) : Type 0 where
  pub beside : length g.revoked.items ≡ length g.universe.items
  pub few : length g.universe.items ≤ MAX_IDENTITIES

-- the shard of each identity, where they are cut
abbrev pub shards_in : ℕ → List Identity → List ℕ
shards_in zero xs = []
shards_in (suc s) xs = map (λ x. shard x (suc s)) xs
