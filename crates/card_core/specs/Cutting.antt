-- The universe and the flags of a shard, and the filter of the shards' leaves.
use Rattle.std.specs.Prelude.{◌≡◌, ℕ, zero, suc, Bool, not, cond, List, [], ◌∷◌, map, length, filter}
use Rattle.ident_core.specs.declared.identity.Identity.{Identity}
use Rattle.equation_core.specs.Rows.{Rows}
use Rattle.card_core.specs.declared.leaf.Leaf.{Leaf}
use Rattle.card_core.specs.Leaf.{flagged}
use Rattle.card_core.specs.Filter.{Filter, alone, cut, AreShards, IsFilter, IsRefusedShard, IsRefusedIn}

-- the flags of the identities that pass
abbrev pub flags_of : (Identity → Bool) → List Identity → List Bool → List Bool
flags_of p [] flags = []
flags_of p (x ∷ xs) [] = []
flags_of p (x ∷ xs) (f ∷ flags) = cond (p x) (f ∷ flags_of p xs flags) (flags_of p xs flags)

-- they flag the same of those that pass
abbrev pub CutIsOfShard : Type 0
CutIsOfShard = (p : Identity → Bool) (xs : List Identity) (flags : List Bool) → length flags ≡ length xs
    → (flagged (filter p xs) (flags_of p xs flags) ≡ filter p (flagged xs flags))
    × (flagged (filter p xs) (map not (flags_of p xs flags)) ≡ filter p (flagged xs (map not flags)))
    × (length (flags_of p xs flags) ≡ length (filter p xs))

-- the filter of the leaves of all shards
abbrev pub filter_of_leaves : ℕ → List Leaf → Filter
filter_of_leaves zero [] = cut 0 []
filter_of_leaves zero (leaf ∷ leaves) = alone leaf
filter_of_leaves (suc s) leaves = cut (suc s) leaves

-- The leaves of all shards make the filter, also where there is one shard.
abbrev pub ShardsMakeFilter : Type 0
ShardsMakeFilter = (rows : Rows) (shift : ℕ) (revoked others : List Identity) (leaves : List Leaf)
    → AreShards rows shift revoked others leaves → IsFilter rows shift revoked others (filter_of_leaves shift leaves)

-- A shard that is refused refuses the filter.
abbrev pub ShardRefusesFilter : Type 0
ShardRefusesFilter = (rows : Rows) (shift : ℕ) (revoked others : List Identity) (stage : ℕ)
    → IsRefusedShard rows shift revoked others stage → IsRefusedIn rows shift revoked others stage
