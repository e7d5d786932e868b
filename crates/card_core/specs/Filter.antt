-- The filter of a universe: one leaf, or a leaf for each shard; and for whom it tests positive.
use Rattle.std.specs.Prelude.{◌≡◌, ◌<◌, ◌≤◌, ◌+◌, ◌*◌, ◌^◌, ◌==◌, ℕ, zero, suc, Bool, nat_le, not, if◌then◌else◌}
use Rattle.std.specs.Prelude.{List, length, map, filter, slice_index_or}
use Rattle.ident_core.specs.declared.identity.Identity.{Identity}
use Rattle.equation_core.specs.declared.shards.TheConstants.{MAX_SHIFT}
use Rattle.equation_core.specs.Rows.{Rows}
use Rattle.equation_core.specs.Shards.{shard}
use Rattle.card_core.specs.declared.leaf.Leaf.{Leaf}
use Rattle.card_core.specs.declared.leaf.Leaf.TheVariants as leafs
use Rattle.card_core.specs.declared.block.Block.{Block}
use Rattle.card_core.specs.declared.block.Body.{Body}
use Rattle.card_core.specs.declared.block.Body.TheVariants as bodies
use Rattle.card_core.specs.Leaf.{flagged, is_leaf_positive, IsLeaf, IsStageRefused}

-- one leaf, or a shift and a leaf for each of its shards, in order
pub data Filter : Type 0 where
  alone : Leaf → Filter
  cut : ℕ → List Leaf → Filter

-- the body of a leaf
abbrev pub as_body : Leaf → Body
as_body leafs.Clean = bodies.Clean
as_body leafs.Every = bodies.Every
as_body (leafs.Mixed m) = bodies.Mixed m

-- the filter of a body
abbrev pub filter_of : Body → Filter
filter_of bodies.Clean = alone leafs.Clean
filter_of bodies.Every = alone leafs.Every
filter_of (bodies.Mixed m) = alone (leafs.Mixed m)
filter_of (bodies.Sharded s) = cut s.shift s.leaves

-- the greatest shift up to a bound that leaves 16,384 identities a shard on average, or 0
abbrev pub greatest_shift : ℕ → ℕ → ℕ
greatest_shift zero identities = 0
greatest_shift (suc s) identities = if nat_le (2 ^ suc s * 16384) identities then suc s else greatest_shift s identities

-- How far a universe of so many revoked and others is cut: not at all where none or all are revoked, and else by the
-- greatest shift, which is 0 for fewer than 32,768 identities.
abbrev pub shift_for : ℕ → ℕ → ℕ
shift_for zero others = 0
shift_for (suc revoked) zero = 0
shift_for (suc revoked) (suc others) = greatest_shift MAX_SHIFT (suc revoked + suc others)

-- the members of a shard
abbrev pub in_shard : ℕ → ℕ → List Identity → List Identity
in_shard shift j xs = filter (λ x. shard x shift == j) xs

-- a leaf for each shard, in order
pub record AreShards (rows : Rows) (shift : ℕ) (revoked others : List Identity) (leaves : List Leaf) : Type 0 where
  pub count : length leaves ≡ 2 ^ shift
  pub each : (j : ℕ) (d : Leaf) → j < 2 ^ shift
      → IsLeaf rows (in_shard shift j revoked) (in_shard shift j others) (slice_index_or leaves j d)

-- the filter of the revoked and the other identities of a universe, cut by this shift
abbrev pub IsFilter : Rows → ℕ → List Identity → List Identity → Filter → Type 0
IsFilter rows shift revoked others (alone leaf) = (shift ≡ 0) × IsLeaf rows revoked others leaf
IsFilter rows shift revoked others (cut s leaves) = (1 ≤ shift) × (s ≡ shift) × AreShards rows shift revoked others leaves

-- whether a filter tests positive for an identity: whether the leaf of its shard does
abbrev pub is_filtered : Rows → Identity → Filter → Bool
is_filtered rows x (alone leaf) = is_leaf_positive rows x leaf
is_filtered rows x (cut shift leaves) = is_leaf_positive rows x (slice_index_or leaves (shard x shift) leafs.Clean)

-- whether a body tests positive for an identity
abbrev pub is_positive : Rows → Identity → Body → Bool
is_positive rows x body = is_filtered rows x (filter_of body)

-- the first shard that has no leaf, and its stage that is unsolvable at each seed
pub record IsRefusedShard (rows : Rows) (shift : ℕ) (revoked others : List Identity) (stage : ℕ) : Type 0 where
  pub place : ℕ
  pub below : place < 2 ^ shift
  pub before : (j : ℕ) → j < place → (leaf : Leaf) × IsLeaf rows (in_shard shift j revoked) (in_shard shift j others) leaf
  pub refused : IsStageRefused rows (in_shard shift place revoked) (in_shard shift place others) stage

-- the stage for which there is no filter
abbrev pub IsRefusedIn : Rows → ℕ → List Identity → List Identity → ℕ → Type 0
IsRefusedIn rows zero revoked others stage = IsStageRefused rows revoked others stage
IsRefusedIn rows (suc s) revoked others stage = IsRefusedShard rows (suc s) revoked others stage

-- the block of an issuer whose identities have these flags, cut by this shift
abbrev pub IsBlock : Rows → ℕ → List ℕ → List Identity → List Bool → Block → Type 0
IsBlock rows shift issuer universe flags block =
    (block.issuer ≡ issuer) × IsFilter rows shift (flagged universe flags) (flagged universe (map not flags)) (filter_of block.body)

-- the stage for which there is no block
abbrev pub IsBlockRefused : Rows → ℕ → List Identity → List Bool → ℕ → Type 0
IsBlockRefused rows shift universe flags stage = IsRefusedIn rows shift (flagged universe flags) (flagged universe (map not flags)) stage
