-- The leaves of all shards, joined.
use Rattle.std.proofs.Common.{◌≡◌, ℕ, zero, suc, cond, nat_eq, List, [], ◌∷◌, refl, ap, ◌∙◌, subst, arith}
use Rattle.ident_core.specs.declared.identity.Identity.{Identity}
use Rattle.equation_core.specs.Rows.{Rows}
use Rattle.equation_core.proofs.Cutting.{shard_zero}
use Rattle.card_core.specs.declared.leaf.Leaf.{Leaf}
use Rattle.card_core.specs.Leaf.{IsLeaf, IsStageRefused}
use Rattle.card_core.specs.Filter.{in_shard}
use Rattle.card_core.specs.Cutting.{ShardsMakeFilter, ShardRefusesFilter}

-- with no bit all identities are in the one shard
whole : (xs : List Identity) → in_shard 0 0 xs ≡ xs
whole [] = refl
whole (x ∷ xs) = ap (λ (n : ℕ). cond (nat_eq n 0) (x ∷ in_shard 0 0 xs) (in_shard 0 0 xs)) (shard_zero x) ∙ ap (λ (ys : List Identity). x ∷ ys) (whole xs)

one_leaf : (rows : Rows) (revoked others : List Identity) (leaf : Leaf) → IsLeaf rows (in_shard 0 0 revoked) (in_shard 0 0 others) leaf → IsLeaf rows revoked others leaf
one_leaf rows revoked others leaf h =
    subst (λ (ys : List Identity). IsLeaf rows revoked ys leaf) (whole others) (subst (λ (xs : List Identity). IsLeaf rows xs (in_shard 0 0 others) leaf) (whole revoked) h)

pub shards_make : ShardsMakeFilter
shards_make rows zero revoked others [] h = absurd (omega (arith, h.count))
shards_make rows zero revoked others (leaf ∷ leaves) h = (refl, one_leaf rows revoked others leaf (h.each 0 leaf (omega arith)))
shards_make rows (suc s) revoked others leaves h = (omega arith, refl, h)

first : (rows : Rows) (revoked others : List Identity) (stage place : ℕ) → place ≡ 0 → IsStageRefused rows (in_shard 0 place revoked) (in_shard 0 place others) stage → IsStageRefused rows revoked others stage
first rows revoked others stage place e h =
    let k : IsStageRefused rows (in_shard 0 0 revoked) (in_shard 0 0 others) stage = subst (λ (n : ℕ). IsStageRefused rows (in_shard 0 n revoked) (in_shard 0 n others) stage) e h in
    subst (λ (ys : List Identity). IsStageRefused rows revoked ys stage) (whole others) (subst (λ (xs : List Identity). IsStageRefused rows xs (in_shard 0 0 others) stage) (whole revoked) k)

pub shard_refuses : ShardRefusesFilter
shard_refuses rows zero revoked others stage h = first rows revoked others stage h.place (omega (arith, h.below)) h.refused
shard_refuses rows (suc s) revoked others stage h = h
