-- The places of shards ascend, over a block, a part and a store.
use Rattle.std.proofs.Common.{◌≡◌, ℕ, suc, ◌+◌, ◌<◌, ◌≤◌, List, [], ◌∷◌, ◌++◌, length, refl, sym, subst, length-append, arith}
use Rattle.std.specs.Prelude.{All, flat_map}
use Rattle.std.specs.List.{AllByRecursion}
use Rattle.std.specs.List.Sorted.{IsStrictlySortedBy}
use Rattle.std.specs.Ordering.{nat_cmp}
use Rattle.std.specs.Cmp.{nat_cmp_is}
use Rattle.std.specs.declared.cmp.Ordering.TheVariants.{Less}
use Rattle.card_core.specs.declared.block.Block.{Block}
use Rattle.card_core.specs.declared.block.Body.{Body}
use Rattle.card_core.specs.declared.block.Body.TheVariants as bodies
use Rattle.card_core.specs.declared.leaf.Leaf.{Leaf}
use Rattle.part_text.specs.SealedFields.{SealedFields}
use Rattle.part_text.specs.Fitting.{BlockFits, Fits}
use Rattle.part_text.specs.PartText.{shard_leaf_text, body_text, block_text, spelling}
use Rattle.part_text.proofs.Lengths.{length_shard, length_sharded}
use Rattle.view_core.specs.Index.{blocks_at, shards_in, shards_of, shards_index}
use Rattle.view_core.specs.Texts.{Stands, places_of}
use Rattle.view_core.proofs.Texts.{stands_first, stands_then}
use Rattle.view_core.proofs.Endings.{long_block}
use Rattle.view_core.proofs.Standing.{standing_part}

-- each is at least the lower bound, above those before it, and below the upper bound
abbrev pub Rise : ℕ → ℕ → List ℕ → Type 0
Rise low high [] = low ≤ high
Rise low high (x ∷ xs) = (low ≤ x) × (x < high) × Rise (x + 1) high xs

rise_order : (low high : ℕ) (xs : List ℕ) → Rise low high xs → low ≤ high
rise_order low high [] r = r
rise_order low high (x ∷ xs) r = omega (arith, r.0, r.1)

rise_from : (a b high : ℕ) (xs : List ℕ) → a ≤ b → Rise b high xs → Rise a high xs
rise_from a b high [] le r = omega (arith, le, r)
rise_from a b high (x ∷ xs) le r = (omega (arith, le, r.0), r.1, r.2)

rise_to : (low b c : ℕ) (xs : List ℕ) → b ≤ c → Rise low b xs → Rise low c xs
rise_to low b c [] le r = omega (arith, le, r)
rise_to low b c (x ∷ xs) le r = (r.0, omega (arith, r.1, le), rise_to (x + 1) b c xs le r.2)

rise_append : (a b c : ℕ) (xs ys : List ℕ) → Rise a b xs → Rise b c ys → Rise a c (xs ++ ys)
rise_append a b c [] ys r s = rise_from a b c ys r s
rise_append a b c (x ∷ xs) ys r s = (r.0, omega (arith, r.1, rise_order b c ys s), rise_append (x + 1) b c xs ys r.2 s)

above : (low high x : ℕ) (xs : List ℕ) → x < low → Rise low high xs → AllByRecursion (λ y. nat_cmp x y ≡ Less) xs
above low high x [] lt r = tt
above low high x (y ∷ xs) lt r = (sym (nat_cmp_is x y Less (omega (arith, lt, r.0))), above (y + 1) high x xs (omega (arith, lt, r.0)) r.2)

pub rise_sorted : (low high : ℕ) (xs : List ℕ) → Rise low high xs → IsStrictlySortedBy nat_cmp xs
unfolding IsStrictlySortedBy
rise_sorted low high [] r = tt
rise_sorted low high (x ∷ xs) r = (above (x + 1) high x xs (omega arith) r.2, rise_sorted (x + 1) high xs r.2)

-- the places of texts that have bytes
places_rise : {X : Type 0} (text : X → List ℕ) → ((x : X) → 0 < length (text x)) → (at : ℕ) (xs : List X) → Rise at (at + length (flat_map text xs)) (places_of text at xs)
places_rise text some at [] = omega arith
places_rise text some at (x ∷ xs) =
    let e : at + length (text x) + length (flat_map text xs) ≡ at + length (text x ++ flat_map text xs) = omega (arith, length-append (text x) (flat_map text xs)) in
    let rest = subst (λ (n : ℕ). Rise (at + length (text x)) n (places_of text (at + length (text x)) xs)) e (places_rise text some (at + length (text x)) xs) in (
      omega arith,
      omega (arith, some x, length-append (text x) (flat_map text xs)),
      rise_from (at + 1) (at + length (text x)) _ _ (omega (arith, some x)) rest,
    )

shard_some : (l : Leaf) → 0 < length (shard_leaf_text l)
shard_some l = omega (arith, length_shard l)

body_rises : (at : ℕ) (body : Body) → Rise at (at + 33 + length (body_text body)) (shards_in at body)
body_rises at bodies.Clean = omega arith
body_rises at bodies.Every = omega arith
body_rises at (bodies.Mixed m) = omega arith
body_rises at (bodies.Sharded s) =
    let e : at + 33 + 1 + length (flat_map shard_leaf_text s.leaves) ≡ at + 33 + length (body_text (bodies.Sharded s)) = omega (arith, length_sharded s) in
    rise_from at (at + 33 + 1) _ _ (omega arith) (subst (λ (n : ℕ). Rise (at + 33 + 1) n (places_of shard_leaf_text (at + 33 + 1) s.leaves)) e (places_rise shard_leaf_text shard_some (at + 33 + 1) s.leaves))

block_rises : (at : ℕ) (b : Block) → BlockFits b → Rise at (at + length (block_text b)) (shards_in at b.body)
block_rises at b fits =
    let e : at + 33 + length (body_text b.body) ≡ at + length (block_text b) = omega (arith, long_block b fits) in
    subst (λ (n : ℕ). Rise at n (shards_in at b.body)) e (body_rises at b.body)

blocks_rise : (at : ℕ) (blocks : List Block) → All BlockFits blocks → Rise at (at + length (flat_map block_text blocks)) (shards_of at blocks)
blocks_rise at [] fit = omega arith
blocks_rise at (b ∷ blocks) fit =
    let e : at + length (block_text b) + length (flat_map block_text blocks) ≡ at + length (block_text b ++ flat_map block_text blocks)
    = omega (arith, length-append (block_text b) (flat_map block_text blocks)) in
    subst (λ (n : ℕ). Rise at n (shards_in at b.body ++ shards_of (at + length (block_text b)) blocks)) e
    (rise_append at (at + length (block_text b)) _ _ _ (block_rises at b (fit 0 b (omega arith)))
    (blocks_rise (at + length (block_text b)) blocks (λ k d lt. fit (suc k) d (omega arith))))

-- of parts that stand one after the other
pub parts_rise : (bytes : List ℕ) (at : ℕ) (parts : List SealedFields) → All Fits parts → Stands bytes at (flat_map spelling parts)
    → Rise at (at + length (flat_map spelling parts)) (shards_index at parts)
parts_rise bytes at [] fit stands = omega arith
parts_rise bytes at (s ∷ parts) fit stands =
    let one = standing_part bytes at s (fit 0 s (omega arith)) (stands_first bytes at (spelling s) (flat_map spelling parts) stands) in
    let end : ℕ = at + length (spelling s) in
    let own = rise_to _ _ end _ (omega (arith, one.long)) (rise_from at (blocks_at at s.part) _ _ (omega arith) (blocks_rise (blocks_at at s.part) s.part.blocks one.all_fit)) in
    let rest = parts_rise bytes end parts (λ k d lt. fit (suc k) d (omega arith)) (stands_then bytes at (spelling s) (flat_map spelling parts) end refl stands) in
    let e : end + length (flat_map spelling parts) ≡ at + length (spelling s ++ flat_map spelling parts) = omega (arith, length-append (spelling s) (flat_map spelling parts)) in
    subst (λ (n : ℕ). Rise at n (shards_of (blocks_at at s.part) s.part.blocks ++ shards_index end parts)) e (rise_append at end _ _ _ own rest)
