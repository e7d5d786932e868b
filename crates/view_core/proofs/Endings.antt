-- Where stages, leaves and blocks end: what the functions of src/ends.rt compute, in lengths of texts.
use Rattle.std.proofs.Common.{◌≡◌, ℕ, suc, ◌+◌, ◌*◌, ◌<◌, ◌≤◌, ◌^◌, List, ◌++◌, length, get_or, take, drop, Option, Some, refl}
use Rattle.std.proofs.Common.{ap, ◌∙◌, subst, drop-cons, length-append, arith}
use Rattle.std.specs.Prelude.{flat_map}
use Rattle.std.specs.Int.{w8, to_be_bytes}
use Rattle.std.proofs.lemmas.List.{get_or_default, take_all}
use Rattle.octets_core.proofs.Loops.{flat_map-more}
use Rattle.equation_core.specs.Sizes.{words_for}
use Rattle.card_core.specs.declared.stage.Stage.{Stage}
use Rattle.card_core.specs.declared.leaf.Leaf.{Leaf}
use Rattle.card_core.specs.declared.leaf.Leaf.TheVariants as leaves
use Rattle.card_core.specs.declared.block.Block.{Block}
use Rattle.card_core.specs.declared.block.Body.{Body}
use Rattle.card_core.specs.declared.block.Body.TheVariants as bodies
use Rattle.card_core.specs.MixedFields.{MixedFields}
use Rattle.card_core.specs.ShardedFields.{ShardedFields}
use Rattle.part_text.specs.Fitting.{MixedFits, LeafFits, ShardsFit, BodyFits, BlockFits}
use Rattle.part_text.specs.PartText.{stage_text, width_of, approx_text, mixed_text, leaf_mode, leaf_text, shard_leaf_text, sharded_text}
use Rattle.part_text.specs.PartText.{mode_of, body_text, block_text}
use Rattle.part_text.proofs.Lengths.{length_stage}
use Rattle.view_core.specs.declared.leaf.StageHead.{StageHead}
use Rattle.view_core.specs.Stages.{head_of}
use Rattle.view_core.specs.Texts.{Stands}
use Rattle.view_core.proofs.Texts.{stands_first, stands_then, stands_rest, stands_within}
use Rattle.view_core.proofs.Leaves.{few_planes, stands_width, stands_approx, stands_exact, mode_fits}
use Rattle.view_core.proofs.Shards.{stands_shift, stands_leaves, stands_mode, stands_body, block_mode_fits}

-- one text of some stands behind those before it
pub stands_next : {X : Type 0} (text : X → List ℕ) (bytes : List ℕ) (at : ℕ) (xs : List X) (i : ℕ) (d : X) (n : ℕ) → i < length xs
    → n ≡ at + length (flat_map text (take i xs)) → Stands bytes at (flat_map text xs) → Stands bytes n (text (get_or xs i d))
stands_next {X} text bytes at xs i d n lt is s =
    let there : ℕ = at + length (flat_map text (take i xs)) in
    let rest = subst (λ (l : List X). Stands bytes there (flat_map text l)) (drop-cons xs i d lt) (stands_rest text bytes at xs i s) in
    rw is (stands_first bytes there (text (get_or xs i d)) (flat_map text (drop (suc i) xs)) rest)

-- and they are as much longer with it
pub longer_by : {X : Type 0} (text : X → List ℕ) (at : ℕ) (xs : List X) (i : ℕ) (d : X) (n : ℕ) → i < length xs
    → n ≡ at + length (flat_map text (take i xs)) → n + length (text (get_or xs i d)) ≡ at + length (flat_map text (take (i + 1) xs))
longer_by text at xs i d n lt is =
    let x = get_or xs i d in
    let more = ap length (flat_map-more text xs i x lt (get_or_default xs i d x lt)) in
    omega (arith, is, more, length-append (flat_map text (take i xs)) (text x))

pub all_texts : {X : Type 0} (text : X → List ℕ) (at : ℕ) (xs : List X) (i n : ℕ) → length xs ≤ i
    → n ≡ at + length (flat_map text (take i xs)) → n ≡ at + length (flat_map text xs)
all_texts {X} text at xs i n le is = is ∙ ap (λ (l : List X). at + length (flat_map text l)) (take_all i xs le)

-- a stage ends behind its planes
pub stage_ends : (s : Stage) (at count words : ℕ) (head : StageHead) → head ≡ head_of s at → length s.planes.columns ≡ count
    → words ≡ words_for head.starts
    → head.planes + 8 * words * count ≡ at + length (stage_text s)
stage_ends s at count words head is planes width =
    let wide : words ≡ words_for s.planes.starts = cc in
    let place : head.planes ≡ at + 5 = cc in
    let product : 8 * words_for s.planes.starts * length s.planes.columns ≡ length s.planes.columns * (8 * words_for s.planes.starts)
    = grind arith in
    rw (wide, place, ← planes) (omega (arith, product, length_stage s))

-- and within the bytes
pub stage_within : (bytes : List ℕ) (s : Stage) (at : ℕ) → Stands bytes at (stage_text s) → at + length (stage_text s) ≤ length bytes
stage_within bytes s at stands = stands_within bytes at (stage_text s) (omega (arith, length_stage s)) stands

-- a mixed text is a number of planes, an approximate stage and an exact one
pub record HoldsMixed (bytes : List ℕ) (at : ℕ) (m : MixedFields) : Type 0 where
  pub width : Stands bytes at (to_be_bytes w8 (width_of m.approx))
  pub few : width_of m.approx < 2 ^ 8
  pub approx : Stands bytes (at + 1) (approx_text m.approx)
  pub exact : Stands bytes (at + 1 + length (approx_text m.approx)) (stage_text m.exact)

pub standing_mixed : (bytes : List ℕ) (at : ℕ) (m : MixedFields) → MixedFits m → Stands bytes at (mixed_text m) → HoldsMixed bytes at m
standing_mixed bytes at m fits s = record {
  width = stands_width bytes at m s;
  few = omega (arith, few_planes m.approx fits.approx);
  approx = stands_approx bytes at m s;
  exact = stands_exact bytes at m (at + 1 + length (approx_text m.approx)) refl s;
}

-- a shard's text is a mode and a leaf
pub record HoldsShard (bytes : List ℕ) (at : ℕ) (l : Leaf) : Type 0 where
  pub mode : Stands bytes at (to_be_bytes w8 (leaf_mode l))
  pub few : leaf_mode l < 2 ^ 8
  pub leaf : Stands bytes (at + 1) (leaf_text l)

pub standing_shard : (bytes : List ℕ) (at : ℕ) (l : Leaf) → Stands bytes at (shard_leaf_text l) → HoldsShard bytes at l
standing_shard bytes at l s = record {
  mode = stands_first bytes at (to_be_bytes w8 (leaf_mode l)) (leaf_text l) s;
  few = mode_fits l;
  leaf = stands_then bytes at (to_be_bytes w8 (leaf_mode l)) (leaf_text l) (at + 1) refl s;
}

-- what stands of shards
pub record HoldsSharded (bytes : List ℕ) (at : ℕ) (s : ShardedFields) : Type 0 where
  pub shift : Stands bytes at (to_be_bytes w8 s.shift)
  pub few : s.shift < 2 ^ 8
  pub shards : Stands bytes (at + 1) (flat_map shard_leaf_text s.leaves)

pub standing_sharded : (bytes : List ℕ) (at : ℕ) (s : ShardedFields) → ShardsFit s → Stands bytes at (sharded_text s)
    → HoldsSharded bytes at s
standing_sharded bytes at s fits stands = record {
  shift = stands_shift bytes at s stands;
  few = omega (arith, fits.facts.few);
  shards = stands_leaves bytes at s stands;
}

-- a block is its issuer with the mode, and its body
pub record HoldsBlock (bytes : List ℕ) (at : ℕ) (b : Block) : Type 0 where
  pub mode : Stands bytes (at + 32) (to_be_bytes w8 (mode_of b.body))
  pub few : mode_of b.body < 2 ^ 8
  pub body : Stands bytes (at + 33) (body_text b.body)
  pub long : length (block_text b) ≡ 33 + length (body_text b.body)

pub long_block : (b : Block) → BlockFits b → length (block_text b) ≡ 33 + length (body_text b.body)
long_block b fits =
    let mode = to_be_bytes w8 (mode_of b.body) in
    omega (arith, fits.issuer, length-append b.issuer mode, length-append (b.issuer ++ mode) (body_text b.body))

pub standing_block : (bytes : List ℕ) (at : ℕ) (b : Block) → BlockFits b → Stands bytes at (block_text b) → HoldsBlock bytes at b
standing_block bytes at b fits s = record {
  mode = stands_mode bytes at (at + 32) b fits refl s;
  few = block_mode_fits b.body;
  body = stands_body bytes at b fits s;
  long = long_block b fits;
}

-- where a body ends that isn't sharded, by where leaves end
pub leaf_body_ends : (bytes : List ℕ) (at mode : ℕ) (result : Option ℕ)
    → ((l : Leaf) → LeafFits l → leaf_mode l ≡ mode → Stands bytes at (leaf_text l) → result ≡ Some (at + length (leaf_text l)))
    → mode < 3 → (b : Body) → BodyFits b → mode_of b ≡ mode → Stands bytes at (body_text b) → result ≡ Some (at + length (body_text b))
leaf_body_ends bytes at mode result ends few bodies.Clean fits is s = ends leaves.Clean tt is s
leaf_body_ends bytes at mode result ends few bodies.Every fits is s = ends leaves.Every tt is s
leaf_body_ends bytes at mode result ends few (bodies.Mixed m) fits is s = ends (leaves.Mixed m) fits is s
leaf_body_ends bytes at mode result ends few (bodies.Sharded t) fits is s = absurd (omega (arith, is))

-- and where one ends that is sharded
pub sharded_body_ends : (bytes : List ℕ) (at mode : ℕ) (result : Option ℕ)
    → ((s : ShardedFields) → ShardsFit s → Stands bytes at (sharded_text s) → result ≡ Some (at + length (sharded_text s)))
    → 3 ≤ mode → (b : Body) → BodyFits b → mode_of b ≡ mode → Stands bytes at (body_text b) → result ≡ Some (at + length (body_text b))
sharded_body_ends bytes at mode result ends few bodies.Clean fits is s = absurd (omega (arith, is))
sharded_body_ends bytes at mode result ends few bodies.Every fits is s = absurd (omega (arith, is))
sharded_body_ends bytes at mode result ends few (bodies.Mixed m) fits is s = absurd (omega (arith, is))
sharded_body_ends bytes at mode result ends few (bodies.Sharded t) fits is s = ends t fits s
