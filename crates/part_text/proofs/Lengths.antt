-- How many bytes texts have.
use Rattle.std.proofs.Math.Pow.{pow_mono}
use Rattle.std.proofs.Common.{◌≡◌, ℕ, suc, ◌+◌, ◌*◌, ◌^◌, ◌<◌, ◌≤◌, List, [], ◌∷◌, ◌++◌, length, take, get_or, ap, length-append, arith}
use Rattle.std.specs.Prelude.{flat_map}
use Rattle.std.specs.Int.{w8, w32, to_be_bytes}
use Rattle.octets_core.proofs.Loops.{flat_map-more}
use Rattle.equation_core.specs.Sizes.{words_for}
use Rattle.card_core.specs.declared.stage.Stage.{Stage}
use Rattle.card_core.specs.declared.leaf.Leaf.{Leaf}
use Rattle.card_core.specs.MixedFields.{MixedFields}
use Rattle.card_core.specs.ShardedFields.{ShardedFields, IsSharded}
use Rattle.part_text.specs.PlaneBytes.{bytes_of_columns}
use Rattle.part_text.specs.PartText.{planes_text, stage_text, width_of, approx_text, mixed_text, leaf_mode, leaf_text, shard_leaf_text, sharded_text}
use Rattle.part_text.proofs.PlaneBytes.{length-bytes}

length-planes : (n : ℕ) (columns : List ℕ) → length (flat_map (bytes_of_columns n) columns) ≡ length columns * (8 * n)
length-planes n [] = omega arith
length-planes n (Z ∷ columns) =
    let e : suc (length columns) * (8 * n) ≡ 8 * n + length columns * (8 * n) = grind arith in
    omega (arith, e, length-append (bytes_of_columns n Z) (flat_map (bytes_of_columns n) columns), length-bytes n Z, length-planes n columns)

pub length_stage : (s : Stage) → length (stage_text s) ≡ 5 + length s.planes.columns * (8 * words_for s.planes.starts)
unfolding stage_text planes_text
length_stage s =
    let planes : List ℕ = flat_map (bytes_of_columns (words_for s.planes.starts)) s.planes.columns in
    omega (
      arith,
      length-append (to_be_bytes w8 s.seed) (to_be_bytes w32 s.planes.starts ++ planes),
      length-append (to_be_bytes w32 s.planes.starts) planes,
      length-planes (words_for s.planes.starts) s.planes.columns,
    )

pub length_mixed : (m : MixedFields) → length (mixed_text m) ≡ 1 + length (approx_text m.approx) + length (stage_text m.exact)
unfolding mixed_text
length_mixed m =
    omega (arith, length-append (to_be_bytes w8 (width_of m.approx) ++ approx_text m.approx) (stage_text m.exact), length-append (to_be_bytes w8 (width_of m.approx)) (approx_text m.approx))

pub length_shard : (l : Leaf) → length (shard_leaf_text l) ≡ 1 + length (leaf_text l)
length_shard l = omega (arith, length-append (to_be_bytes w8 (leaf_mode l)) (leaf_text l))

pub length_sharded : (s : ShardedFields) → length (sharded_text s) ≡ 1 + length (flat_map shard_leaf_text s.leaves)
unfolding sharded_text
length_sharded s = omega (arith, length-append (to_be_bytes w8 s.shift) (flat_map shard_leaf_text s.leaves))

pub few_shards : (s : ShardedFields) → IsSharded s → length s.leaves ≤ 256
few_shards s facts =
    let most : 2 ^ s.shift ≤ 2 ^ 8 = pow_mono facts.few in
    omega (arith, facts.count, most)

-- one item more
pub longer : {X : Type 0} (text : X → List ℕ) (xs : List X) (i : ℕ) (x : X) (len one : ℕ) → i < length xs → x ≡ get_or xs i x
    → len ≡ length (flat_map text (take i xs)) → one ≡ length (text x) → len + one ≡ length (flat_map text (take (i + 1) xs))
longer text xs i x len one lt is so_far more =
    omega (arith, so_far, more, ap length (flat_map-more text xs i x lt is), length-append (flat_map text (take i xs)) (text x))
