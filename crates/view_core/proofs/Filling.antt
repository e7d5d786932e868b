-- What walks over a store write, step by step.
use Rattle.std.proofs.Common.{◌≡◌, ℕ, zero, suc, ◌+◌, ◌-◌, ◌*◌, ◌<◌, ◌≤◌, ◌^◌, ◌==◌, ◌||◌, Bool, true, false, not, List, [], ◌∷◌, ◌++◌, length, get_or, take, drop, Option}
use Rattle.std.proofs.Common.{Some, None, Ok, refl, sym, ap, ◌∙◌, subst, append_assoc, add-one, length-append, arith}
use Rattle.std.specs.Prelude.{All, codes, flat_map}
use Rattle.std.specs.Int.{w8, to_be_bytes}
use Rattle.std.specs.List.{list_any}
use Rattle.std.proofs.lemmas.List.{append-nil, take_all, drop_at, drop-take, length-take}
use Rattle.octets_core.specs.Reading.{value_of}
use Rattle.octets_core.proofs.Texts.{IsBytes}
use Rattle.ident_core.specs.declared.kind.Kind.TheVariants as kinds
use Rattle.card_core.specs.declared.block.Block.{Block}
use Rattle.card_core.specs.declared.block.Body.{Body}
use Rattle.card_core.specs.declared.block.Body.TheVariants as bodies
use Rattle.card_core.specs.ShardedFields.{ShardedFields}
use Rattle.part_text.specs.SealedFields.{SealedFields}
use Rattle.part_text.specs.Fitting.{ShardsFit, BodyFits, BlockFits, Fits}
use Rattle.part_text.specs.PartLayout.{is_sharded, some_sharded}
use Rattle.part_text.specs.PartText.{shard_leaf_text, sharded_text, mode_of, version_of, body_text, block_text, spelling}
use Rattle.part_text.proofs.Lengths.{length_shard, length_sharded}
use Rattle.store_core.specs.StoreLayout.{store, store_text}
use Rattle.store_core.proofs.StoreSpelled.{found}
use Rattle.store_core.proofs.StoreChains.{store-chain}
use Rattle.view_core.specs.declared.fill.Walk.{Walk}
use Rattle.view_core.specs.declared.fill.Counts.{Counts}
use Rattle.view_core.specs.Texts.{Stands, places_of}
use Rattle.view_core.specs.Index.{blocks_at, buckets_of, part_index, parts_index, has_shards, shards_in, shards_of, shards_index, index_of}
use Rattle.view_core.specs.Filling.{Wrote, Walked}
use Rattle.view_core.specs.Standing.{AreBlocksAt}
use Rattle.view_core.proofs.BucketLaws.{length-buckets}
use Rattle.view_core.proofs.Texts.{stands_then, length-places}
use Rattle.view_core.proofs.Standing.{HoldsPart, standing_part, stands_middle, blocks_fit}
use Rattle.view_core.proofs.Endings.{longer_by, long_block}

-- ---- words

pub wrote_none : (old : List ℕ) (to : ℕ) → Wrote old old to []
wrote_none old to = record {
  same = refl;
  are = λ room. let e : to + 0 ≡ to = omega arith in rw (e, append-nil) refl;
}

-- words behind others
pub wrote_then : (old mid new : List ℕ) (to n : ℕ) (first second : List ℕ) → Wrote old mid to first → n ≡ to + length first
    → Wrote mid new n second
    → Wrote old new to (first ++ second)
wrote_then old mid new to n first second a is b =
    let all = length-append first second in
    record {
      same = b.same ∙ a.same;
      are = λ room.
          let end : to + length (first ++ second) ≡ n + length second = omega (arith, all, is) in
          ap (λ (k : ℕ). take k new) end
          ∙ b.are (omega (arith, all, is, room, a.same))
          ∙ ap (λ (k : ℕ). take k mid ++ second) is
          ∙ ap (λ (l : List ℕ). l ++ second) (a.are (omega (arith, all, room)))
          ∙ append_assoc (take to old) first second;
    }

-- they stand there then
pub wrote_stand : (old new : List ℕ) (to : ℕ) (words : List ℕ) → Wrote old new to words → to + length words ≤ length new
    → take (length words) (drop to new) ≡ words
wrote_stand old new to words wrote room =
    let front : length (take to old) ≡ to = omega (arith, length-take to old, wrote.same, room) in
    sym (drop-take to (length words) new)
    ∙ ap (drop to) (wrote.are (omega (arith, wrote.same, room)))
    ∙ drop_at (take to old) words to front

-- ---- words for items, each by its place

abbrev pub indexed : {X : Type 0} → (X → List ℕ) → (ℕ → X → List ℕ) → ℕ → List X → List ℕ
indexed text words at [] = []
indexed text words at (x ∷ xs) = words at x ++ indexed text words (at + length (text x)) xs

indexed_suc : {X : Type 0} (text : X → List ℕ) (words : ℕ → X → List ℕ) (at : ℕ) (xs : List X) (i : ℕ) (d : X) → i < length xs
    → indexed text words at (take (suc i) xs) ≡ indexed text words at (take i xs) ++ words (at + length (flat_map text (take i xs)))
    (get_or xs i d)
indexed_suc {X} text words at [] i d lt = absurd (omega arith)
indexed_suc {X} text words at (x ∷ xs) zero d lt =
    let e : at + 0 ≡ at = omega arith in
    append-nil (words at x) ∙ ap (λ (k : ℕ). words k x) (sym e)
indexed_suc {X} text words at (x ∷ xs) (suc i) d lt =
    let next : ℕ = at + length (text x) in
    let e : next + length (flat_map text (take i xs)) ≡ at + length (text x ++ flat_map text (take i xs))
    = omega (arith, length-append (text x) (flat_map text (take i xs))) in
    ap (λ (l : List ℕ). words at x ++ l) (indexed_suc text words next xs i d (omega arith))
    ∙ sym (append_assoc (words at x) (indexed text words next (take i xs))
    (words (next + length (flat_map text (take i xs))) (get_or xs i d)))
    ∙ ap (λ (k : ℕ). (words at x ++ indexed text words next (take i xs)) ++ words k (get_or xs i d)) e

pub indexed_more : {X : Type 0} (text : X → List ℕ) (words : ℕ → X → List ℕ) (at : ℕ) (xs : List X) (i : ℕ) (d : X) → i < length xs
    → indexed text words at (take (i + 1) xs) ≡ indexed text words at (take i xs) ++ words (at + length (flat_map text (take i xs)))
    (get_or xs i d)
indexed_more text words at xs i d lt = rw (add-one i) (indexed_suc text words at xs i d lt)

abbrev pub place : {X : Type 0} → ℕ → X → List ℕ
place at x = at ∷ []

pub places_indexed : {X : Type 0} (text : X → List ℕ) (at : ℕ) (xs : List X) → indexed text place at xs ≡ places_of text at xs
places_indexed text at [] = refl
places_indexed text at (x ∷ xs) = ap (λ (l : List ℕ). at ∷ l) (places_indexed text (at + length (text x)) xs)

abbrev pub part_words : ℕ → SealedFields → List ℕ
part_words at s = part_index at s.part

pub parts_indexed : (at : ℕ) (parts : List SealedFields) → indexed spelling part_words at parts ≡ parts_index at parts
parts_indexed at [] = refl
parts_indexed at (s ∷ parts) = ap (λ (l : List ℕ). part_index at s.part ++ l) (parts_indexed (at + length (spelling s)) parts)

abbrev pub block_words : ℕ → Block → List ℕ
block_words at b = shards_in at b.body

pub blocks_indexed : (at : ℕ) (blocks : List Block) → indexed block_text block_words at blocks ≡ shards_of at blocks
blocks_indexed at [] = refl
blocks_indexed at (b ∷ blocks) = ap (λ (l : List ℕ). shards_in at b.body ++ l) (blocks_indexed (at + length (block_text b)) blocks)

abbrev pub shard_words : ℕ → SealedFields → List ℕ
shard_words at s = shards_of (blocks_at at s.part) s.part.blocks

pub shards_indexed : (at : ℕ) (parts : List SealedFields) → indexed spelling shard_words at parts ≡ shards_index at parts
shards_indexed at [] = refl
shards_indexed at (s ∷ parts) = ap (λ (l : List ℕ). shard_words at s ++ l) (shards_indexed (at + length (spelling s)) parts)

-- ---- walks over items

-- behind these items, whose words it wrote
pub record Went {X : Type 0} (text : X → List ℕ) (words : ℕ → X → List ℕ) (old new : List ℕ) (from : Walk) (xs : List X)
    (walk : Walk) : Type 0 where
  pub at : walk.at ≡ from.at + length (flat_map text xs)
  pub to : walk.to ≡ from.to + length (indexed text words from.at xs)
  pub wrote : Wrote old new from.to (indexed text words from.at xs)

pub went_none : {X : Type 0} (text : X → List ℕ) (words : ℕ → X → List ℕ) (old : List ℕ) (from : Walk) (xs : List X)
    → Went text words old old from (take 0 xs) from
went_none text words old from xs = record { at = omega arith; to = omega arith; wrote = wrote_none old from.to }

-- one item more
pub went_more : {X : Type 0} (text : X → List ℕ) (words : ℕ → X → List ℕ) (old mid new : List ℕ) (from walk next : Walk) (xs : List X)
    (i : ℕ) (d : X) → i < length xs
    → Went text words old mid from (take i xs) walk
    → Walked mid new walk (length (text (get_or xs i d))) (words walk.at (get_or xs i d)) (Some next)
    → Went text words old new from (take (i + 1) xs) next
went_more {X} text words old mid new from walk next xs i d lt went one =
    let is : next ≡ record { at = walk.at + length (text (get_or xs i d)); to = walk.to + length (words walk.at (get_or xs i d)) }
    = let e = one.is in cc in
    let more = indexed_more text words from.at xs i d lt in
    let same : words walk.at (get_or xs i d) ≡ words (from.at + length (flat_map text (take i xs))) (get_or xs i d)
    = ap (λ (k : ℕ). words k (get_or xs i d)) went.at in
    let all : indexed text words from.at (take i xs) ++ words walk.at (get_or xs i d) ≡ indexed text words from.at (take (i + 1) xs)
    = ap (λ (l : List ℕ). indexed text words from.at (take i xs) ++ l) same ∙ sym more in
    record {
      at = ap (λ (w : Walk). w.at) is ∙ longer_by text from.at xs i d walk.at lt went.at;
      to = ap (λ (w : Walk). w.to) is
          ∙ (let e = length-append (indexed text words from.at (take i xs)) (words walk.at (get_or xs i d)) in
          let whole : length (indexed text words from.at (take (i + 1) xs))
          ≡ length (indexed text words from.at (take i xs)) + length (words walk.at (get_or xs i d)) = ap length (sym all) ∙ e in
          omega (arith, went.to, whole));
      wrote = subst (Wrote old new from.to) all (wrote_then old mid new from.to walk.to _ _ went.wrote went.to one.wrote);
    }

walk_is : (w : Walk) (a b : ℕ) → w.at ≡ a → w.to ≡ b → w ≡ record { at = a; to = b }
walk_is w a b p q =
    let make : ℕ → ℕ → Walk = λ x y. record { at = x; to = y } in
    ap (λ (x : ℕ). make x w.to) p ∙ ap (λ (y : ℕ). make a y) q

-- all of them
pub went_all : {X : Type 0} (text : X → List ℕ) (words : ℕ → X → List ℕ) (old new : List ℕ) (from walk : Walk) (xs : List X) (i : ℕ)
    (all : List ℕ) → length xs ≤ i
    → indexed text words from.at xs ≡ all → Went text words old new from (take i xs) walk
    → Walked old new from (length (flat_map text xs)) all (Some walk)
went_all {X} text words old new from walk xs i all le is went =
    let whole : Went text words old new from xs walk
    = subst (λ (l : List X). Went text words old new from l walk) (take_all i xs le) went in
    let to : walk.to ≡ from.to + length all = whole.to ∙ ap (λ (l : List ℕ). from.to + length l) is in
    record { is = ap Some (walk_is walk _ _ whole.at to); wrote = subst (Wrote old new from.to) is whole.wrote }

-- one place more, and behind what begins there
pub placed : {X : Type 0} (text : X → List ℕ) (old new : List ℕ) (walk next : Walk) (x : X) (end : ℕ)
    → next ≡ record { at = end; to = walk.to + 1 }
    → Some end ≡ Some (walk.at + length (text x)) → Wrote old new walk.to (walk.at ∷ [])
    → Walked old new walk (length (text x)) (place walk.at x) (Some next)
placed text old new walk next x end is ends wrote =
    let there : end ≡ walk.at + length (text x) = cc in
    record { is = ap Some (walk_is next _ _ (ap (λ (w : Walk). w.at) is ∙ there) (ap (λ (w : Walk). w.to) is)); wrote = wrote }

-- ---- items that stand where a list has none

abbrev pub no_block : Block
no_block = record { issuer = []; body = bodies.Clean }

abbrev pub no_part : SealedFields
no_part = record {
  part = record { head = record { kind = kinds.Snapshot; epoch = 0; parent = []; ranges = [] }; blocks = [] };
  trailer = [];
}

-- ---- parts

-- what a part tells of itself
pub record AreCounts (at : ℕ) (s : SealedFields) (counts : Counts) : Type 0 where
  pub ranges : counts.ranges ≡ length s.part.head.ranges
  pub blocks : length s.part.blocks ≡ counts.blocks
  pub first : counts.first ≡ blocks_at at s.part

pub are_counts : (at : ℕ) (s : SealedFields) (counts : Counts)
    → Some counts ≡ Some record { ranges = length s.part.head.ranges; blocks = length s.part.blocks; first = blocks_at at s.part }
    → AreCounts at s counts
are_counts at s counts some =
    let is : counts ≡ record { ranges = length s.part.head.ranges; blocks = length s.part.blocks; first = blocks_at at s.part } = cc in
    record {
      ranges = ap (λ (k : Counts). k.ranges) is;
      blocks = sym (ap (λ (k : Counts). k.blocks) is);
      first = ap (λ (k : Counts). k.first) is;
    }

-- behind its blocks and its trailer a part ends
pub part_ends : (store mid new : List ℕ) (from start walk : Walk) (s : SealedFields) (words : List ℕ) (result : Option Walk)
    → HoldsPart store from.at s
    → start.at ≡ blocks_at from.at s.part → Walked mid new start (length (flat_map block_text s.part.blocks)) words (Some walk)
    → (walk.at + 32 ≤ length store → result ≡ Some record { at = walk.at + 32; to = walk.to })
    → result ≡ Some record { at = from.at + length (spelling s); to = start.to + length words }
part_ends store mid new from start walk s words result holds begins walked behind =
    let is : walk ≡ record { at = start.at + length (flat_map block_text s.part.blocks); to = start.to + length words }
    = let e = walked.is in cc in
    let at : walk.at + 32 ≡ from.at + length (spelling s) = omega (arith, ap (λ (w : Walk). w.at) is, begins, holds.long) in
    let there = behind (omega (arith, at, holds.within)) in
    there ∙ ap Some (walk_is record { at = walk.at + 32; to = walk.to } _ _ at (ap (λ (w : Walk). w.to) is))

-- the places that a walk over blocks wrote
pub are_placed : (store old new : List ℕ) (from walk : Walk) (s : SealedFields) (count : ℕ) → Fits s
    → Stands store from.at (flat_map block_text s.part.blocks) → length s.part.blocks ≡ count
    → Walked old new from (length (flat_map block_text s.part.blocks)) (places_of block_text from.at s.part.blocks) (Some walk)
    → from.to + count ≤ length new → AreBlocksAt store from.at (take count (drop from.to new)) s.part.blocks
are_placed store old new from walk s count fits stands many walked room =
    let places : List ℕ = places_of block_text from.at s.part.blocks in
    let long : length places ≡ count = length-places block_text from.at s.part.blocks ∙ many in
    record {
      fit = fits.part.blocks;
      places_are = ap (λ (n : ℕ). take n (drop from.to new)) (sym long)
          ∙ wrote_stand old new from.to places walked.wrote (omega (arith, long, room));
      text = stands;
    }

-- behind them the table
pub table_walked : (old mid new : List ℕ) (from walk : Walk) (width count : ℕ) (words table : List ℕ)
    → Walked old mid from width words (Some walk) → length words ≡ count → length table ≡ count → Wrote mid new (from.to + count) table
    → Walked old new from width (words ++ table) (Some record { at = walk.at; to = walk.to + count })
table_walked old mid new from walk width count words table walked many wide wrote =
    let is : walk ≡ record { at = from.at + width; to = from.to + length words } = let e = walked.is in cc in
    let to : walk.to + count ≡ from.to + length (words ++ table)
    = omega (arith, ap (λ (w : Walk). w.to) is, wide, length-append words table) in
    record {
      is = ap Some (walk_is record { at = walk.at; to = walk.to + count } _ _ (ap (λ (w : Walk). w.at) is) to);
      wrote = wrote_then old mid new from.to (from.to + count) words table walked.wrote (omega (arith, many)) wrote;
    }

pub part_walked : (store old one two three new : List ℕ) (from walk : Walk) (s : SealedFields) (counts : Counts) (ranges : ℕ)
    (result : Option Walk)
    → HoldsPart store from.at s → AreCounts from.at s counts → ranges ≡ counts.ranges
    → Wrote old one from.to (ranges ∷ []) → Wrote one two (from.to + 1) ((from.at + 52) ∷ [])
    → Wrote two three (from.to + 2) (counts.blocks ∷ [])
    → Walked three new (record { at = counts.first; to = from.to + 3 }) (length (flat_map block_text s.part.blocks))
    (places_of block_text counts.first s.part.blocks ++ buckets_of s.part.blocks) (Some walk)
    → (walk.at + 32 ≤ length store → result ≡ Some record { at = walk.at + 32; to = walk.to })
    → Walked old new from (length (spelling s)) (part_index from.at s.part) result
part_walked store old one two three new from walk s counts ranges result holds are same first second third walked behind =
    let table : List ℕ = buckets_of s.part.blocks in
    let places : List ℕ = places_of block_text counts.first s.part.blocks ++ table in
    let start : Walk = record { at = counts.first; to = from.to + 3 } in
    let wrote = wrote_then old three new from.to (from.to + 3) _ places
    (wrote_then old two three from.to (from.to + 2) _ _ (wrote_then old one two from.to (from.to + 1) _ _ first (omega arith) second)
    (omega arith) third)
    (omega arith) walked.wrote in
    let words : ranges ∷ (from.at + 52) ∷ counts.blocks ∷ places ≡ part_index from.at s.part =
    ap (λ (n : ℕ). n ∷ (from.at + 52) ∷ counts.blocks ∷ places) (same ∙ are.ranges)
    ∙ ap (λ (n : ℕ). length s.part.head.ranges ∷ (from.at + 52) ∷ n ∷ places) (sym are.blocks)
    ∙ ap (λ (n : ℕ). length s.part.head.ranges ∷ (from.at + 52) ∷ length s.part.blocks ∷ places_of block_text n s.part.blocks ++ table) are.first in
    let to : from.to + 3 + length places ≡ from.to + length (part_index from.at s.part) = omega (arith, ap length words) in
    record {
      is = part_ends store three new from start walk s places result holds are.first walked behind
          ∙ ap (λ (n : ℕ). let w : Walk = record { at = from.at + length (spelling s); to = n } in Some w) to;
      wrote = subst (Wrote old new from.to) words wrote;
    }

pub shards_walked : (store old new : List ℕ) (from walk : Walk) (s : SealedFields) (counts : Counts) (result : Option Walk)
    → HoldsPart store from.at s → AreCounts from.at s counts
    → Walked old new (record { at = counts.first; to = from.to }) (length (flat_map block_text s.part.blocks))
    (shards_of counts.first s.part.blocks) (Some walk)
    → (walk.at + 32 ≤ length store → result ≡ Some record { at = walk.at + 32; to = walk.to })
    → Walked old new from (length (spelling s)) (shards_of (blocks_at from.at s.part) s.part.blocks) result
shards_walked store old new from walk s counts result holds are walked behind =
    let start : Walk = record { at = counts.first; to = from.to } in
    let is = part_ends store old new from start walk s (shards_of counts.first s.part.blocks) result holds are.first walked behind in
    let all : Walked old new from (length (spelling s)) (shards_of counts.first s.part.blocks) result
    = record { is = is; wrote = walked.wrote } in
    subst (λ (n : ℕ). Walked old new from (length (spelling s)) (shards_of n s.part.blocks) result) are.first all

-- ---- blocks

no_shards : (at : ℕ) (body : Body) → mode_of body < 3 → shards_in at body ≡ []
no_shards at bodies.Clean few = refl
no_shards at bodies.Every few = refl
no_shards at (bodies.Mixed m) few = refl
no_shards at (bodies.Sharded s) few = absurd (omega arith)

pub plain_walked : (old : List ℕ) (from : Walk) (b : Block) (end : ℕ) → mode_of b.body < 3
    → Some end ≡ Some (from.at + length (block_text b))
    → Walked old old from (length (block_text b)) (shards_in from.at b.body) (Some record { at = end; to = from.to })
plain_walked old from b end few ends =
    let none = sym (no_shards from.at b.body few) in
    let there : end ≡ from.at + length (block_text b) = cc in
    let all : Walked old old from (length (block_text b)) [] (Some record { at = end; to = from.to }) = record {
      is = ap Some (walk_is record { at = end; to = from.to } _ _ there (omega arith));
      wrote = wrote_none old from.to;
    } in
    subst (λ (l : List ℕ). Walked old old from (length (block_text b)) l (Some record { at = end; to = from.to })) none all

pub sharded_walked : (store old new : List ℕ) (from : Walk) (body : Body) (width : ℕ) (result : Option Walk)
    → width ≡ 33 + length (body_text body)
    → BodyFits body → Stands store (from.at + 33) (body_text body) → 3 ≤ mode_of body
    → ((s : ShardedFields) → ShardsFit s → Stands store (from.at + 33) (sharded_text s)
    → Walked old new (record { at = from.at + 33 + 1; to = from.to }) (length (flat_map shard_leaf_text s.leaves))
    (places_of shard_leaf_text (from.at + 33 + 1) s.leaves) result)
    → Walked old new from width (shards_in from.at body) result
sharded_walked store old new from bodies.Clean width result long fits stands many each = absurd (omega arith)
sharded_walked store old new from bodies.Every width result long fits stands many each = absurd (omega arith)
sharded_walked store old new from (bodies.Mixed m) width result long fits stands many each = absurd (omega arith)
sharded_walked store old new from (bodies.Sharded s) width result long fits stands many each =
    let walked = each s fits stands in
    let at : from.at + 33 + 1 + length (flat_map shard_leaf_text s.leaves) ≡ from.at + width = omega (arith, long, length_sharded s) in
    record {
      is = let to : ℕ = from.to + length (places_of shard_leaf_text (from.at + 33 + 1) s.leaves) in
          walked.is ∙ ap (λ (n : ℕ). let w : Walk = record { at = n; to = to } in Some w) at;
      wrote = walked.wrote;
    }

-- ---- how many words there are: no more than bytes

indexed_short : {X : Type 0} (text : X → List ℕ) (words : ℕ → X → List ℕ) (P : X → Type 0)
    → ((at : ℕ) (x : X) → P x → length (words at x) ≤ length (text x))
    → (at : ℕ) (xs : List X) → All P xs → length (indexed text words at xs) ≤ length (flat_map text xs)
indexed_short text words P short at [] all = omega arith
indexed_short text words P short at (x ∷ xs) all =
    let next : ℕ = at + length (text x) in
    let rest = indexed_short text words P short next xs (λ k d lt. all (suc k) d (omega arith)) in
    omega (
      arith,
      short at x (all 0 x (omega arith)),
      rest,
      length-append (words at x) (indexed text words next xs),
      length-append (text x) (flat_map text xs),
    )

shards_short : (at : ℕ) (body : Body) → length (shards_in at body) ≤ length (body_text body)
shards_short at bodies.Clean = omega arith
shards_short at bodies.Every = omega arith
shards_short at (bodies.Mixed m) = omega arith
shards_short at (bodies.Sharded s) =
    let first : ℕ = at + 33 + 1 in
    let each = indexed_short shard_leaf_text place (λ l. Unit {0}) (λ n l u. omega (arith, length_shard l)) first s.leaves (λ k d lt. tt) in
    omega (arith, each, ap length (places_indexed shard_leaf_text first s.leaves), length_sharded s)

-- the length of a part by those of its blocks
long_part : (s : SealedFields) → Fits s
    → length (spelling s) ≡ 88 + 48 * length s.part.head.ranges + length (flat_map block_text s.part.blocks)
long_part s fits =
    let holds = standing_part (spelling s) 0 s fits (record { behind = []; is = sym (append-nil (spelling s)) }) in
    omega (arith, holds.long)

blocks_short : (blocks : List Block) → All BlockFits blocks → 2 * length blocks ≤ length (flat_map block_text blocks)
blocks_short [] all = omega arith
blocks_short (b ∷ blocks) all =
    omega (
      arith,
      long_block b (all 0 b (omega arith)),
      blocks_short blocks (λ k d lt. all (suc k) d (omega arith)),
      length-append (block_text b) (flat_map block_text blocks),
    )

part_short : (at : ℕ) (s : SealedFields) → Fits s → length (part_words at s) ≤ length (spelling s)
part_short at s fits =
    let blocks : List Block = s.part.blocks in
    let places : List ℕ = places_of block_text (blocks_at at s.part) blocks in
    omega (
      arith,
      blocks_short blocks (blocks_fit None blocks fits.part.blocks),
      length-places block_text (blocks_at at s.part) blocks,
      length-buckets blocks,
      length-append places (buckets_of blocks),
      long_part s fits,
    )

shard_short : (at : ℕ) (s : SealedFields) → Fits s → length (shard_words at s) ≤ length (spelling s)
shard_short at s fits =
    let first : ℕ = blocks_at at s.part in
    let each = indexed_short block_text block_words (λ b. BlockFits b)
    (λ n b fits. omega (arith, long_block b fits, shards_short n b.body)) first s.part.blocks
    (blocks_fit None s.part.blocks fits.part.blocks) in
    omega (arith, each, ap length (blocks_indexed first s.part.blocks), long_part s fits)

-- where it stands then
pub stood : (old new : List ℕ) (from walk : Walk) (width : ℕ) (words : List ℕ) → Walked old new from width words (Some walk)
    → walk.at ≡ from.at + width
stood old new from walk width words walked =
    let is : walk ≡ record { at = from.at + width; to = from.to + length words } = let e = walked.is in cc in
    ap (λ (w : Walk). w.at) is

-- ---- none where no block is sharded

no_shards_in : (at : ℕ) (body : Body) → is_sharded body ≡ false → shards_in at body ≡ []
no_shards_in at bodies.Clean e = refl
no_shards_in at bodies.Every e = refl
no_shards_in at (bodies.Mixed m) e = refl
no_shards_in at (bodies.Sharded s) e = absurd cc

none_of_both : (a b : Bool) → (a || b) ≡ false → (a ≡ false) × (b ≡ false)
none_of_both true b e = absurd cc
none_of_both false b e = (refl, e)

no_shards_of : (at : ℕ) (blocks : List Block) → some_sharded blocks ≡ false → shards_of at blocks ≡ []
no_shards_of at [] e = refl
no_shards_of at (b ∷ blocks) e =
    let both = none_of_both (is_sharded b.body) (some_sharded blocks) e in
    ap (λ (l : List ℕ). l ++ shards_of (at + length (block_text b)) blocks) (no_shards_in at b.body both.0)
    ∙ no_shards_of (at + length (block_text b)) blocks both.1

no_shards_index : (at : ℕ) (parts : List SealedFields) → list_any has_shards parts ≡ false → shards_index at parts ≡ []
no_shards_index at [] e = refl
no_shards_index at (s ∷ parts) e =
    let both = none_of_both (has_shards s) (list_any has_shards parts) e in
    ap (λ (l : List ℕ). l ++ shards_index (at + length (spelling s)) parts) (no_shards_of (blocks_at at s.part) s.part.blocks both.0)
    ∙ no_shards_index (at + length (spelling s)) parts both.1

-- then a walk that stands behind the parts has nothing to write
pub unsharded : (index : List ℕ) (parts : List SealedFields) (walk : Walk) (sharded : Bool) → walk.at ≡ 10 + length (flat_map spelling parts)
    → sharded ≡ list_any has_shards parts → not sharded ≡ true
    → Walked index index (record { at = 10; to = walk.to }) (length (flat_map spelling parts)) (shards_index 10 parts) (Some walk)
unsharded index parts walk true at told e = absurd cc
unsharded index parts walk false at told e =
    subst (λ (l : List ℕ). Walked index index (record { at = 10; to = walk.to }) (length (flat_map spelling parts)) l (Some walk))
    (sym (no_shards_index 10 parts (sym told)))
    (record { is = ap Some (walk_is walk _ _ at (omega arith)); wrote = wrote_none index walk.to })

-- the version tells whether a block is sharded
pub version_tells : (blocks : List Block) (n : ℕ) → n ≡ version_of blocks → (n == 2) ≡ some_sharded blocks
version_tells blocks n is = ap (λ (m : ℕ). m == 2) is ∙ by (some_sharded blocks) refl
  where
    by : (b : Bool) → some_sharded blocks ≡ b → (version_of blocks == 2) ≡ some_sharded blocks
    by true e = rw e refl
    by false e = rw e refl

pub few_versions : (blocks : List Block) → version_of blocks < 2 ^ 8
few_versions blocks = by (some_sharded blocks) refl
  where
    by : (b : Bool) → some_sharded blocks ≡ b → version_of blocks < 2 ^ 8
    by true e = rw e (omega arith)
    by false e = rw e (omega arith)

-- ---- a store

pub record HoldsStore (bytes : List ℕ) (parts : List SealedFields) : Type 0 where
  pub count : Stands bytes 9 (to_be_bytes w8 (length parts))
  pub few : length parts < 2 ^ 8
  pub texts : Stands bytes 10 (flat_map spelling parts)
  pub all_fit : All Fits parts
  pub long : length bytes ≡ 10 + length (flat_map spelling parts)

spelled_store : (bytes : List ℕ) (parts : List SealedFields) → bytes ≡ store_text parts → length parts ≤ 64 → All Fits parts
    → HoldsStore bytes parts
unfolding store_text
spelled_store bytes parts is few fits =
    let front = codes "CLUBSTOR" ++ to_be_bytes w8 1 in
    let count = to_be_bytes w8 (length parts) in
    let rest = flat_map spelling parts in
    let whole : Stands bytes 0 (front ++ count ++ rest) = record { behind = []; is = is ∙ sym (append-nil (front ++ count ++ rest)) } in
    record {
      count = stands_middle bytes 0 front count rest 9 refl whole;
      few = omega (arith, few);
      texts = stands_then bytes 0 (front ++ count) rest 10 refl whole;
      all_fit = fits;
      long = ap length is ∙ length-append (front ++ count) rest;
    }

pub standing_store : (bytes : List ℕ) (parts : List SealedFields) → IsBytes bytes → value_of (store bytes 0) ≡ Ok parts
    → HoldsStore bytes parts
standing_store bytes parts fits read =
    let held = found bytes parts (store bytes 0) fits refl read in
    let kept = store-chain bytes parts read in
    spelled_store bytes parts held.0 (omega (arith, kept.few)) held.1

-- both walks
pub record AreWalked (old new : List ℕ) (parts : List SealedFields) (first second : Walk) : Type 0 where
  pub first_to : first.to ≡ 2 + length (parts_index 10 parts)
  pub second_to : second.to ≡ first.to + length (shards_index 10 parts)
  pub few_parts : first.to - 2 < 2 ^ 32
  pub few_shards : second.to - first.to < 2 ^ 32
  pub wrote : Wrote old new 2 (parts_index 10 parts ++ shards_index 10 parts)

pub are_walked : (bytes old mid new : List ℕ) (parts : List SealedFields) (first second : Walk) → HoldsStore bytes parts
    → length bytes < 2 ^ 32
    → Walked old mid (record { at = 10; to = 2 }) (length (flat_map spelling parts)) (parts_index 10 parts) (Some first)
    → Walked mid new (record { at = 10; to = first.to }) (length (flat_map spelling parts)) (shards_index 10 parts) (Some second)
    → AreWalked old new parts first second
are_walked bytes old mid new parts first second holds few a b =
    let one : first ≡ record { at = 10 + length (flat_map spelling parts); to = 2 + length (parts_index 10 parts) } = let e = a.is in cc in
    let two : second ≡ record { at = 10 + length (flat_map spelling parts); to = first.to + length (shards_index 10 parts) }
    = let e = b.is in cc in
    let to : first.to ≡ 2 + length (parts_index 10 parts) = ap (λ (w : Walk). w.to) one in
    let next : second.to ≡ first.to + length (shards_index 10 parts) = ap (λ (w : Walk). w.to) two in
    let short = indexed_short spelling part_words (λ s. Fits s) part_short 10 parts holds.all_fit in
    let shorter = indexed_short spelling shard_words (λ s. Fits s) shard_short 10 parts holds.all_fit in
    record {
      first_to = to;
      second_to = next;
      few_parts = omega (arith, to, few, holds.long, short, ap length (parts_indexed 10 parts));
      few_shards = omega (arith, next, few, holds.long, shorter, ap length (shards_indexed 10 parts));
      wrote = wrote_then old mid new 2 first.to (parts_index 10 parts) (shards_index 10 parts) a.wrote to b.wrote;
    }

pub index_is_long : (old new : List ℕ) (parts : List SealedFields) (first second : Walk) → AreWalked old new parts first second
    → second.to ≡ length (index_of parts)
index_is_long old new parts first second are =
    omega (arith, are.first_to, are.second_to, length-append (parts_index 10 parts) (shards_index 10 parts))

-- with both counts before them the words are the index
pub index_stands : (old mid new : List ℕ) (parts : List SealedFields) (first second : Walk) → AreWalked old mid parts first second
    → (2 ≤ length mid → new ≡ (first.to - 2) ∷ (second.to - first.to) ∷ drop 2 mid) → length (index_of parts) ≤ length old
    → take (length (index_of parts)) new ≡ index_of parts
index_stands old mid new parts first second are counted room =
    let words : List ℕ = parts_index 10 parts ++ shards_index 10 parts in
    let one : first.to - 2 ≡ length (parts_index 10 parts) = omega (arith, are.first_to) in
    let two : second.to - first.to ≡ length (shards_index 10 parts) = omega (arith, are.second_to) in
    let is = counted (omega (arith, are.wrote.same, room)) in
    ap (take (suc (suc (length words)))) is
    ∙ ap (λ (l : List ℕ). (first.to - 2) ∷ (second.to - first.to) ∷ l) (wrote_stand old mid 2 words are.wrote (omega (arith, are.wrote.same, room)))
    ∙ ap (λ (n : ℕ). n ∷ (second.to - first.to) ∷ words) one
    ∙ ap (λ (n : ℕ). length (parts_index 10 parts) ∷ n ∷ words) two
