-- The index of a store: where its parts' ranges, blocks and shards begin, as offsets from the store's first byte.
use Rattle.std.specs.Prelude.{ℕ, Bool, ◌+◌, ◌*◌, ◌/◌, ◌^◌, List, [], ◌∷◌, ◌++◌, length, map, take, count_by, nat_lt}
use Rattle.std.specs.List.{range_with_len}
use Rattle.octets_core.specs.Numbers.{number}
use Rattle.ident_core.specs.declared.layout.TheConstants.{RANGE_BYTES}
use Rattle.card_core.specs.declared.block.Block.{Block}
use Rattle.card_core.specs.declared.block.Body.{Body}
use Rattle.card_core.specs.declared.block.Body.TheVariants as bodies
use Rattle.card_core.specs.PartFields.{PartFields}
use Rattle.part_text.specs.SealedFields.{SealedFields}
use Rattle.part_text.specs.PartLayout.{some_sharded}
use Rattle.part_text.specs.PartText.{shard_leaf_text, block_text, spelling}
use Rattle.view_core.specs.Texts.{places_of}
use Rattle.view_core.specs.declared.layout.TheConstants.{STORE_HEAD, PART_HEAD, COUNT, BLOCK_HEAD}

-- the ranges of a part that begins at this place, and its blocks
abbrev pub ranges_at : ℕ → ℕ
ranges_at at = at + PART_HEAD

abbrev pub blocks_at : ℕ → PartFields → ℕ
blocks_at at p = ranges_at at + RANGE_BYTES * length p.head.ranges + COUNT

-- the bucket of a key, of so many that share the keys in order, by the number of its first eight octets
abbrev pub bucket_in : ℕ → List ℕ → ℕ
bucket_in count key = number (take 8 key) * count / 2 ^ 64

-- how many blocks have an issuer of a bucket before this one, of so many
abbrev pub before_bucket : ℕ → List Block → ℕ → ℕ
before_bucket count blocks bucket = count_by (λ b. nat_lt (bucket_in count b.issuer) bucket) blocks

-- the same before each bucket, of as many as there are blocks
abbrev pub buckets_of : List Block → List ℕ
buckets_of blocks = map (before_bucket (length blocks) blocks) (range_with_len 0 (length blocks))

-- of a part that begins at this place: how many ranges, where they begin, how many blocks, where each begins, and the
-- table of buckets
abbrev pub part_index : ℕ → PartFields → List ℕ
part_index at p =
    length p.head.ranges ∷ ranges_at at ∷ length p.blocks ∷ places_of block_text (blocks_at at p) p.blocks ++ buckets_of p.blocks

-- of parts one after the other
abbrev pub parts_index : ℕ → List SealedFields → List ℕ
parts_index at [] = []
parts_index at (s ∷ parts) = part_index at s.part ++ parts_index (at + length (spelling s)) parts

-- where the shards of a block begin whose issuer stands at this place; none, if it isn't sharded
abbrev pub shards_in : ℕ → Body → List ℕ
shards_in at bodies.Clean = []
shards_in at bodies.Every = []
shards_in at (bodies.Mixed m) = []
shards_in at (bodies.Sharded s) = places_of shard_leaf_text (at + BLOCK_HEAD + 1) s.leaves

abbrev pub shards_of : ℕ → List Block → List ℕ
shards_of at [] = []
shards_of at (b ∷ blocks) = shards_in at b.body ++ shards_of (at + length (block_text b)) blocks

abbrev pub shards_index : ℕ → List SealedFields → List ℕ
shards_index at [] = []
shards_index at (s ∷ parts) = shards_of (blocks_at at s.part) s.part.blocks ++ shards_index (at + length (spelling s)) parts

-- whether a block of a part is sharded
abbrev pub has_shards : SealedFields → Bool
has_shards s = some_sharded s.part.blocks

-- how many words tell of parts and how many of shards, each part's index, and where the shards of all parts begin
abbrev pub index_of : List SealedFields → List ℕ
index_of parts =
    length (parts_index STORE_HEAD parts) ∷ length (shards_index STORE_HEAD parts)
    ∷ parts_index STORE_HEAD parts ++ shards_index STORE_HEAD parts
