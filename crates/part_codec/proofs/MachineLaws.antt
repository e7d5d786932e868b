-- What is left to read, field by field.
use Rattle.std.proofs.Common.{◌≡◌, ℕ, zero, suc, ◌+◌, ◌-◌, ◌*◌, ◌^◌, ◌≤◌, ◌<◌, Bool, true, false, lt-ltb, List, []}
use Rattle.std.specs.Prelude.{◌==◌, ◌||◌}
use Rattle.std.proofs.Common.{◌∷◌, ◌++◌, length, take, Option, Some, None, Result, Ok, Err, refl, sym, ap, ◌∙◌, append_assoc, arith}
use Rattle.std.specs.Prelude.{codes}
use Rattle.std.specs.Int.{Width, w8, w16, w32, w64, byte_len, from_be_bytes}
use Rattle.std.specs.Str.{bytes_eq}
use Rattle.std.proofs.lemmas.Bool.{le-ltb}
use Rattle.std.proofs.lemmas.Nat.{pow_pos}
use Rattle.std.proofs.lemmas.List.{append-nil}
use Rattle.sha2.specs.Sha256.{sha256}
use Rattle.octets_core.specs.Linked.{is_after}
use Rattle.octets_core.specs.Position.{piece}
use Rattle.octets_core.specs.Layout.{Layout, then_read, ◌>>=◌, whole, within, bytes_field, number_field, sum_field, repeated}
use Rattle.octets_core.specs.Reading.{fault_at, number, key, magic, digest}
use Rattle.octets_core.specs.declared.field.Field.{Field}
use Rattle.octets_core.specs.declared.field.Field.TheVariants as fields
use Rattle.octets_core.specs.declared.fault.LayoutFault.{LayoutFault}
use Rattle.octets_core.specs.declared.fault.Why.TheVariants as why
use Rattle.equation_core.specs.declared.hash.TheConstants.{MAX_PLANES}
use Rattle.equation_core.specs.declared.shards.TheConstants.{MAX_SHIFT}
use Rattle.equation_core.specs.declared.sizes.TheConstants.{MAX_STARTS}
use Rattle.equation_core.specs.Sizes.{words_for}
use Rattle.ident_core.specs.declared.bounds.TheConstants.{MAX_RANGES}
use Rattle.ribbon_core.specs.PlaneWords.{PlaneColumns}
use Rattle.ident_core.specs.declared.range.Range.{Range}
use Rattle.ident_core.specs.RangeLayout.{range}
use Rattle.ident_core.specs.HeadFields.{HeadFields}
use Rattle.card_core.specs.declared.block.Block.{Block}
use Rattle.card_core.specs.declared.block.Body.{Body}
use Rattle.card_core.specs.declared.block.Body.TheVariants as bodies
use Rattle.card_core.specs.declared.leaf.Leaf.{Leaf}
use Rattle.card_core.specs.declared.leaf.Leaf.TheVariants as leaves_of
use Rattle.card_core.specs.declared.part.TheConstants.{MAX_BLOCKS}
use Rattle.card_core.specs.Filter.{as_body}
use Rattle.card_core.specs.declared.stage.Stage.{Stage}
use Rattle.card_core.specs.MixedFields.{MixedFields}
use Rattle.card_core.specs.ShardedFields.{ShardedFields}
use Rattle.card_core.specs.PartFields.{PartFields}
use Rattle.part_text.specs.PlaneBytes.{columns_of_bytes, is_padded}
use Rattle.part_codec.specs.declared.fields.Kept.{Kept}
use Rattle.part_codec.specs.declared.fields.Open.{Open}
use Rattle.part_codec.specs.declared.fields.Open.TheVariants as opens
use Rattle.part_text.specs.PartLayout.{is_parent, head, plane_bytes, plane, columns, planes, approx_stage, approx, exact, mixed, leaf, shard, shards, sharded}
use Rattle.part_text.specs.PartLayout.{body_of, greatest_mode, block, blocks, some_sharded, sharded_test, unsealed, sealed}
use Rattle.part_codec.specs.Remaining.{Seen, sealed_of, with_range, with_block, with_shard, shards_of, with_leaf, column_of, with_plane, with_approx, mixed_of, kept_range}
use Rattle.part_codec.specs.Remaining.{kept_ranges, kept_issuers, next_log, next_issuer, Rest, at_trailer, at_blocks}
use Rattle.part_codec.specs.Remaining.{at_exact_plane, at_exact_starts, at_exact_seed, at_approx_planes, at_approx_plane, at_approx_starts}
use Rattle.part_codec.specs.Remaining.{at_approx_seed, at_approx, at_k, at_mode, at_issuer, at_issuers, at_ranges, at_range_to}
use Rattle.part_codec.specs.Remaining.{at_range_from, at_range_log, at_count, at_parent, at_epoch, at_kind, at_version, at_magic}
use Rattle.part_codec.specs.Remaining.{rest, kept_mode, kept_leaf_mode, kept_shift, previous, kept_leaves, after_body, after_shard, by_shift, after_leaf}
use Rattle.part_codec.specs.Remaining.{at_leaf, at_body, at_shards, at_shard_mode, at_shift, at_sharded}
use Rattle.part_codec.specs.Stepping.{width_of, passes, seen_mode, seen_leaf_mode, kept_after, open_range, open_block, open_mode, open_approx}
use Rattle.part_codec.specs.Stepping.{open_plane, open_after, seen_after, name_of, wrong_of, IsOpen, Counts, open_leaf}

-- ---- one after the other, regrouped

assoc-read : {E A B C : Type 0} (r : Result (A × ℕ) E) (f : A → Layout E B) (g : B → Layout E C) (bytes : List ℕ) → then_read (then_read r f bytes) g bytes ≡ then_read r (λ a. f a >>= g) bytes
assoc-read (Ok x) f g bytes = refl
assoc-read (Err e) f g bytes = refl

assoc : {E A B C : Type 0} (first : Layout E A) (f : A → Layout E B) (g : B → Layout E C) → ◌≡◌ {A = Layout E C} ((first >>= f) >>= g) (first >>= λ a. f a >>= g)
assoc first f g = λ i bytes at. assoc-read (first bytes at) f g bytes i

under : {E A B : Type 0} (first : Layout E A) (f g : A → Layout E B) → ((a : A) → ◌≡◌ {A = Layout E B} (f a) (g a)) → ◌≡◌ {A = Layout E B} (first >>= f) (first >>= g)
under {E} {A} {B} first f g same = λ i. first >>= λ a. same a i

-- ---- a whole field

number-step : {B : Type 0} (name : Field) (w : Width) (low high : ℕ) (next : ℕ → Layout LayoutFault B) (bytes : List ℕ) (at : ℕ) → at + byte_len w ≤ length bytes
    → within low high (from_be_bytes w (piece (byte_len w) bytes at)) ≡ true
    → (number name w low high >>= next) bytes at ≡ next (from_be_bytes w (piece (byte_len w) bytes at)) bytes (at + byte_len w)
unfolding number_field
number-step name w low high next bytes at room passed = rw (le-ltb _ _ room, passed) refl

bytes-step : {B : Type 0} (name : Field) (width : ℕ) (test : List ℕ → Bool) (next : List ℕ → Layout LayoutFault B) (bytes : List ℕ) (at : ℕ) → at + width ≤ length bytes
    → test (piece width bytes at) ≡ true
    → (bytes_field (fault_at why.Short name) (fault_at why.Value name) width test >>= next) bytes at ≡ next (piece width bytes at) bytes (at + width)
unfolding bytes_field
bytes-step name width test next bytes at room passed = rw (le-ltb _ _ room, passed) refl

sum-step : {B : Type 0} (name : Field) (next : List ℕ → Layout LayoutFault B) (bytes : List ℕ) (at : ℕ) → at + 32 ≤ length bytes
    → bytes_eq (sha256 (take at bytes)) (piece 32 bytes at) ≡ true
    → (digest name >>= next) bytes at ≡ next (piece 32 bytes at) bytes (at + 32)
unfolding bytes_field sum_field
sum-step name next bytes at room passed = rw (le-ltb _ _ room, passed) refl

number-fails : {B : Type 0} (name : Field) (w : Width) (low high : ℕ) (next : ℕ → Layout LayoutFault B) (bytes : List ℕ) (at : ℕ) → at + byte_len w ≤ length bytes
    → within low high (from_be_bytes w (piece (byte_len w) bytes at)) ≡ false → (number name w low high >>= next) bytes at ≡ Err (fault_at why.Value name at)
unfolding number_field
number-fails name w low high next bytes at room failed = rw (le-ltb _ _ room, failed) refl

bytes-fails : {B : Type 0} (name : Field) (width : ℕ) (test : List ℕ → Bool) (next : List ℕ → Layout LayoutFault B) (bytes : List ℕ) (at : ℕ) → at + width ≤ length bytes
    → test (piece width bytes at) ≡ false → (bytes_field (fault_at why.Short name) (fault_at why.Value name) width test >>= next) bytes at ≡ Err (fault_at why.Value name at)
unfolding bytes_field
bytes-fails name width test next bytes at room failed = rw (le-ltb _ _ room, failed) refl

sum-fails : {B : Type 0} (name : Field) (next : List ℕ → Layout LayoutFault B) (bytes : List ℕ) (at : ℕ) → at + 32 ≤ length bytes
    → bytes_eq (sha256 (take at bytes)) (piece 32 bytes at) ≡ false → (digest name >>= next) bytes at ≡ Err (fault_at why.Digest name at)
unfolding bytes_field sum_field
sum-fails name next bytes at room failed = rw (le-ltb _ _ room, failed) refl

number-short : {B : Type 0} (name : Field) (w : Width) (low high : ℕ) (next : ℕ → Layout LayoutFault B) (bytes : List ℕ) (at : ℕ) → length bytes < at + byte_len w
    → (number name w low high >>= next) bytes at ≡ Err (fault_at why.Short name at)
unfolding number_field
number-short name w low high next bytes at short = rw (lt-ltb _ _ short) refl

bytes-short : {B : Type 0} (name : Field) (width : ℕ) (test : List ℕ → Bool) (next : List ℕ → Layout LayoutFault B) (bytes : List ℕ) (at : ℕ) → length bytes < at + width
    → (bytes_field (fault_at why.Short name) (fault_at why.Value name) width test >>= next) bytes at ≡ Err (fault_at why.Short name at)
unfolding bytes_field
bytes-short name width test next bytes at short = rw (lt-ltb _ _ short) refl

sum-short : {B : Type 0} (name : Field) (next : List ℕ → Layout LayoutFault B) (bytes : List ℕ) (at : ℕ) → length bytes < at + 32
    → (digest name >>= next) bytes at ≡ Err (fault_at why.Short name at)
unfolding bytes_field sum_field
sum-short name next bytes at short = rw (lt-ltb _ _ short) refl

-- ---- so many of one kind, of which the first is read

one_less : (n left : ℕ) → left ≡ suc n → n ≡ left - 1
one_less n left is = omega arith

repeated-flat : {S X B : Type 0} (item : S → Layout LayoutFault X) (next : S → X → S) (n : ℕ) (st : S) (h : List X → Layout LayoutFault B)
    → ◌≡◌ {A = Layout LayoutFault B} (repeated item next (suc n) st >>= h) (item st >>= λ x. repeated item next n (next st x) >>= λ others. h (x ∷ others))
unfolding repeated
repeated-flat item next n st h =
    assoc (item st) (λ x. repeated item next n (next st x) >>= λ others. whole (x ∷ others)) h
    ∙ under (item st) _ _ (λ x. assoc (repeated item next n (next st x)) (λ others. whole (x ∷ others)) h)

repeated-none : {S X B : Type 0} (item : S → Layout LayoutFault X) (next : S → X → S) (st : S) (h : List X → Layout LayoutFault B)
    → ◌≡◌ {A = Layout LayoutFault B} (repeated item next zero st >>= h) (h [])
unfolding repeated
repeated-none item next st h = refl

-- ---- at a range, or behind the last

abbrev log_field : Option (List ℕ) → Layout LayoutFault (List ℕ)
log_field previous = key fields.RangeLog (is_after previous)

abbrev from_field : Layout LayoutFault ℕ
from_field = number fields.RangeFrom w64 0 (2 ^ 64 - 1)

abbrev to_field : ℕ → Layout LayoutFault ℕ
to_field from = number fields.RangeTo w64 from (2 ^ 64 - 1)

abbrev made : List ℕ → ℕ → ℕ → Range
made log from to = record { log = log; from = from; to = to }

range-flat : (previous : Option (List ℕ)) (h : Range → Rest)
    → ◌≡◌ {A = Rest} (range previous >>= h) (log_field previous >>= λ log. from_field >>= λ from. to_field from >>= λ to. h (made log from to))
unfolding range
range-flat previous h =
    assoc (log_field previous) (λ log. from_field >>= λ from. to_field from >>= λ to. whole (made log from to)) h
    ∙ under (log_field previous) _ _ (λ log.
    assoc from_field (λ from. to_field from >>= λ to. whole (made log from to)) h
    ∙ under from_field _ _ (λ from. assoc (to_field from) (λ to. whole (made log from to)) h))

abbrev behind_ranges : Kept → Seen → List Range → Rest
behind_ranges k s more = at_issuers k (record s { ranges = s.ranges ++ more })

behind-range : (n : ℕ) (k : Kept) (s : Seen) → k.ranges_left ≡ suc n → (log : List ℕ) (from to : ℕ)
    → ◌≡◌ {A = Rest} (repeated range next_log n (Some log) >>= λ others. behind_ranges k s (made log from to ∷ others))
    (at_ranges (kept_range (record k { key = log; from = from; to = to })) (with_range s (made log from to)))
unfolding at_ranges at_issuers at_blocks at_sharded at_trailer
behind-range n k s is log from to =
    ap (λ (m : ℕ). repeated range next_log m (Some log) >>= λ others. behind_ranges k s (made log from to ∷ others)) (one_less n k.ranges_left is)
    ∙ under (repeated range next_log (k.ranges_left - 1) (Some log)) _ _ (λ others. ap (λ (list : List Range). at_issuers k (record s { ranges = list })) (sym (append_assoc s.ranges
    (made log from to ∷ []) others)))

pub ranges-open : (left : ℕ) (k : Kept) (s : Seen) → k.ranges_left ≡ left → ◌≡◌ {A = Rest} (at_ranges k s) (rest (open_range left) k s)
unfolding at_ranges rest at_range_log at_range_from at_range_to
ranges-open zero k s is =
    ap (λ (n : ℕ). repeated range next_log n (previous k) >>= behind_ranges k s) is ∙ repeated-none range next_log (previous k) (behind_ranges k s)
    ∙ ap (λ (list : List Range). at_issuers k (record s { ranges = list })) (append-nil s.ranges)
ranges-open (suc n) k s is =
    ap (λ (m : ℕ). repeated range next_log m (previous k) >>= behind_ranges k s) is
    ∙ repeated-flat range next_log n (previous k) (behind_ranges k s) ∙ range-flat (previous k) _
    ∙ under (log_field (previous k)) _ _ (λ log. under from_field _ _ (λ from. under (to_field from) _ _ (λ to. behind-range n k s is log from to)))

-- ---- at a block, or behind the last

abbrev issuer_field : Option (List ℕ) → Layout LayoutFault (List ℕ)
issuer_field previous = key fields.BlockIssuer (is_after previous)

abbrev mode_field : ℕ → Layout LayoutFault ℕ
mode_field version = number fields.BlockMode w8 0 (greatest_mode version)

abbrev block_made : List ℕ → Body → Block
block_made issuer body = record { issuer = issuer; body = body }

block-flat : (version : ℕ) (previous : Option (List ℕ)) (h : Block → Rest)
    → ◌≡◌ {A = Rest} (block version previous >>= h) (issuer_field previous >>= λ issuer. mode_field version >>= λ mode. body_of mode >>= λ body. h (block_made issuer body))
unfolding block
block-flat version previous h =
    assoc (issuer_field previous) (λ issuer. mode_field version >>= λ mode. body_of mode >>= λ body. whole (block_made issuer body)) h
    ∙ under (issuer_field previous) _ _ (λ issuer.
    assoc (mode_field version) (λ mode. body_of mode >>= λ body. whole (block_made issuer body)) h
    ∙ under (mode_field version) _ _ (λ mode. assoc (body_of mode) (λ body. whole (block_made issuer body)) h))

abbrev behind_blocks : Kept → Seen → List Block → Rest
behind_blocks k s more = at_sharded k (record s { blocks = s.blocks ++ more })

behind-block : (n : ℕ) (k : Kept) (s : Seen) → k.left ≡ suc n → (issuer : List ℕ) (body : Body)
    → ◌≡◌ {A = Rest} (repeated (block k.version) next_issuer n (Some issuer) >>= λ others. behind_blocks k s (block_made issuer body ∷ others)) (after_body (record k { key = issuer }) s body)
unfolding at_blocks at_sharded at_trailer
behind-block n k s is issuer body =
    ap (λ (m : ℕ). repeated (block k.version) next_issuer m (Some issuer) >>= λ others. behind_blocks k s (block_made issuer body ∷ others)) (one_less n k.left is)
    ∙ under (repeated (block k.version) next_issuer (k.left - 1) (Some issuer)) _ _
    (λ others. ap (λ (list : List Block). at_sharded k (record s { blocks = list })) (sym (append_assoc s.blocks (block_made issuer body ∷ []) others)))

pub blocks-open : (left : ℕ) (k : Kept) (s : Seen) → k.left ≡ left → ◌≡◌ {A = Rest} (at_blocks k s) (rest (open_block left) k s)
unfolding at_blocks rest at_issuer at_mode at_body
blocks-open zero k s is =
    ap (λ (n : ℕ). repeated (block k.version) next_issuer n (previous k) >>= behind_blocks k s) is ∙ repeated-none (block k.version) next_issuer (previous k) (behind_blocks k s)
    ∙ ap (λ (list : List Block). at_sharded k (record s { blocks = list })) (append-nil s.blocks)
blocks-open (suc n) k s is =
    ap (λ (m : ℕ). repeated (block k.version) next_issuer m (previous k) >>= behind_blocks k s) is
    ∙ repeated-flat (block k.version) next_issuer n (previous k) (behind_blocks k s) ∙ block-flat k.version (previous k) _
    ∙ under (issuer_field (previous k)) _ _ (λ issuer. under (mode_field k.version) _ _ (λ mode. under (body_of mode) _ _ (λ body. behind-block n k s is issuer body)))

-- ---- at a shard, or behind the last

abbrev leaf_state : Unit {0} → Leaf → Unit {0}
leaf_state u l = u

abbrev shard_mode_field : Layout LayoutFault ℕ
shard_mode_field = number fields.ShardMode w8 0 2

shard-flat : (h : Leaf → Rest) → ◌≡◌ {A = Rest} (shard >>= h) (shard_mode_field >>= λ mode. leaf mode >>= h)
unfolding shard
shard-flat h = assoc shard_mode_field (λ mode. leaf mode) h

abbrev behind_shards : Kept → Seen → List Leaf → Rest
behind_shards k s more = after_body k s (shards_of k.shift (s.leaves ++ more))

behind-shard : (n : ℕ) (k : Kept) (s : Seen) → k.leaves ≡ suc n → (l : Leaf) → ◌≡◌ {A = Rest} (shards n >>= λ others. behind_shards k s (l ∷ others)) (after_shard k s l)
unfolding at_shards at_blocks at_sharded at_trailer
behind-shard n k s is l =
    ap (λ (m : ℕ). shards m >>= λ others. behind_shards k s (l ∷ others)) (one_less n k.leaves is)
    ∙ under (shards (k.leaves - 1)) _ _ (λ others. ap (λ (list : List Leaf). after_body k s (shards_of k.shift list)) (sym (append_assoc s.leaves (l ∷ []) others)))

pub shards-open : (n : ℕ) (k : Kept) (s : Seen) → k.leaves ≡ suc n → ◌≡◌ {A = Rest} (at_shards k s) (rest opens.ShardMode k s)
unfolding at_shards rest at_shard_mode at_leaf
shards-open n k s is =
    ap (λ (m : ℕ). shards m >>= behind_shards k s) is
    ∙ repeated-flat (λ (u : Unit {0}). shard) leaf_state n tt (behind_shards k s)
    ∙ shard-flat (λ l. shards n >>= λ others. behind_shards k s (l ∷ others))
    ∙ under shard_mode_field _ _ (λ mode. under (leaf mode) _ _ (λ l. behind-shard n k s is l))

shards-none : (k : Kept) (s : Seen) → k.leaves ≡ 0 → ◌≡◌ {A = Rest} (at_shards k s) (after_body k s (shards_of k.shift s.leaves))
unfolding at_shards
shards-none k s is =
    ap (λ (m : ℕ). shards m >>= behind_shards k s) is ∙ repeated-none (λ (u : Unit {0}). shard) leaf_state tt (behind_shards k s)
    ∙ ap (λ (list : List Leaf). after_body k s (shards_of k.shift list)) (append-nil s.leaves)

-- ---- stages

plane-flat : {B : Type 0} (name : Field) (starts : ℕ) (h : ℕ → Layout LayoutFault B)
    → ◌≡◌ {A = Layout LayoutFault B} (plane name starts >>= h) (plane_bytes name starts >>= λ bytes. h (columns_of_bytes (words_for starts) bytes))
unfolding plane
plane-flat name starts h = assoc (plane_bytes name starts) (λ bytes. whole (columns_of_bytes (words_for starts) bytes)) h

abbrev no_state : Unit {0} → ℕ → Unit {0}
no_state u Z = u

planes-flat : (starts_name plane_name : Field) (count : ℕ) (h : PlaneColumns → Rest)
    → ◌≡◌ {A = Rest} (planes starts_name plane_name count >>= h)
    (number starts_name w32 1 MAX_STARTS >>= λ starts. columns plane_name starts count >>= λ list. h (record { starts = starts; columns = list }))
unfolding planes
planes-flat starts_name plane_name count h =
    assoc (number starts_name w32 1 MAX_STARTS) (λ starts. columns plane_name starts count >>= λ list. whole (record { starts = starts; columns = list })) h
    ∙ under (number starts_name w32 1 MAX_STARTS) _ _ (λ starts. assoc (columns plane_name starts count) (λ list. whole (record { starts = starts; columns = list })) h)

one-column : (name : Field) (starts : ℕ) (h : List ℕ → Rest)
    → ◌≡◌ {A = Rest} (columns name starts 1 >>= h) (plane_bytes name starts >>= λ bytes. h (columns_of_bytes (words_for starts) bytes ∷ []))
one-column name starts h =
    repeated-flat (λ (u : Unit {0}). plane name starts) no_state 0 tt h
    ∙ under (plane name starts) _ _ (λ Z. repeated-none (λ (u : Unit {0}). plane name starts) no_state tt (λ others. h (Z ∷ others)))
    ∙ plane-flat name starts (λ Z. h (Z ∷ []))

abbrev seed_field : Field → Layout LayoutFault ℕ
seed_field name = number name w8 0 255

abbrev staged : ℕ → PlaneColumns → Stage
staged seed p = record { seed = seed; planes = p }

abbrev exact_then : (Stage → Rest) → ℕ → ℕ → List ℕ → Rest
exact_then h seed starts bytes = h (staged seed (record { starts = starts; columns = columns_of_bytes (words_for starts) bytes ∷ [] }))

exact-flat : (h : Stage → Rest)
    → ◌≡◌ {A = Rest} (exact >>= h) (seed_field fields.ExactSeed >>= λ seed. number fields.ExactStarts w32 1 MAX_STARTS
    >>= λ starts. plane_bytes fields.ExactPlane starts >>= λ bytes. exact_then h seed starts bytes)
unfolding exact
exact-flat h =
    assoc (seed_field fields.ExactSeed) (λ seed. planes fields.ExactStarts fields.ExactPlane 1 >>= λ p. whole (staged seed p)) h
    ∙ under (seed_field fields.ExactSeed) _ _ (λ seed.
    assoc (planes fields.ExactStarts fields.ExactPlane 1) (λ p. whole (staged seed p)) h
    ∙ planes-flat fields.ExactStarts fields.ExactPlane 1 (λ p. h (staged seed p))
    ∙ under (number fields.ExactStarts w32 1 MAX_STARTS) _ _ (λ starts. one-column fields.ExactPlane starts (λ list. h (staged seed (record { starts = starts; columns = list })))))

exact-open : (k : Kept) (s : Seen) (first : Option Stage)
    → ◌≡◌ {A = Rest} (exact >>= λ second. after_leaf k s (leaves_of.Mixed (record { approx = first; exact = second }))) (at_exact_seed k (record s { approx = first }))
unfolding at_exact_seed at_exact_starts at_exact_plane at_shards at_blocks at_sharded at_trailer
exact-open k s first = exact-flat (λ second. after_leaf k s (leaves_of.Mixed (record { approx = first; exact = second })))

approx-flat : (n : ℕ) (h : Option Stage → Rest)
    → ◌≡◌ {A = Rest} (approx_stage n >>= h) (seed_field fields.ApproxSeed >>= λ seed. number fields.ApproxStarts w32 1 MAX_STARTS
    >>= λ starts. columns fields.ApproxPlane starts n >>= λ list. h (Some (staged seed (record { starts = starts; columns = list }))))
unfolding approx_stage
approx-flat n h =
    assoc (seed_field fields.ApproxSeed) (λ seed. planes fields.ApproxStarts fields.ApproxPlane n >>= λ p. whole (Some (staged seed p))) h
    ∙ under (seed_field fields.ApproxSeed) _ _ (λ seed.
    assoc (planes fields.ApproxStarts fields.ApproxPlane n) (λ p. whole (Some (staged seed p))) h
    ∙ planes-flat fields.ApproxStarts fields.ApproxPlane n (λ p. h (Some (staged seed p))))

pub approx-open : (n : ℕ) (k : Kept) (s : Seen) → k.planes ≡ n → ◌≡◌ {A = Rest} (at_approx k s) (rest (open_approx n) k (record s { approx = None }))
unfolding at_approx rest at_approx_seed at_approx_starts at_approx_planes at_exact_seed at_exact_starts at_exact_plane at_shards at_blocks at_sharded at_trailer
approx-open zero k s is = ap (λ (m : ℕ). approx m >>= λ first. at_exact_seed k (record s { approx = first })) is
approx-open (suc n) k s is =
    ap (λ (m : ℕ). approx m >>= λ first. at_exact_seed k (record s { approx = first })) is
    ∙ approx-flat (suc n) (λ first. at_exact_seed k (record s { approx = first }))
    ∙ under (seed_field fields.ApproxSeed) _ _ (λ seed. under (number fields.ApproxStarts w32 1 MAX_STARTS) _ _ (λ starts.
    ap (λ (m : ℕ). columns fields.ApproxPlane starts m >>= λ list. at_exact_seed k (record s { approx = Some (staged seed (record { starts = starts; columns = list })) })) (sym is)))

abbrev behind_planes : Kept → Seen → List ℕ → Rest
behind_planes k s more = at_exact_seed k (with_approx k (record s { columns = s.columns ++ more }))

abbrev planes_then : ℕ → ℕ → (List ℕ → Rest) → Rest
planes_then starts n h = columns fields.ApproxPlane starts n >>= h

behind-plane : (n : ℕ) (k : Kept) (s : Seen) → k.planes ≡ suc n → (Z : ℕ)
    → ◌≡◌ {A = Rest} (planes_then k.starts n (λ others. behind_planes k s (Z ∷ others))) (at_approx_planes (record k { planes = k.planes - 1 }) (record s { columns = s.columns ++ Z ∷ [] }))
unfolding at_approx_planes at_exact_seed at_exact_starts at_exact_plane at_shards at_blocks at_sharded at_trailer
behind-plane n k s is Z =
    ap (λ (m : ℕ). planes_then k.starts m (λ others. behind_planes k s (Z ∷ others))) (one_less n k.planes is)
    ∙ under (columns fields.ApproxPlane k.starts (k.planes - 1)) _ _ (λ others. ap (λ (list : List ℕ). at_exact_seed k (with_approx k (record s { columns = list }))) (sym (append_assoc s.columns
    (Z ∷ []) others)))

pub planes-open : (n : ℕ) (k : Kept) (s : Seen) → k.planes ≡ n → ◌≡◌ {A = Rest} (at_approx_planes k s) (rest (open_plane n) k (with_approx k s))
unfolding at_approx_planes rest at_approx_plane
planes-open zero k s is =
    ap (λ (m : ℕ). planes_then k.starts m (behind_planes k s)) is
    ∙ repeated-none (λ (u : Unit {0}). plane fields.ApproxPlane k.starts) no_state tt (behind_planes k s)
    ∙ ap (λ (list : List ℕ). at_exact_seed k (with_approx k (record s { columns = list }))) (append-nil s.columns)
planes-open (suc n) k s is =
    ap (λ (m : ℕ). planes_then k.starts m (behind_planes k s)) is
    ∙ repeated-flat (λ (u : Unit {0}). plane fields.ApproxPlane k.starts) no_state n tt (behind_planes k s)
    ∙ plane-flat fields.ApproxPlane k.starts (λ Z. planes_then k.starts n (λ others. behind_planes k s (Z ∷ others)))
    ∙ under (plane_bytes fields.ApproxPlane k.starts) _ _ (λ bytes. behind-plane n k s is (column_of k bytes))

-- ---- bodies

mixed-flat : (h : MixedFields → Rest)
    → ◌≡◌ {A = Rest} (mixed >>= h) (number fields.BlockK w8 0 MAX_PLANES >>= λ n. approx n >>= λ first. exact >>= λ second. h (record { approx = first; exact = second }))
unfolding mixed
mixed-flat h =
    assoc (number fields.BlockK w8 0 MAX_PLANES) (λ n. approx n >>= λ first. exact >>= λ second. whole (record { approx = first; exact = second })) h
    ∙ under (number fields.BlockK w8 0 MAX_PLANES) _ _ (λ n.
    assoc (approx n) (λ first. exact >>= λ second. whole (record { approx = first; exact = second })) h
    ∙ under (approx n) _ _ (λ first. assoc exact (λ second. whole (record { approx = first; exact = second })) h))

mixed-open : (k : Kept) (s : Seen) → ◌≡◌ {A = Rest} (mixed >>= λ m. after_leaf k s (leaves_of.Mixed m)) (at_k k s)
unfolding at_k at_approx at_exact_seed at_exact_starts at_exact_plane at_shards at_blocks at_sharded at_trailer
mixed-open k s =
    mixed-flat (λ m. after_leaf k s (leaves_of.Mixed m))
    ∙ under (number fields.BlockK w8 0 MAX_PLANES) _ _ (λ n. under (approx n) _ _ (λ first. exact-open k s first))

abbrev opened : ℕ → Kept → Seen → Rest
opened mode k s = rest (open_mode (kept_mode mode k).mode (kept_mode mode k).leaves (kept_mode mode k).left) (kept_mode mode k) (seen_mode mode k s)

sharded-flat : (h : ShardedFields → Rest)
    → ◌≡◌ {A = Rest} (sharded >>= h) (number fields.BlockShift w8 1 MAX_SHIFT >>= λ shift. shards (2 ^ shift) >>= λ list. h (record { shift = shift; leaves = list }))
unfolding sharded
sharded-flat h =
    assoc (number fields.BlockShift w8 1 MAX_SHIFT) (λ shift. shards (2 ^ shift) >>= λ list. whole (record { shift = shift; leaves = list })) h
    ∙ under (number fields.BlockShift w8 1 MAX_SHIFT) _ _ (λ shift. assoc (shards (2 ^ shift)) (λ list. whole (record { shift = shift; leaves = list })) h)

pub mode-open : (mode : ℕ) (k : Kept) (s : Seen) → ◌≡◌ {A = Rest} (at_body mode k s) (opened mode k s)
unfolding at_body rest at_shift at_k at_approx at_exact_seed at_exact_starts at_exact_plane at_shards at_blocks at_sharded at_trailer
mode-open zero k s = blocks-open (k.left - 1) (kept_mode 0 k) (with_block s k.key bodies.Clean) refl
mode-open (suc zero) k s = blocks-open (k.left - 1) (kept_mode 1 k) (with_block s k.key bodies.Every) refl
mode-open (suc (suc zero)) k s =
    assoc (leaf 2) (λ l. whole (as_body l)) (after_body k s) ∙ assoc mixed (λ m. whole (leaves_of.Mixed m)) (λ l. after_body k s (as_body l)) ∙ mixed-open (kept_mode 2 k) s
mode-open (suc (suc (suc n))) k s = assoc sharded (λ x. whole (bodies.Sharded x)) (after_body k s) ∙ sharded-flat (λ x. after_body k s (bodies.Sharded x))

-- ---- behind a leaf

abbrev behind_leaf : ℕ → ℕ → Kept → Seen → Leaf → Rest
behind_leaf shift n k s l = rest (open_leaf (kept_leaves n k).leaves (kept_leaves n k).left) (kept_leaves n k) (with_leaf shift n k.key s l)

pub leaf-open : (shift n : ℕ) (k : Kept) (s : Seen) (l : Leaf) → k.shift ≡ shift → k.leaves - 1 ≡ n → (shift ≡ 0 → k.leaves ≡ 1)
    → ◌≡◌ {A = Rest} (after_leaf k s l) (behind_leaf shift n k s l)
unfolding at_shards at_blocks at_sharded at_trailer
leaf-open zero zero k s l at is one =
    ap (λ (m : ℕ). by_shift m (after_body k s (as_body l)) (after_shard k s l)) at ∙ blocks-open (k.left - 1) (kept_leaves 0 k) (with_block s k.key (as_body l)) refl
leaf-open zero (suc n) k s l at is one = absurd (omega (arith, is, one refl))
leaf-open (suc m) zero k s l at is one =
    ap (λ (x : ℕ). by_shift x (after_body k s (as_body l)) (after_shard k s l)) at
    ∙ shards-none (record k { leaves = k.leaves - 1 }) (with_shard s l) is
    ∙ ap (λ (x : ℕ). after_body k (record s { leaves = [] }) (shards_of x (s.leaves ++ l ∷ []))) at
    ∙ blocks-open (k.left - 1) (kept_leaves 0 k) (with_block (record s { leaves = [] }) k.key (shards_of (suc m) (s.leaves ++ l ∷ []))) refl
leaf-open (suc m) (suc n) k s l at is one =
    ap (λ (x : ℕ). by_shift x (after_body k s (as_body l)) (after_shard k s l)) at
    ∙ shards-open n (record k { leaves = k.leaves - 1 }) (with_shard s l) is
    ∙ ap (λ (x : ℕ). rest opens.ShardMode (record k { leaves = x }) (with_shard s l)) is

pub leaf-mode : (n : ℕ) (k : Kept) → (kept_leaves n k).mode ≡ k.mode
leaf-mode zero k = refl
leaf-mode (suc n) k = refl

abbrev leaf_opened : ℕ → Kept → Seen → Rest
leaf_opened mode k s = rest (open_mode (kept_leaf_mode mode k).mode (kept_leaf_mode mode k).leaves (kept_leaf_mode mode k).left) (kept_leaf_mode mode k) (seen_leaf_mode mode k s)

leaf-mode-open : (mode : ℕ) (k : Kept) (s : Seen) → (k.shift ≡ 0 → k.leaves ≡ 1) → ◌≡◌ {A = Rest} (leaf mode >>= λ l. after_leaf k s l) (leaf_opened mode k s)
unfolding rest at_k at_approx at_exact_seed at_exact_starts at_exact_plane at_shards at_blocks at_sharded at_trailer
leaf-mode-open zero k s one =
    leaf-open k.shift (k.leaves - 1) (record k { mode = 0 }) s leaves_of.Clean refl refl one
    ∙ ap (λ (m : ℕ). rest (open_mode m (kept_leaf_mode 0 k).leaves (kept_leaf_mode 0 k).left) (kept_leaf_mode 0 k) (seen_leaf_mode 0 k s)) (sym (leaf-mode (k.leaves - 1) (record k { mode = 0 })))
leaf-mode-open (suc zero) k s one =
    leaf-open k.shift (k.leaves - 1) (record k { mode = 1 }) s leaves_of.Every refl refl one
    ∙ ap (λ (m : ℕ). rest (open_mode m (kept_leaf_mode 1 k).leaves (kept_leaf_mode 1 k).left) (kept_leaf_mode 1 k) (seen_leaf_mode 1 k s)) (sym (leaf-mode (k.leaves - 1) (record k { mode = 1 })))
leaf-mode-open (suc (suc n)) k s one = assoc mixed (λ m. whole (leaves_of.Mixed m)) (after_leaf k s) ∙ mixed-open k s

cut-leaf : (n : ℕ) (alone cut : Rest) → 1 ≤ n → by_shift n alone cut ≡ cut
cut-leaf zero alone cut some = absurd (omega arith)
cut-leaf (suc n) alone cut some = refl

pub shard-open : (mode : ℕ) (k : Kept) (s : Seen) → 1 ≤ k.shift → (k.shift ≡ 0 → k.leaves ≡ 1) → ◌≡◌ {A = Rest} (at_leaf mode k s) (leaf_opened mode k s)
unfolding at_leaf
shard-open mode k s some one =
    under (leaf mode) _ _ (λ l. sym (cut-leaf k.shift (after_body k s (as_body l)) (after_shard k s l) some)) ∙ leaf-mode-open mode k s one

shifts-some : (n : ℕ) → 2 ^ n ≡ suc (2 ^ n - 1)
shifts-some n = omega (arith, pow_pos n)

-- ---- one field further

pub rest-steps : (o : Open) (k : Kept) (s : Seen) (b : List ℕ) (at : ℕ) → IsOpen o k → Counts k s → at + width_of o k ≤ length b → passes o k (sha256 (take at b)) (piece (width_of o k) b at) ≡ true
    → rest o k s b at ≡ rest (open_after o (kept_after o k (piece (width_of o k) b at))) (kept_after o k (piece (width_of o k) b at))
    (seen_after o k s (piece (width_of o k) b at)) b (at + width_of o k)
unfolding rest at_magic at_version at_kind at_epoch at_parent at_count at_range_log at_range_from at_range_to
    at_issuers at_issuer at_mode at_shift at_shard_mode at_k at_approx_seed at_approx_starts at_approx_plane at_exact_seed at_exact_starts at_exact_plane at_sharded at_trailer
rest-steps opens.Magic k s b at opened c room passed = bytes-step fields.PartMagic 8 (bytes_eq (codes "CLUBCARD")) (λ begin. at_version k s) b at room passed
rest-steps opens.Version k s b at opened c room passed = number-step fields.PartVersion w8 1 2 (λ version. at_kind (record k { version = version }) s) b at room passed
rest-steps opens.Kind k s b at opened c room passed = number-step fields.PartKind w8 0 1 (λ kind. at_epoch (record k { kind = kind }) s) b at room passed
rest-steps opens.Epoch k s b at opened c room passed = number-step fields.PartEpoch w64 0 (2 ^ 64 - 1) (λ epoch. at_parent (record k { epoch = epoch }) s) b at room passed
rest-steps opens.Parent k s b at opened c room passed = bytes-step fields.PartParent 32 (is_parent k.kind) (λ parent. at_count (record k { parent = parent }) s) b at room passed
rest-steps opens.Ranges k s b at opened c room passed = number-step fields.PartRanges w16 0 MAX_RANGES (λ count. at_ranges (kept_ranges k count) (record s { ranges = [] })) b at room passed
    ∙ ap (λ (l : Rest). l b (at + 2)) (ranges-open (from_be_bytes w16 (piece 2 b at)) (kept_ranges k (from_be_bytes w16 (piece 2 b at))) (record s { ranges = [] }) refl)
rest-steps opens.RangeLog k s b at opened c room passed = bytes-step fields.RangeLog 32 (is_after (previous k)) (λ log. at_range_from (record k { key = log }) s) b at room passed
rest-steps opens.RangeFrom k s b at opened c room passed = number-step fields.RangeFrom w64 0 (2 ^ 64 - 1) (λ from. at_range_to (record k { from = from }) s) b at room passed
rest-steps opens.RangeTo k s b at opened c room passed = number-step fields.RangeTo w64 k.from (2 ^ 64 - 1) (λ to. at_ranges (kept_range (record k { to = to })) (with_range s
    (record { log = k.key; from = k.from; to = to }))) b at room passed
    ∙ ap (λ (l : Rest). l b (at + 8)) (ranges-open (k.ranges_left - 1) (kept_range (record k { to = from_be_bytes w64 (piece 8 b at) })) (with_range s
    (record { log = k.key; from = k.from; to = from_be_bytes w64 (piece 8 b at) })) refl)
rest-steps opens.Issuers k s b at opened c room passed = number-step fields.PartIssuers w32 0 MAX_BLOCKS (λ count. at_blocks (kept_issuers k count) (record s { blocks = [] })) b at room passed
    ∙ ap (λ (l : Rest). l b (at + 4)) (blocks-open (from_be_bytes w32 (piece 4 b at)) (kept_issuers k (from_be_bytes w32 (piece 4 b at))) (record s { blocks = [] }) refl)
rest-steps opens.BlockIssuer k s b at opened c room passed = bytes-step fields.BlockIssuer 32 (is_after (previous k)) (λ issuer. at_mode (record k { key = issuer }) s) b at room passed
rest-steps opens.BlockMode k s b at opened c room passed = number-step fields.BlockMode w8 0 (greatest_mode k.version) (λ mode. at_body mode k s) b at room passed
    ∙ ap (λ (l : Rest). l b (at + 1)) (mode-open (from_be_bytes w8 (piece 1 b at)) k s)
rest-steps opens.BlockShift k s b at opened c room passed = number-step fields.BlockShift w8 1 MAX_SHIFT (λ shift. at_shards (kept_shift k shift) (record s { leaves = [] })) b at room passed
    ∙ ap (λ (l : Rest). l b (at + 1)) (shards-open (2 ^ from_be_bytes w8 (piece 1 b at) - 1) (kept_shift k (from_be_bytes w8 (piece 1 b at))) (record s { leaves = [] })
    (shifts-some (from_be_bytes w8 (piece 1 b at))))
rest-steps opens.ShardMode k s b at opened c room passed = number-step fields.ShardMode w8 0 2 (λ mode. at_leaf mode k s) b at room passed
    ∙ ap (λ (l : Rest). l b (at + 1)) (shard-open (from_be_bytes w8 (piece 1 b at)) k s opened.1 opened.0.3)
rest-steps opens.BlockK k s b at opened c room passed = number-step fields.BlockK w8 0 MAX_PLANES (λ n. at_approx (record k { planes = n }) s) b at room passed
    ∙ ap (λ (l : Rest). l b (at + 1)) (approx-open (from_be_bytes w8 (piece 1 b at)) (record k { planes = from_be_bytes w8 (piece 1 b at) }) s refl)
rest-steps opens.ApproxSeed k s b at opened c room passed = number-step fields.ApproxSeed w8 0 255 (λ seed. at_approx_starts (record k { seed = seed }) s) b at room passed
rest-steps opens.ApproxStarts k s b at opened c room passed = number-step fields.ApproxStarts w32 1 MAX_STARTS (λ starts. at_approx_planes (record k { starts = starts })
    (record s { columns = [] })) b at room passed ∙ ap (λ (l : Rest). l b (at + 4)) (planes-open k.planes (record k { starts = from_be_bytes w32 (piece 4 b at) }) (record s { columns = [] }) refl)
rest-steps opens.ApproxPlane k s b at opened c room passed = bytes-step fields.ApproxPlane (8 * words_for k.starts) (is_padded k.starts) (λ bytes. at_approx_planes
    (record k { planes = k.planes - 1 }) (with_plane k s bytes)) b at room passed
    ∙ ap (λ (l : Rest). l b (at + (8 * words_for k.starts))) (planes-open (k.planes - 1) (record k { planes = k.planes - 1 }) (with_plane k s (piece (8 * words_for k.starts) b at)) refl)
rest-steps opens.ExactSeed k s b at opened c room passed = number-step fields.ExactSeed w8 0 255 (λ seed. at_exact_starts (record k { seed = seed }) s) b at room passed
rest-steps opens.ExactStarts k s b at opened c room passed = number-step fields.ExactStarts w32 1 MAX_STARTS (λ starts. at_exact_plane (record k { starts = starts }) s) b at room passed
rest-steps opens.ExactPlane k s b at opened c room passed = bytes-step fields.ExactPlane (8 * words_for k.starts) (is_padded k.starts) (λ bytes. after_leaf k s (mixed_of k
    (record s { columns = column_of k bytes ∷ [] }))) b at room passed
    ∙ ap (λ (l : Rest). l b (at + (8 * words_for k.starts))) (leaf-open k.shift (k.leaves - 1) k s (mixed_of k (record s { columns = column_of k (piece (8 * words_for k.starts) b at) ∷ [] }))
    refl refl opened.3)
rest-steps opens.Sharded k s b at opened c room passed =
    bytes-step fields.PartSharded 0 (λ none. k.version == 1 || some_sharded s.blocks) (λ none. at_trailer k s) b at room (ap (λ (x : Bool). k.version == 1 || x) (sym c.sharded) ∙ passed)
rest-steps opens.Trailer k s b at opened c room passed = sum-step fields.PartTrailer (λ trailer. whole (sealed_of (record k { trailer = trailer }) s)) b at room passed
rest-steps opens.Done k s b at opened c room passed = absurd cc

pub rest-fails : (o : Open) (k : Kept) (s : Seen) (b : List ℕ) (at : ℕ) → Counts k s → (o ≡ opens.Done → ⊥) → at + width_of o k ≤ length b
    → passes o k (sha256 (take at b)) (piece (width_of o k) b at) ≡ false
    → rest o k s b at ≡ Err (fault_at (wrong_of o) (name_of o) at)
unfolding rest at_magic at_version at_kind at_epoch at_parent at_count at_range_log at_range_from at_range_to
    at_issuers at_issuer at_mode at_shift at_shard_mode at_k at_approx_seed at_approx_starts at_approx_plane at_exact_seed at_exact_starts at_exact_plane at_sharded at_trailer
rest-fails opens.Magic k s b at c goes room failed = bytes-fails fields.PartMagic 8 (bytes_eq (codes "CLUBCARD")) _ b at room failed
rest-fails opens.Version k s b at c goes room failed = number-fails fields.PartVersion w8 1 2 _ b at room failed
rest-fails opens.Kind k s b at c goes room failed = number-fails fields.PartKind w8 0 1 _ b at room failed
rest-fails opens.Epoch k s b at c goes room failed = number-fails fields.PartEpoch w64 0 (2 ^ 64 - 1) _ b at room failed
rest-fails opens.Parent k s b at c goes room failed = bytes-fails fields.PartParent 32 (is_parent k.kind) _ b at room failed
rest-fails opens.Ranges k s b at c goes room failed = number-fails fields.PartRanges w16 0 MAX_RANGES _ b at room failed
rest-fails opens.RangeLog k s b at c goes room failed = bytes-fails fields.RangeLog 32 (is_after (previous k)) _ b at room failed
rest-fails opens.RangeFrom k s b at c goes room failed = number-fails fields.RangeFrom w64 0 (2 ^ 64 - 1) _ b at room failed
rest-fails opens.RangeTo k s b at c goes room failed = number-fails fields.RangeTo w64 k.from (2 ^ 64 - 1) _ b at room failed
rest-fails opens.Issuers k s b at c goes room failed = number-fails fields.PartIssuers w32 0 MAX_BLOCKS _ b at room failed
rest-fails opens.BlockIssuer k s b at c goes room failed = bytes-fails fields.BlockIssuer 32 (is_after (previous k)) _ b at room failed
rest-fails opens.BlockMode k s b at c goes room failed = number-fails fields.BlockMode w8 0 (greatest_mode k.version) _ b at room failed
rest-fails opens.BlockShift k s b at c goes room failed = number-fails fields.BlockShift w8 1 MAX_SHIFT _ b at room failed
rest-fails opens.ShardMode k s b at c goes room failed = number-fails fields.ShardMode w8 0 2 _ b at room failed
rest-fails opens.BlockK k s b at c goes room failed = number-fails fields.BlockK w8 0 MAX_PLANES _ b at room failed
rest-fails opens.ApproxSeed k s b at c goes room failed = number-fails fields.ApproxSeed w8 0 255 _ b at room failed
rest-fails opens.ApproxStarts k s b at c goes room failed = number-fails fields.ApproxStarts w32 1 MAX_STARTS _ b at room failed
rest-fails opens.ApproxPlane k s b at c goes room failed = bytes-fails fields.ApproxPlane (8 * words_for k.starts) (is_padded k.starts) _ b at room failed
rest-fails opens.ExactSeed k s b at c goes room failed = number-fails fields.ExactSeed w8 0 255 _ b at room failed
rest-fails opens.ExactStarts k s b at c goes room failed = number-fails fields.ExactStarts w32 1 MAX_STARTS _ b at room failed
rest-fails opens.ExactPlane k s b at c goes room failed = bytes-fails fields.ExactPlane (8 * words_for k.starts) (is_padded k.starts) _ b at room failed
rest-fails opens.Sharded k s b at c goes room failed =
    bytes-fails fields.PartSharded 0 (λ none. k.version == 1 || some_sharded s.blocks) _ b at room (ap (λ (x : Bool). k.version == 1 || x) (sym c.sharded) ∙ failed)
rest-fails opens.Trailer k s b at c goes room failed = sum-fails fields.PartTrailer _ b at room failed
rest-fails opens.Done k s b at c goes room failed = absurd (goes refl)

pub rest-short : (o : Open) (k : Kept) (s : Seen) (b : List ℕ) (at : ℕ) → length b < at + width_of o k → at ≤ length b → rest o k s b at ≡ Err (fault_at why.Short (name_of o) at)
unfolding rest at_magic at_version at_kind at_epoch at_parent at_count at_range_log at_range_from at_range_to
    at_issuers at_issuer at_mode at_shift at_shard_mode at_k at_approx_seed at_approx_starts at_approx_plane at_exact_seed at_exact_starts at_exact_plane at_sharded at_trailer
rest-short opens.Magic k s b at short place = bytes-short fields.PartMagic 8 (bytes_eq (codes "CLUBCARD")) _ b at short
rest-short opens.Version k s b at short place = number-short fields.PartVersion w8 1 2 _ b at short
rest-short opens.Kind k s b at short place = number-short fields.PartKind w8 0 1 _ b at short
rest-short opens.Epoch k s b at short place = number-short fields.PartEpoch w64 0 (2 ^ 64 - 1) _ b at short
rest-short opens.Parent k s b at short place = bytes-short fields.PartParent 32 (is_parent k.kind) _ b at short
rest-short opens.Ranges k s b at short place = number-short fields.PartRanges w16 0 MAX_RANGES _ b at short
rest-short opens.RangeLog k s b at short place = bytes-short fields.RangeLog 32 (is_after (previous k)) _ b at short
rest-short opens.RangeFrom k s b at short place = number-short fields.RangeFrom w64 0 (2 ^ 64 - 1) _ b at short
rest-short opens.RangeTo k s b at short place = number-short fields.RangeTo w64 k.from (2 ^ 64 - 1) _ b at short
rest-short opens.Issuers k s b at short place = number-short fields.PartIssuers w32 0 MAX_BLOCKS _ b at short
rest-short opens.BlockIssuer k s b at short place = bytes-short fields.BlockIssuer 32 (is_after (previous k)) _ b at short
rest-short opens.BlockMode k s b at short place = number-short fields.BlockMode w8 0 (greatest_mode k.version) _ b at short
rest-short opens.BlockShift k s b at short place = number-short fields.BlockShift w8 1 MAX_SHIFT _ b at short
rest-short opens.ShardMode k s b at short place = number-short fields.ShardMode w8 0 2 _ b at short
rest-short opens.BlockK k s b at short place = number-short fields.BlockK w8 0 MAX_PLANES _ b at short
rest-short opens.ApproxSeed k s b at short place = number-short fields.ApproxSeed w8 0 255 _ b at short
rest-short opens.ApproxStarts k s b at short place = number-short fields.ApproxStarts w32 1 MAX_STARTS _ b at short
rest-short opens.ApproxPlane k s b at short place = bytes-short fields.ApproxPlane (8 * words_for k.starts) (is_padded k.starts) _ b at short
rest-short opens.ExactSeed k s b at short place = number-short fields.ExactSeed w8 0 255 _ b at short
rest-short opens.ExactStarts k s b at short place = number-short fields.ExactStarts w32 1 MAX_STARTS _ b at short
rest-short opens.ExactPlane k s b at short place = bytes-short fields.ExactPlane (8 * words_for k.starts) (is_padded k.starts) _ b at short
rest-short opens.Sharded k s b at short place = absurd (omega (arith, short, place))
rest-short opens.Trailer k s b at short place = sum-short fields.PartTrailer _ b at short
rest-short opens.Done k s b at short place = absurd (omega arith)

-- ---- the first field

abbrev blocks_then : HeadFields → List Block → Rest
blocks_then h list = digest fields.PartTrailer >>= λ trailer. whole (record { part = record { head = h; blocks = list }; trailer = trailer })

abbrev head_then : ℕ × HeadFields → Rest
head_then h =
    number fields.PartIssuers w32 0 MAX_BLOCKS >>= λ count. blocks h.0 count >>= λ list. sharded_test h.0 (some_sharded list) >>= λ none. blocks_then h.1 list

abbrev trailer_then : PartFields → Rest
trailer_then p = digest fields.PartTrailer >>= λ trailer. whole (record { part = p; trailer = trailer })

abbrev list_then : ℕ × HeadFields → List Block → Layout LayoutFault PartFields
list_then h list = sharded_test h.0 (some_sharded list) >>= λ none. whole (record { head = h.1; blocks = list })

sealed-flat : ◌≡◌ {A = Rest} sealed (head >>= head_then)
unfolding sealed unsealed
sealed-flat =
    assoc head (λ h. number fields.PartIssuers w32 0 MAX_BLOCKS >>= λ count. blocks h.0 count >>= λ list. list_then h list) trailer_then
    ∙ under head _ _ (λ h.
    assoc (number fields.PartIssuers w32 0 MAX_BLOCKS) (λ count. blocks h.0 count >>= λ list. list_then h list) trailer_then
    ∙ under (number fields.PartIssuers w32 0 MAX_BLOCKS) _ _ (λ count.
    assoc (blocks h.0 count) (λ list. list_then h list) trailer_then
    ∙ under (blocks h.0 count) _ _ (λ list. assoc (sharded_test h.0 (some_sharded list)) (λ none. whole (record { head = h.1; blocks = list })) trailer_then)))

pub starts : (k : Kept) (s : Seen) → ◌≡◌ {A = Rest} sealed (at_magic k s)
unfolding head at_magic at_version at_kind at_epoch at_parent at_count at_ranges at_issuers at_blocks at_sharded at_trailer
starts k s =
    sealed-flat ∙ assoc (magic fields.PartMagic (codes "CLUBCARD")) _ head_then
    ∙ under (magic fields.PartMagic (codes "CLUBCARD")) _ _ (λ begin. assoc (number fields.PartVersion w8 1 2) _ head_then
    ∙ under (number fields.PartVersion w8 1 2) _ _ (λ version. assoc (number fields.PartKind w8 0 1) _ head_then
    ∙ under (number fields.PartKind w8 0 1) _ _ (λ kind. assoc (number fields.PartEpoch w64 0 (2 ^ 64 - 1)) _ head_then
    ∙ under (number fields.PartEpoch w64 0 (2 ^ 64 - 1)) _ _ (λ epoch. assoc (key fields.PartParent (is_parent kind)) _ head_then
    ∙ under (key fields.PartParent (is_parent kind)) _ _ (λ parent. assoc (number fields.PartRanges w16 0 MAX_RANGES) _ head_then
    ∙ under (number fields.PartRanges w16 0 MAX_RANGES) _ _ (λ count. assoc (repeated range next_log count None) _ head_then))))))
