-- What stands of a part that stands in bytes, and where.
use Rattle.std.proofs.Common.{◌≡◌, ℕ, zero, suc, ◌+◌, ◌*◌, ◌<◌, ◌≤◌, ◌^◌, List, [], ◌∷◌, ◌++◌, length, Option, Some, None, ap, ◌∙◌}
use Rattle.std.proofs.Common.{length-append, refl, arith}
use Rattle.std.specs.Prelude.{All, codes, flat_map}
use Rattle.std.specs.Int.{w8, w16, w32, w64, to_be_bytes}
use Rattle.sha2.proofs.Facts256.{length-sha256}
use Rattle.octets_core.specs.Linked.{Linked}
use Rattle.ident_core.specs.declared.range.Range.{Range}
use Rattle.ident_core.specs.RangeText.{FitsRange, range_text}
use Rattle.card_core.specs.declared.block.Block.{Block}
use Rattle.card_core.specs.PartFields.{PartFields}
use Rattle.part_text.specs.SealedFields.{SealedFields}
use Rattle.part_text.specs.Fitting.{BlockFits, FitsBlock, Fits}
use Rattle.part_text.specs.PartText.{kind_number, head_text, version_of, block_text, unsealed_text, spelling}
use Rattle.view_core.specs.Index.{ranges_at, blocks_at}
use Rattle.view_core.specs.Texts.{Stands}
use Rattle.view_core.proofs.Texts.{stands_first, stands_then, stands_within}

-- the second of three texts
pub stands_middle : (bytes : List ℕ) (at : ℕ) (t u v : List ℕ) (n : ℕ) → n ≡ at + length t → Stands bytes at (t ++ u ++ v)
    → Stands bytes n u
stands_middle bytes at t u v n is s = stands_then bytes at t u n is (stands_first bytes at (t ++ u) v s)

-- each range has 48 bytes
pub length_ranges : (last : Option (List ℕ)) (ranges : List Range) → Linked FitsRange (λ previous r. Some r.log) last ranges
    → length (flat_map range_text ranges) ≡ 48 * length ranges
length_ranges last [] fits = omega arith
length_ranges last (r ∷ ranges) fits =
    omega (
      arith,
      length-append (range_text r) (flat_map range_text ranges),
      length-append (r.log ++ to_be_bytes w64 r.from) (to_be_bytes w64 r.to),
      length-append r.log (to_be_bytes w64 r.from),
      fits.0.1.0,
      length_ranges (Some r.log) ranges fits.1,
    )

pub blocks_fit : (last : Option (List ℕ)) (blocks : List Block) → Linked FitsBlock (λ previous b. Some b.issuer) last blocks
    → All BlockFits blocks
blocks_fit last [] fits k d lt = absurd (omega arith)
blocks_fit last (b ∷ blocks) fits zero d lt = fits.0.1
blocks_fit last (b ∷ blocks) fits (suc k) d lt = blocks_fit (Some b.issuer) blocks fits.1 k d (omega arith)

-- Of a part that begins at this place: its counts, its ranges and its blocks stand in the bytes; and how long it is.
pub record HoldsPart (bytes : List ℕ) (at : ℕ) (s : SealedFields) : Type 0 where
  pub version : Stands bytes (at + 8) (to_be_bytes w8 (version_of s.part.blocks))
  pub few_ranges : length s.part.head.ranges < 2 ^ 16
  pub ranges_count : Stands bytes (at + 50) (to_be_bytes w16 (length s.part.head.ranges))
  pub ranges : Stands bytes (ranges_at at) (flat_map range_text s.part.head.ranges)
  pub few_blocks : length s.part.blocks < 2 ^ 32
  pub blocks_count : Stands bytes (ranges_at at + 48 * length s.part.head.ranges) (to_be_bytes w32 (length s.part.blocks))
  pub blocks : Stands bytes (blocks_at at s.part) (flat_map block_text s.part.blocks)
  pub all_fit : All BlockFits s.part.blocks
  pub long : at + length (spelling s) ≡ blocks_at at s.part + length (flat_map block_text s.part.blocks) + 32
  pub within : at + length (spelling s) ≤ length bytes

record HoldsHead (bytes : List ℕ) (at version : ℕ) (p : PartFields) : Type 0 where
  pub long : length (head_text version p.head) ≡ 52 + 48 * length p.head.ranges
  pub told : Stands bytes at (head_text version p.head) → Stands bytes (at + 8) (to_be_bytes w8 version)
  pub count : Stands bytes at (head_text version p.head) → Stands bytes (at + 50) (to_be_bytes w16 (length p.head.ranges))
  pub ranges : Stands bytes at (head_text version p.head) → Stands bytes (ranges_at at) (flat_map range_text p.head.ranges)

head_holds : (bytes : List ℕ) (at version : ℕ) (p : PartFields) → length p.head.parent ≡ 32
    → Linked FitsRange (λ previous r. Some r.log) None p.head.ranges → HoldsHead bytes at version p
unfolding head_text
head_holds bytes at version p parent ranges =
    let magic = codes "CLUBCARD" in
    let kind = to_be_bytes w8 (kind_number p.head.kind) in
    let front = magic ++ to_be_bytes w8 version ++ kind in
    let epoch = to_be_bytes w64 p.head.epoch in
    let t = front ++ epoch ++ p.head.parent in
    let u = to_be_bytes w16 (length p.head.ranges) in
    let v = flat_map range_text p.head.ranges in
    let before : length t ≡ 50 = omega (
      arith,
      length-append (front ++ epoch) p.head.parent,
      length-append front epoch,
      length-append (codes "CLUBCARD" ++ to_be_bytes w8 version) (to_be_bytes w8 (kind_number p.head.kind)),
      length-append (codes "CLUBCARD") (to_be_bytes w8 version),
      parent,
    ) in
    let counted : length (t ++ u) ≡ 52 = omega (arith, before, length-append t u) in
    record {
      long = omega (arith, counted, length-append (t ++ u) v, length_ranges None p.head.ranges ranges);
      told = λ s. stands_middle bytes at magic (to_be_bytes w8 version) kind (at + 8) refl
          (stands_first bytes at front epoch (stands_first bytes at (front ++ epoch) p.head.parent
          (stands_first bytes at t u (stands_first bytes at (t ++ u) v s))));
      count = λ s. stands_middle bytes at t u v (at + 50) (omega (arith, before)) s;
      ranges = λ s. stands_then bytes at (t ++ u) v (at + 52) (omega (arith, counted)) s;
    }

pub standing_part : (bytes : List ℕ) (at : ℕ) (s : SealedFields) → Fits s → Stands bytes at (spelling s) → HoldsPart bytes at s
unfolding spelling unsealed_text
standing_part bytes at s fits stands =
    let p = s.part in
    let head = head_text (version_of p.blocks) p.head in
    let count = to_be_bytes w32 (length p.blocks) in
    let blocks = flat_map block_text p.blocks in
    let holds = head_holds bytes at (version_of p.blocks) p fits.part.head.parent fits.part.head.ranges in
    let unsealed = stands_first bytes at (head ++ count ++ blocks) s.trailer stands in
    let counted = stands_first bytes at (head ++ count) blocks unsealed in
    let begins = stands_first bytes at head count counted in
    let whole = length-append (head ++ count ++ blocks) s.trailer in
    let digest : length s.trailer ≡ 32 = ap length fits.trailer ∙ length-sha256 (unsealed_text p) in
    record {
      version = holds.told begins;
      few_ranges = omega (arith, fits.part.head.facts.ranges.few);
      ranges_count = holds.count begins;
      ranges = holds.ranges begins;
      few_blocks = omega (arith, fits.part.facts.few);
      blocks_count = stands_then bytes at head count (ranges_at at + 48 * length p.head.ranges) (omega (arith, holds.long)) counted;
      blocks = stands_then bytes at (head ++ count) blocks (blocks_at at p) (omega (arith, holds.long, length-append head count)) unsealed;
      all_fit = blocks_fit None p.blocks fits.part.blocks;
      long = omega (arith, holds.long, digest, whole, length-append (head ++ count) blocks, length-append head count);
      within = stands_within bytes at (head ++ count ++ blocks ++ s.trailer) (omega (arith, digest, whole)) stands;
    }
