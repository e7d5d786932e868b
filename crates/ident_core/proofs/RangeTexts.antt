-- What is read as a range, or as ranges, is spelled so, and what is spelled so is read, whatever follows.
use Rattle.std.proofs.Common.{◌≡◌, ℕ, ◌-◌, ◌<◌, ◌≤◌, ◌^◌, List, length, Option, Some, None, arith}
use Rattle.std.specs.Prelude.{All, flat_map}
use Rattle.std.specs.Int.{w64}
use Rattle.octets_core.specs.Linked.{Linked, is_after}
use Rattle.octets_core.proofs.Loops.{Linked-with}
use Rattle.octets_core.proofs.Texts.{IsBytes, IsRead, reads, done, from_front, bytes_field-read, number_field-read, repeated-read, Leaves, Takes, ◌>>>◌, ◌>>-◌}
use Rattle.octets_core.proofs.Texts.{whole-leaves, bytes_field-leaves, number_field-leaves, repeated-leaves, wide64, Linked-weaken}
use Rattle.ident_core.specs.declared.range.Range.{Range}
use Rattle.ident_core.specs.Coverage.{IsRangeAfter, AreRanges}
use Rattle.ident_core.specs.RangeLayout.{range, ranges}
use Rattle.ident_core.specs.RangeText.{range_text, RangeFits, FitsRange}

pub below_limit : (n : ℕ) → n < 2 ^ 64 → n ≤ 2 ^ 64 - 1
below_limit n h = omega arith

pub range-read : (previous : Option (List ℕ)) (before : List ℕ) (r : Range) → FitsRange previous r → IsRead (range previous) before r (range_text r)
unfolding range
range-read previous before r fits = from_front
    (reads _ (bytes_field-read _ _ 32 (is_after previous) _ r.log fits.1.0 fits.0.0)
    (reads _ (number_field-read _ _ w64 (2 ^ 64) 0 (2 ^ 64 - 1) wide64 _ r.from (omega arith) (below_limit _ fits.1.1) fits.1.1)
    (reads _ (number_field-read _ _ w64 (2 ^ 64) r.from (2 ^ 64 - 1) wide64 _ r.to fits.0.1 (below_limit _ fits.1.2) fits.1.2)
    (done r))))

pub range-leaves : (bytes : List ℕ) → IsBytes bytes → (previous : Option (List ℕ)) (at : ℕ) → Leaves (range previous) bytes at (λ r end. Takes bytes at (range_text r) end × FitsRange previous r)
unfolding range
range-leaves bytes fits previous at =
    bytes_field-leaves _ _ 32 (is_after previous) bytes at >>- λ log p a.
    number_field-leaves _ _ w64 (2 ^ 64) 0 (2 ^ 64 - 1) wide64 bytes fits p >>- λ from q b.
    number_field-leaves _ _ w64 (2 ^ 64) from (2 ^ 64 - 1) wide64 bytes fits q >>- λ to end c.
    whole-leaves _ bytes end _ (a.takes >>> b.takes >>> c.takes, ((a.passed, c.from_low), (a.len, omega (arith, b.to_high), omega (arith, c.to_high))))

-- ---- many

pub ranges-read : (before : List ℕ) (rs : List Range) → Linked FitsRange (λ previous r. Some r.log) None rs → IsRead (ranges (length rs)) before rs (flat_map range_text rs)
ranges-read before rs linked = repeated-read range (λ previous r. Some r.log) FitsRange range_text range-read None before rs linked

pub ranges-leaves : (bytes : List ℕ) → IsBytes bytes → (count at : ℕ) → at ≤ length bytes
    → Leaves (ranges count) bytes at (λ rs end. Takes bytes at (flat_map range_text rs) end × Linked FitsRange (λ previous r. Some r.log) None rs × (length rs ≡ count))
ranges-leaves bytes fits count at le = repeated-leaves range (λ previous r. Some r.log) FitsRange range_text bytes (range-leaves bytes fits) count None at le

range-facts : (previous : Option (List ℕ)) (r : Range) → FitsRange previous r → IsRangeAfter previous r
range-facts previous r fits = fits.0

-- ranges that were read are in order
pub ranges-ascend : (rs : List Range) → Linked FitsRange (λ previous r. Some r.log) None rs → AreRanges rs
ranges-ascend rs linked = Linked-weaken FitsRange IsRangeAfter (λ previous r. Some r.log) range-facts None rs linked

-- ranges in order, each of which fits its fields
pub ranges-fit : (rs : List Range) → AreRanges rs → All RangeFits rs → Linked FitsRange (λ previous r. Some r.log) None rs
ranges-fit rs ascend all = Linked-with IsRangeAfter RangeFits (λ previous r. Some r.log) None rs ascend all
