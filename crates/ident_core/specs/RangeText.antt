-- The text of a range: the bytes that its layout reads as it; and the ranges that have one.
use Rattle.std.specs.Prelude.{◌≡◌, ℕ, ◌<◌, ◌^◌, List, ◌++◌, length, Option}
use Rattle.std.specs.Int.{w64, to_be_bytes}
use Rattle.ident_core.specs.declared.range.Range.{Range}
use Rattle.ident_core.specs.Coverage.{IsRangeAfter}

abbrev pub range_text : Range → List ℕ
range_text r = r.log ++ to_be_bytes w64 r.from ++ to_be_bytes w64 r.to

-- the log is a key, and the ends have 64 bits
abbrev pub RangeFits : Range → Type 0
RangeFits r = (length r.log ≡ 32) × (r.from < 2 ^ 64) × (r.to < 2 ^ 64)

abbrev pub FitsRange : Option (List ℕ) → Range → Type 0
FitsRange previous r = IsRangeAfter previous r × RangeFits r
