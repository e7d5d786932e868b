-- Read entries, sorted by their identities, and in two parts.
use Rattle.std.specs.Prelude.{◌≡◌, ◌++◌, ℕ, List, All, true, false}
use Rattle.std.specs.List.{Contains}
use Rattle.std.specs.List.Sorted.{IsPermutation, IsStrictlySortedBy}
use Rattle.std.specs.Ordering.{is_lt}
use Rattle.ident_core.specs.Order.{octets_cmp}
use Rattle.ident_core.specs.declared.range.Range.{Range}
use Rattle.universe_core.specs.Merging.{IsRising}
use Rattle.universe_core.specs.Placing.{placed_cmp}
use Rattle.universe_core.specs.Reading.{IsPlaced, entries_of}
use Rattle.universe_core.specs.declared.read_entry.ReadEntry.{ReadEntry}

-- the same entries, which rise where they are placed among issuers that ascend
pub record IsSortOf (old new : List ReadEntry) : Type 0 where
  pub same : IsPermutation old new
  pub rising : (issuers : List (List ℕ)) (ranges : List Range) → IsStrictlySortedBy octets_cmp issuers → All (IsPlaced issuers ranges) old
      → IsRising (entries_of issuers ranges new)

-- the same entries in two parts: those that come before one of them, and the others
pub record AreHalves (entries low high : List ReadEntry) (cut : ReadEntry) : Type 0 where
  pub same : IsPermutation entries (low ++ high)
  pub among : Contains entries cut
  pub before : All (λ e. is_lt (placed_cmp e cut) ≡ true) low
  pub behind : All (λ e. is_lt (placed_cmp e cut) ≡ false) high
