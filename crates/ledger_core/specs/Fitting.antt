-- The ledgers that have a text: their facts hold, and numbers and keys fit their fields.
use Rattle.std.specs.Prelude.{◌≡◌, ℕ, ◌<◌, ◌≤◌, ◌^◌, List, length, All, IfSome}
use Rattle.std.specs.Int.{w64}
use Rattle.std.specs.Int.RustNames.{FitsSigned}
use Rattle.ident_core.specs.declared.bounds.TheConstants.{MAX_RANGES, MAX_ISSUERS, MAX_SERIAL}
use Rattle.ident_core.specs.RangeText.{RangeFits}
use Rattle.ledger_core.specs.declared.fields.LedgerItem.{LedgerItem}
use Rattle.ledger_core.specs.LedgerFields.{LedgerPartFields, LedgerFields, IsLedger}

-- its counts fit their fields
abbrev pub IsSmall : LedgerPartFields → Type 0
IsSmall p = (length p.ranges ≤ MAX_RANGES) × (length p.issuers ≤ MAX_ISSUERS)

abbrev pub IsKey : List ℕ → Type 0
IsKey k = length k ≡ 32

pub record PartFits (p : LedgerPartFields) : Type 0 where
  pub epoch : p.epoch < 2 ^ 64
  pub trailer : IsKey p.trailer
  pub ranges : All RangeFits p.ranges
  pub issuers : All IsKey p.issuers

pub record ItemFits (x : LedgerItem) : Type 0 where
  pub issuer : IsKey x.id.issuer
  pub some_octets : 1 ≤ length x.id.serial
  pub few_octets : length x.id.serial ≤ MAX_SERIAL
  pub until : IfSome x.until (FitsSigned w64)

pub record Fits (l : LedgerFields) : Type 0 where
  pub facts : IsLedger l
  pub parts : All PartFits l.parts
  pub items : All ItemFits l.items
