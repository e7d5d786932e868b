-- What the publisher remembers of a chain of parts: the parts, and the identities that were accepted.
use Rattle.std.specs.Prelude.{ℕ, ◌<◌, ◌≤◌, List, [], ◌∷◌, length, map, All, Option, Some, None, IfSome}
use Rattle.std.specs.List.Sorted.{IsStrictlySortedBy}
use Rattle.octets_core.specs.Linked.{Linked}
use Rattle.ident_core.specs.declared.bounds.TheConstants.{MAX_ISSUERS, MAX_PARTS, MAX_IDENTITIES}
use Rattle.ident_core.specs.declared.range.Range.{Range}
use Rattle.ident_core.specs.declared.identity.Identity.{Identity}
use Rattle.ident_core.specs.Order.{octets_cmp, identity_cmp}
use Rattle.ident_core.specs.Coverage.{LiesWithin, RangesFit}
use Rattle.ledger_core.specs.declared.fields.LedgerPart.{LedgerPart}
use Rattle.ledger_core.specs.declared.fields.LedgerItem.{LedgerItem}

pub record LedgerPartFields : Type 0 where
  pub epoch : ℕ
  pub trailer : List ℕ
  pub ranges : List Range
  pub issuers : List (List ℕ)

-- the parts, oldest first, and the identities with their births and lasts
pub record LedgerFields : Type 0 where
  pub parts : List LedgerPartFields
  pub items : List LedgerItem

-- the same of the types of the code

abbrev pub part_fields : LedgerPart → LedgerPartFields
part_fields p = record { epoch = p.epoch; trailer = p.trailer; ranges = p.ranges.items; issuers = p.issuers.items }

abbrev pub ledger_fields : List LedgerPart → List LedgerItem → LedgerFields
ledger_fields parts items = record { parts = map part_fields parts; items = items }

-- the last of some parts, if there is one
abbrev pub newest : List LedgerPartFields → Option LedgerPartFields
newest [] = None
newest (p ∷ []) = Some p
newest (p ∷ q ∷ parts) = newest (q ∷ parts)

-- The first part of a chain continues none. A later one has a greater epoch than the part before it, and covers what
-- that one covers.
abbrev pub Continues : Option LedgerPartFields → LedgerPartFields → Type 0
Continues None p = Unit {0}
Continues (Some previous) p = (previous.epoch < p.epoch) × LiesWithin previous.ranges p.ranges

-- what each part keeps, behind the part before it, if there is one
pub record IsPartAfter (previous : Option LedgerPartFields) (p : LedgerPartFields) : Type 0 where
  pub continues : Continues previous p
  pub ranges : RangesFit p.ranges
  pub few_issuers : length p.issuers ≤ MAX_ISSUERS
  pub issuers_ascend : IsStrictlySortedBy octets_cmp p.issuers

abbrev pub AreParts : List LedgerPartFields → Type 0
AreParts parts = Linked IsPartAfter (λ previous p. Some p) None parts

-- the birth is the place of one of so many parts, and the last, if there is one, of the same or a later one
pub record IsItemOf (parts : ℕ) (x : LedgerItem) : Type 0 where
  pub birth : x.birth < parts
  pub last : IfSome x.last (λ r. (x.birth ≤ r) × (r < parts))

abbrev pub ids : List LedgerItem → List Identity
ids items = map (λ x. x.id) items

-- The facts that each ledger keeps. None is asked of trailers.
pub record IsLedger (l : LedgerFields) : Type 0 where
  pub some_parts : 1 ≤ length l.parts
  pub few_parts : length l.parts ≤ MAX_PARTS
  pub parts : AreParts l.parts
  pub few_items : length l.items ≤ MAX_IDENTITIES
  pub items_ascend : IsStrictlySortedBy identity_cmp (ids l.items)
  pub items : All (IsItemOf (length l.parts)) l.items

abbrev pub with_trailer : LedgerPartFields → List ℕ → LedgerPartFields
with_trailer p trailer = record p { trailer = trailer }

-- the last part with this trailer
abbrev pub sealed_parts : List LedgerPartFields → List ℕ → List LedgerPartFields
sealed_parts [] trailer = []
sealed_parts (p ∷ []) trailer = with_trailer p trailer ∷ []
sealed_parts (p ∷ q ∷ parts) trailer = p ∷ sealed_parts (q ∷ parts) trailer

-- the ledger whose newest part has this trailer
abbrev pub sealed_with : LedgerFields → List ℕ → LedgerFields
sealed_with l trailer = record { parts = sealed_parts l.parts trailer; items = l.items }
