-- A rebase: a chain that begins anew, with one part, from what a ledger keeps. Which items are kept is told by a test. A
-- rebase of what a cut keeps is that of the ledger, cut.
use Rattle.std.specs.Prelude.{ℕ, List, [], ◌∷◌, map, filter, flat_map, count_by, Bool, not, Option, Some, None, is_some}
use Rattle.std.specs.Option.{option_map}
use Rattle.ident_core.specs.declared.identity.Identity.{Identity}
use Rattle.ident_core.specs.declared.range.Range.{Range}
use Rattle.ident_core.specs.declared.kind.Kind.TheVariants as kinds
use Rattle.ident_core.specs.HeadFields.{HeadFields, zero_key}
use Rattle.ledger_core.specs.declared.fields.LedgerItem.{LedgerItem}
use Rattle.ledger_core.specs.LedgerFields.{LedgerPartFields, LedgerFields, ids, newest}
use Rattle.ident_core.specs.Sets.{has, key_set}
use Rattle.place_core.specs.Cuts.{Cut, is_kept}
use Rattle.universe_core.specs.Jobs.{is_stale}
use Rattle.universe_core.specs.Groups.{GroupFields, members_of}

-- ---- what a cut keeps

-- whether the item's identity is kept
abbrev pub is_kept_item : Cut → LedgerItem → Bool
is_kept_item cut i = is_kept cut i.id

-- the part with those of its issuers that are taken
abbrev pub part_cut : Cut → LedgerPartFields → LedgerPartFields
part_cut cut p = record p { issuers = filter cut.takes p.issuers }

-- the ledger with the issuers that are taken, and the identities that are kept
unfoldable pub ledger_cut : Cut → LedgerFields → LedgerFields
ledger_cut cut ledger = record { parts = map (part_cut cut) ledger.parts; items = filter (is_kept_item cut) ledger.items }

-- how many identities aren't kept
abbrev pub count_left : Cut → LedgerFields → ℕ
count_left cut ledger = count_by (λ i. not (is_kept_item cut i)) ledger.items

-- ---- what lasts

-- Whether an item has not expired at a moment, in milliseconds since 1970: it has no date, or one that isn't before it.
abbrev pub is_lasting : ℕ → LedgerItem → Bool
is_lasting moment i = not (is_stale moment i.until)

abbrev pub kept : (LedgerItem → Bool) → LedgerFields → List LedgerItem
kept keeps ledger = filter keeps ledger.items

-- those of them that some part was built with as revoked
abbrev pub kept_revoked : (LedgerItem → Bool) → LedgerFields → List LedgerItem
kept_revoked keeps ledger = filter (λ i. is_some i.last) (kept keeps ledger)

-- how many items aren't kept
abbrev pub count_pruned : (LedgerItem → Bool) → LedgerFields → ℕ
count_pruned keeps ledger = count_by (λ i. not (keeps i)) ledger.items

-- ---- the part

-- the issuers of all parts, ascending
abbrev pub issuers_in : List LedgerPartFields → List (List ℕ)
issuers_in parts = key_set (flat_map (λ p. p.issuers) parts)

abbrev pub epoch_by : Option LedgerPartFields → ℕ
epoch_by None = 0
epoch_by (Some p) = p.epoch

abbrev pub ranges_by : Option LedgerPartFields → List Range
ranges_by None = []
ranges_by (Some p) = p.ranges

-- the head of the part: a snapshot of the newest part's epoch and coverage
abbrev pub rebased_head : List LedgerPartFields → HeadFields
rebased_head parts = record { kind = kinds.Snapshot; epoch = epoch_by (newest parts); parent = zero_key; ranges = ranges_by (newest parts) }

-- the group of an issuer: its identities among these, and which of them are revoked
abbrev pub group_among : List Identity → List Identity → List ℕ → GroupFields
group_among xs revoked issuer =
    record { issuer = issuer; universe = members_of issuer xs; revoked = map (has revoked) (members_of issuer xs) }

-- a group for each issuer of all parts, in their order
unfoldable pub rebased_groups : (LedgerItem → Bool) → LedgerFields → List GroupFields
rebased_groups keeps ledger = map (group_among (ids (kept keeps ledger)) (ids (kept_revoked keeps ledger))) (issuers_in ledger.parts)

-- ---- the ledger

abbrev pub rebased_part : List LedgerPartFields → List ℕ → LedgerPartFields
rebased_part parts trailer =
    record {
      epoch = epoch_by (newest parts);
      trailer = trailer;
      ranges = ranges_by (newest parts);
      issuers = issuers_in parts;
    }

-- each is born with the one part, which is its last if it had one
abbrev pub rebased_item : LedgerItem → LedgerItem
rebased_item i = record { id = i.id; birth = 0; last = option_map (λ r. 0) i.last; until = i.until }

abbrev pub rebased_ledger : (LedgerItem → Bool) → LedgerFields → List ℕ → LedgerFields
rebased_ledger keeps ledger trailer =
    record { parts = rebased_part ledger.parts trailer ∷ []; items = map rebased_item (kept keeps ledger) }
