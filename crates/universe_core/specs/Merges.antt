-- Items of a ledger and read entries of a job, merged beside the parts before it.
use Rattle.std.specs.Prelude.{◌≡◌, ℕ, ◌<◌, ◌++◌, Bool, List, [], All, map, length}
use Rattle.std.specs.List.Sorted.{IsStrictlySortedBy}
use Rattle.ident_core.specs.Order.{identity_cmp, octets_cmp}
use Rattle.ledger_core.specs.LedgerFields.{ids}
use Rattle.ledger_core.specs.declared.fields.LedgerItem.{LedgerItem}
use Rattle.universe_core.specs.Judging.{IsSearchable, is_late_beside, judge_of}
use Rattle.universe_core.specs.Members.{as_item}
use Rattle.universe_core.specs.Merging.{count_told, merged}
use Rattle.universe_core.specs.Reading.{IsPlaced, entries_of}
use Rattle.universe_core.specs.declared.judging.Context.{Context}
use Rattle.universe_core.specs.declared.member.Member.{Member}
use Rattle.universe_core.specs.declared.member.Members.{Members}
use Rattle.universe_core.specs.declared.merging.Merged.{Merged}
use Rattle.universe_core.specs.declared.read_entry.ReadEntry.{ReadEntry}

-- items and issuers ascend, the entries are placed among the issuers and the ranges, and the parts can be searched
pub record AreMergeable (c : Context) (items : List LedgerItem) (entries : List ReadEntry) : Type 0 where
  pub few : length c.parts.now < 256
  pub searchable : All IsSearchable c.parts.now
  pub issuers_ascend : IsStrictlySortedBy octets_cmp c.issuers.now
  pub items_ascend : IsStrictlySortedBy identity_cmp (ids items)
  pub placed : All (IsPlaced c.issuers.now c.ranges.now) entries

-- what is made of the identities of items and entries
abbrev pub made_of_both : Context → List LedgerItem → List ReadEntry → List Member
made_of_both c items entries = merged (judge_of c.parts.now) items (entries_of c.issuers.now c.ranges.now entries)

-- the same behind the items and flags of old members, and how many entries are late
pub record IsMergedBehind (c : Context) (items : List LedgerItem) (entries : List ReadEntry)
    (old_items : List LedgerItem) (old_settled : List Bool)
    (new : Members) (late : ℕ) : Type 0 where
  pub made : new.items.items ≡ old_items ++ map as_item (made_of_both c items entries)
  pub settled : new.settled.items ≡ old_settled ++ map (λ m. m.settled) (made_of_both c items entries)
  pub told : late ≡ count_told (is_late_beside c.parts.now) items (entries_of c.issuers.now c.ranges.now entries)

-- the same behind none
abbrev pub IsMergeOf : Context → List LedgerItem → List ReadEntry → Merged → Type 0
IsMergeOf c items entries m = IsMergedBehind c items entries [] [] m.members m.late
