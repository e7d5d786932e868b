-- What becomes of an identity: its item and its entries.
use Rattle.std.specs.Prelude.{ℕ, ℤ, List, ◌++◌, map, filter, take, length, Bool, cond, not, ◌||◌, Option, Some, None, is_some}
use Rattle.std.specs.List.{list_any}
use Rattle.std.specs.Option.{option_map}
use Rattle.std.specs.List.Sorted.{IsStrictlySortedBy}
use Rattle.ident_core.specs.declared.identity.Identity.{Identity}
use Rattle.ident_core.specs.declared.range.Sighting.{Sighting}
use Rattle.ident_core.specs.Coverage.{AreRanges}
use Rattle.ident_core.specs.Order.{octets_cmp}
use Rattle.ledger_core.specs.declared.fields.LedgerPart.{LedgerPart}
use Rattle.ledger_core.specs.declared.fields.LedgerItem.{LedgerItem}
use Rattle.ledger_core.specs.LedgerFields.{part_fields}
use Rattle.universe_core.specs.Dates.{later_of, greatest}
use Rattle.universe_core.specs.Ledgers.{birth_or, last_or_none, last_covers, covered_and_enrolled_by, old_dates}
use Rattle.universe_core.specs.Jobs.{Entry}
use Rattle.universe_core.specs.Reading.{entry_fields}
use Rattle.universe_core.specs.declared.judging.Context.{Context}
use Rattle.universe_core.specs.declared.member.Member.{Member}
use Rattle.universe_core.specs.declared.read_entry.ReadEntry.{ReadEntry}

-- the part's issuers ascend, and so do the logs of its ranges
pub record IsSearchable (p : LedgerPart) : Type 0 where
  pub issuers : IsStrictlySortedBy octets_cmp p.issuers.items
  pub ranges : AreRanges p.ranges.items

-- whether an entry is late, of an identity that was born before so many of the parts
abbrev pub is_late_by : List LedgerPart → ℕ → Entry → Bool
is_late_by parts birth e = covered_and_enrolled_by (take birth (map part_fields parts)) e.id e.sighting

-- the same of an identity with this item
abbrev pub is_late_beside : List LedgerPart → Option LedgerItem → Entry → Bool
is_late_beside parts old e = is_late_by parts (birth_or (length parts) old) e

abbrev pub is_timely : List LedgerPart → ℕ → Entry → Bool
is_timely parts birth e = not (is_late_by parts birth e)

-- the same of a read entry
abbrev pub is_late_in : Context → ℕ → ReadEntry → Bool
is_late_in c birth e = is_late_by c.parts.now birth (entry_fields c.issuers.now c.ranges.now e)

abbrev pub is_timely_in : Context → ℕ → ReadEntry → Bool
is_timely_in c birth e = not (is_late_in c birth e)

abbrev pub timely : List LedgerPart → Option LedgerItem → List Entry → List Entry
timely parts old run = filter (is_timely parts (birth_or (length parts) old)) run

abbrev pub sightings_of : List Entry → List Sighting
sightings_of run = map (λ e. e.sighting) run

abbrev pub dates_of : List Entry → List (Option ℤ)
dates_of run = map (λ e. e.until) run

-- the greatest date so far with one more, where there is none at first
abbrev pub with_date : Option (Option ℤ) → Option ℤ → Option (Option ℤ)
with_date None date = Some date
with_date (Some so_far) date = Some (later_of so_far date)

-- whether it has an item, or an entry that isn't late
abbrev pub is_member_of : List LedgerPart → Option LedgerItem → List Entry → Bool
is_member_of parts old run = is_some old || list_any (is_timely parts (birth_or (length parts) old)) run

abbrev pub member_of : List LedgerPart → Identity → Option LedgerItem → List Entry → Member
member_of parts x old run = record {
  id = x;
  birth = birth_or (length parts) old;
  last = last_or_none old;
  settled = last_covers (map part_fields parts) (last_or_none old) (sightings_of (timely parts old run));
  until = greatest (old_dates old ++ dates_of (timely parts old run));
}

abbrev pub judge_of : List LedgerPart → Identity → Option LedgerItem → List Entry → Option Member
judge_of parts x old run = cond (is_member_of parts old run) (Some (member_of parts x old run)) None

-- what is made of a member, of an identity that is one
abbrev pub made_of : {M : Type 0} → (Member → M) → List LedgerPart → Identity → Option LedgerItem → List Entry → Option M
made_of f parts x old run = option_map f (judge_of parts x old run)
