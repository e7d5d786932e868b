-- The ledger: two numbers and a date an identity in place of the history. What it tells a job, the next one, and that of
-- a history.
use Rattle.std.specs.Prelude.{ℕ, ℤ, suc, List, [], ◌∷◌, ◌++◌, map, find, take, length, Bool, true, false, ◌&&◌}
use Rattle.std.specs.Prelude.{if◌then◌else◌, Option, Some, None, is_some}
use Rattle.std.specs.List.{list_any, slice_get}
use Rattle.ident_core.specs.declared.identity.Identity.{Identity}
use Rattle.ident_core.specs.declared.range.Sighting.{Sighting}
use Rattle.ident_core.specs.Order.{is_same}
use Rattle.ident_core.specs.Coverage.{covers}
use Rattle.ledger_core.specs.declared.fields.LedgerItem.{LedgerItem}
use Rattle.ledger_core.specs.declared.fields.LedgerPart.{LedgerPart}
use Rattle.ledger_core.specs.LedgerFields.{LedgerPartFields, LedgerFields, ledger_fields}
use Rattle.ident_core.specs.Sets.{has, has_key}
use Rattle.universe_core.specs.Jobs.{JobFacts, enrolled}
use Rattle.universe_core.specs.History.{Release, Past, covers_all, shown, accepted_with, revoked, birth, accepted_by}
use Rattle.universe_core.specs.Dates.{greatest, dates, until}

-- the ledger before the first job
abbrev pub no_ledger : LedgerFields
no_ledger = record { parts = []; items = [] }

abbrev pub ledger_or_none : Option LedgerFields → LedgerFields
ledger_or_none None = no_ledger
ledger_or_none (Some l) = l

-- ---- what a ledger tells

unfoldable pub item_of : LedgerFields → Identity → Option LedgerItem
item_of ledger x = find (λ i. is_same x i.id) ledger.items

abbrev pub birth_or : ℕ → Option LedgerItem → ℕ
birth_or none None = none
birth_or none (Some i) = i.birth

abbrev pub last_or_none : Option LedgerItem → Option ℕ
last_or_none None = None
last_or_none (Some i) = i.last

-- the date that an identity has so far, as the one date told, if it has an item
abbrev pub old_dates : Option LedgerItem → List (Option ℤ)
old_dates None = []
old_dates (Some i) = i.until ∷ []

-- the parts before the identity's birth; all of them if it has no item
unfoldable pub parts_before : LedgerFields → Identity → List LedgerPartFields
parts_before ledger x = take (birth_or (length ledger.parts) (item_of ledger x)) ledger.parts

-- whether one of the parts covers the sighting and enrolls the issuer
abbrev pub covered_and_enrolled_by : List LedgerPartFields → Identity → Sighting → Bool
covered_and_enrolled_by parts x s = list_any (λ p. covers p.ranges s && has_key p.issuers x.issuer) parts

abbrev pub part_covers : Option LedgerPartFields → List Sighting → Bool
part_covers None ss = false
part_covers (Some p) ss = covers_all p.ranges ss

-- whether the part of the last covers these sightings
abbrev pub last_covers : List LedgerPartFields → Option ℕ → List Sighting → Bool
last_covers parts None ss = false
last_covers parts (Some r) ss = part_covers (slice_get parts r) ss

unfoldable pub past_in : LedgerFields → Past
past_in ledger = record {
  accepted = map (λ i. i.id) ledger.items;
  comes_late = λ x s. covered_and_enrolled_by (parts_before ledger x) x s;
  listed_before = λ x. is_some (last_or_none (item_of ledger x));
  already_revoked = λ x now. last_covers ledger.parts (last_or_none (item_of ledger x)) now;
}

-- the same of a ledger as the code has it
abbrev pub past_by : List LedgerPart → List LedgerItem → Past
past_by parts items = past_in (ledger_fields parts items)

-- ---- the next ledger

-- an identity keeps its birth, and a new one is born now; a revoked one has this part as its last; the date is the
-- greatest of the item's and of those that the job's accepted entries tell, and none where one of these isn't told
abbrev pub next_item : Past → LedgerFields → JobFacts → Identity → LedgerItem
next_item past ledger job x = record {
  id = x;
  birth = birth_or (length ledger.parts) (item_of ledger x);
  last = if has (revoked past job) x then Some (length ledger.parts) else last_or_none (item_of ledger x);
  until = greatest (old_dates (item_of ledger x) ++ dates x (shown past job));
}

abbrev pub part_after : JobFacts → List ℕ → LedgerPartFields
part_after job trailer = record { epoch = job.epoch; trailer = trailer; ranges = job.ranges; issuers = enrolled job }

abbrev pub next_with : Past → LedgerFields → JobFacts → List ℕ → LedgerFields
next_with past ledger job trailer = record {
  parts = ledger.parts ++ part_after job trailer ∷ [];
  items = map (next_item past ledger job) (accepted_with past job);
}

abbrev pub next_ledger : LedgerFields → JobFacts → List ℕ → LedgerFields
next_ledger ledger job trailer = next_with (past_in ledger) ledger job trailer

-- ---- the ledger of a history

abbrev pub later : Option ℕ → Bool → Option ℕ
later (Some r) b = Some (suc r)
later None true = Some 0
later None false = None

-- the place of the last element that passes
unfoldable pub last_place : {A : Type 0} → (A → Bool) → List A → Option ℕ
last_place p [] = None
last_place p (x ∷ xs) = later (last_place p xs) (p x)

-- the place of the last release that revokes the identity
unfoldable pub last : Identity → List Release → Option ℕ
last x rs = last_place (λ r. has r.revoked x) rs

abbrev pub item_from : List Release → Identity → LedgerItem
item_from rs x = record { id = x; birth = birth x rs; last = last x rs; until = until x rs }

abbrev pub part_from : Release → LedgerPartFields
part_from r = record { epoch = r.epoch; trailer = r.trailer; ranges = r.ranges; issuers = r.issuers }

unfoldable pub ledger_of : List Release → LedgerFields
ledger_of rs = record { parts = map part_from rs; items = map (item_from rs) (accepted_by [] rs) }
