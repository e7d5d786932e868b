-- What is said of an identity that is accepted.
use Rattle.std.specs.Prelude.{◌≡◌, ℕ, List, [], ◌∷◌, ◌++◌, map, filter_map, length, Bool, cond, Some}
use Rattle.ident_core.specs.declared.identity.Identity.{Identity}
use Rattle.ident_core.specs.declared.range.Range.{Range}
use Rattle.ident_core.specs.HeadFields.{zero_key}
use Rattle.ledger_core.specs.declared.fields.LedgerItem.{LedgerItem}
use Rattle.ledger_core.specs.declared.fields.LedgerPart.{LedgerPart}
use Rattle.ledger_core.specs.LedgerFields.{LedgerFields, LedgerPartFields, part_fields}
use Rattle.job_core.specs.declared.meaning.JobCrl.{JobCrl}
use Rattle.job_core.specs.JobFields.{crl_view}
use Rattle.universe_core.specs.Jobs.{Crl, JobFacts, accepted_crl, enrolled}
use Rattle.universe_core.specs.History.{shown, sightings, accepted_with}
use Rattle.universe_core.specs.Dates.{greatest, dates}
use Rattle.universe_core.specs.Ledgers.{past_in, item_of, birth_or, last_or_none, old_dates}
use Rattle.universe_core.specs.Groups.{GroupFields, members_of}
use Rattle.universe_core.specs.declared.member.Member.{Member}

abbrev pub member_in : LedgerFields → JobFacts → Identity → Member
member_in ledger job x = record {
  id = x;
  birth = birth_or (length ledger.parts) (item_of ledger x);
  last = last_or_none (item_of ledger x);
  settled = (past_in ledger).already_revoked x (sightings x (shown (past_in ledger) job));
  until = greatest (old_dates (item_of ledger x) ++ dates x (shown (past_in ledger) job));
}

-- the identities accepted so far, each with what is said of it
abbrev pub members_in : LedgerFields → JobFacts → List Member
members_in ledger job = map (member_in ledger job) (accepted_with (past_in ledger) job)

abbrev pub as_item : Member → LedgerItem
as_item m = record { id = m.id; birth = m.birth; last = m.last; until = m.until }

-- items and flags say together what is said of the members
pub record AreMembers (ms : List Member) (is : List LedgerItem) (flags : List Bool) : Type 0 where
  pub items : is ≡ map as_item ms
  pub settled : flags ≡ map (λ m. m.settled) ms

-- the CRLs that are accepted, of those that the code has
abbrev pub accepted_of : List JobCrl → List Crl
accepted_of crls = filter_map accepted_crl (map crl_view crls)

-- the CRLs, the enrolled issuers and the accepted identities are the job's
pub record AreOf (ledger : LedgerFields) (job : JobFacts) (cs : List JobCrl) (ks : List (List ℕ)) (is : List LedgerItem)
    (flags : List Bool) : Type 0 where
  pub crls : job.crls ≡ accepted_of cs
  pub issuers : ks ≡ enrolled job
  pub members : AreMembers (members_in ledger job) is flags

-- the item of the next ledger, where this part has the place
abbrev pub next_of : ℕ → Bool → LedgerItem → LedgerItem
next_of place revoked i = record { id = i.id; birth = i.birth; last = cond revoked (Some place) i.last; until = i.until }

-- the group of an issuer, where a test says what is revoked
abbrev pub group_with : (Identity → Bool) → List Identity → List ℕ → GroupFields
group_with revoked xs issuer = record { issuer = issuer; universe = members_of issuer xs; revoked = map revoked (members_of issuer xs) }

-- the part of the first job, whose trailer isn't known yet
abbrev pub first_part : ℕ → List Range → List (List ℕ) → LedgerPartFields
first_part epoch ranges issuers = record { epoch = epoch; trailer = zero_key; ranges = ranges; issuers = issuers }

-- the next ledger, but for its newest part's trailer
abbrev pub unsealed : List LedgerPart → JobFacts → List (List ℕ) → List LedgerItem → LedgerFields
unsealed parts job issuers items = record {
  parts = map part_fields parts ++ first_part job.epoch job.ranges issuers ∷ [];
  items = items;
}
