-- The answers of calls: a number for each verdict and each fault, and where a store's field is at fault.
use Rattle.std.specs.Prelude.{◌≡◌, ◌⊎◌, ℕ, List, length, map, Option, Some, None, Result, Ok, Err}
use Rattle.octets_core.specs.declared.fault.Why.{Why}
use Rattle.octets_core.specs.declared.fault.Why.TheVariants as whys
use Rattle.ident_core.specs.declared.range.Sighting.{Sighting}
use Rattle.sct_core.specs.declared.fault.CertFault.{CertFault}
use Rattle.sct_core.specs.declared.fault.CertFault.TheVariants as certs
use Rattle.part_text.specs.SealedFields.{SealedFields}
use Rattle.store_core.specs.Chain.{newest_of}
use Rattle.store_core.specs.Newest.{epoch_of}
use Rattle.store_core.specs.declared.chain.Refusal.{Refusal}
use Rattle.store_core.specs.declared.chain.Refusal.TheVariants as refusals
use Rattle.card_core.specs.declared.verdict.Verdict.{Verdict}
use Rattle.card_core.specs.declared.verdict.Verdict.TheVariants as verdicts
use Rattle.lending_core.specs.declared.fault.LentFault.{LentFault}
use Rattle.lending_core.specs.declared.fault.LentFault.TheVariants as faults
use Rattle.lending_core.specs.declared.lent.LentQuery.{LentQuery}
use Rattle.lending_core.specs.declared.numbers.TheConstants.{DONE, NOT_COVERED, NOT_ENROLLED, GOOD, REVOKED}
use Rattle.lending_core.specs.declared.numbers.TheConstants.{LAYOUT_SHORT, LAYOUT_VALUE, LAYOUT_DIGEST}
use Rattle.lending_core.specs.declared.numbers.TheConstants.{NOT_SNAPSHOT, NOT_DELTA, WRONG_PARENT, OLD_EPOCH}
use Rattle.lending_core.specs.declared.numbers.TheConstants.{COVERAGE_SHRINKS, CHAIN_FULL, BAD_SERIAL, BAD_SIGHTINGS, BAD_PLACES}
use Rattle.lending_core.specs.declared.numbers.TheConstants.{CERT_MALFORMED, CERT_NO_SCTS, CERT_BAD_SCTS}
use Rattle.lending_core.specs.declared.numbers.TheConstants.{CERT_TOO_MANY_SCTS, ISSUER_CERT_MALFORMED, NO_MEMORY}
use Rattle.lending_core.specs.declared.replies.Answer.{Answer}
use Rattle.lending_core.specs.declared.replies.StoreFacts.{StoreFacts}
use Rattle.lending_core.specs.Asking.{each_gives}

-- ---- numbers

abbrev pub verdict_number : Verdict → ℕ
verdict_number verdicts.NotCovered = NOT_COVERED
verdict_number verdicts.NotEnrolled = NOT_ENROLLED
verdict_number verdicts.Good = GOOD
verdict_number verdicts.Revoked = REVOKED

abbrev pub why_number : Why → ℕ
why_number whys.Short = LAYOUT_SHORT
why_number whys.Value = LAYOUT_VALUE
why_number whys.Digest = LAYOUT_DIGEST

abbrev pub refusal_number : Refusal → ℕ
refusal_number refusals.NotDelta = NOT_DELTA
refusal_number (refusals.WrongParent held given) = WRONG_PARENT
refusal_number (refusals.OldEpoch held given) = OLD_EPOCH
refusal_number (refusals.CoverageShrinks log) = COVERAGE_SHRINKS
refusal_number refusals.Full = CHAIN_FULL

abbrev pub cert_number : CertFault → ℕ
cert_number certs.Malformed = CERT_MALFORMED
cert_number certs.NoScts = CERT_NO_SCTS
cert_number certs.BadScts = CERT_BAD_SCTS
cert_number certs.TooManyScts = CERT_TOO_MANY_SCTS

-- ---- answers

-- of this number alone
abbrev pub alone : ℕ → Answer
alone n = record { number = n; at = 0 }

abbrev pub fault_answer : LentFault → Answer
fault_answer (faults.Layout f) = record { number = why_number f.why; at = f.at }
fault_answer faults.NotSnapshot = alone NOT_SNAPSHOT
fault_answer (faults.Chain why) = alone (refusal_number why)
fault_answer faults.BadSerial = alone BAD_SERIAL
fault_answer faults.BadSightings = alone BAD_SIGHTINGS
fault_answer faults.BadPlaces = alone BAD_PLACES
fault_answer (faults.BadCert f) = alone (cert_number f)
fault_answer faults.BadIssuerCert = alone ISSUER_CERT_MALFORMED
fault_answer faults.NoMemory = alone NO_MEMORY

-- of a value that has a number, or of a fault
abbrev pub answer_of : {A : Type 0} → (A → ℕ) → Result A LentFault → Answer
answer_of number (Ok x) = alone (number x)
answer_of number (Err e) = fault_answer e

abbrev pub done : {A : Type 0} → A → ℕ
done x = DONE

-- It is this answer, want of memory apart.
abbrev pub IsAnswer : (wanted given : Answer) → Type 0
IsAnswer wanted given = (given ≡ wanted) ⊎ (given ≡ alone NO_MEMORY)

-- ---- what a store holds

-- how many parts, and the newest one's epoch
abbrev pub facts_of : List SealedFields → StoreFacts
facts_of parts = record { parts = length parts; newest_epoch = epoch_of (newest_of parts) }

-- no part, where the bytes are no store
abbrev pub no_facts : StoreFacts
no_facts = record { parts = 0; newest_epoch = 0 }

abbrev pub facts_in : Result (List SealedFields) LentFault → StoreFacts
facts_in (Ok parts) = facts_of parts
facts_in (Err e) = no_facts

-- What is written and answered by the store that was read, want of memory apart.
abbrev pub AreFacts : Result (List SealedFields) LentFault → StoreFacts → Answer → Type 0
AreFacts read written given =
    ((written ≡ facts_in read) × (given ≡ answer_of done read))
    ⊎ ((written ≡ no_facts) × (given ≡ alone NO_MEMORY))

-- ---- many queries

-- the query with its answer, and else as it was
abbrev pub with_number : ℕ → LentQuery → LentQuery
with_number n q = record q { answer = n }

-- the query with its own answer, by the store that was read
abbrev pub answered : Result (List SealedFields) LentFault → List Sighting → LentQuery → LentQuery
answered read all q = with_number (answer_of verdict_number (each_gives read all q)).number q

-- What is written into the queries and answered by the store that was read, want of memory apart: into each its own
-- answer.
abbrev pub AreAnswered : Result (List SealedFields) LentFault → List Sighting → (old new : List LentQuery) → Answer → Type 0
AreAnswered read all old new given =
    ((new ≡ map (answered read all) old) × (given ≡ answer_of done read))
    ⊎ ((new ≡ map (with_number NO_MEMORY) old) × (given ≡ alone NO_MEMORY))

-- ---- until when a log is covered

-- the moment that is written and the number that is answered
abbrev pub CoversUntil : Option ℕ → (until number : ℕ) → Type 0
CoversUntil (Some to) until number = (until ≡ to) × (number ≡ DONE)
CoversUntil None until number = (until ≡ 0) × (number ≡ NOT_COVERED)

-- ---- places

-- the place that is written and the number that is answered
abbrev pub IsPlaced : Result ℕ LentFault → (place number : ℕ) → Type 0
IsPlaced (Ok p) place number = (place ≡ p) × (number ≡ DONE)
IsPlaced (Err e) place number = (place ≡ 0) × (number ≡ (fault_answer e).number)
