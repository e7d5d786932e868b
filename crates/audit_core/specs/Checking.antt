-- What the last ledger of some jobs tells of an entry of one of them, and what parts say of it.
use Rattle.std.specs.Prelude.{◌≡◌, ◌≢◌, ℕ, ◌<◌, List, [], ◌∷◌, Bool, true, false, not, ◌&&◌, if◌then◌else◌, Option}
use Rattle.std.specs.Prelude.{Some, None, slice_get, is_some}
use Rattle.ident_core.specs.Coverage.{covers}
use Rattle.card_core.specs.PartFields.{PartFields}
use Rattle.card_core.specs.declared.verdict.Verdict.{Verdict}
use Rattle.card_core.specs.declared.verdict.Verdict.TheVariants.{Good, Revoked}
use Rattle.card_core.specs.Verdict.{verdict}
use Rattle.log_core.specs.declared.Entry.{Entry}
use Rattle.ledger_core.specs.LedgerFields.{LedgerPartFields, LedgerFields}
use Rattle.ident_core.specs.Sets.{has_key}
use Rattle.universe_core.specs.Ledgers.{past_in}
use Rattle.job_core.specs.JobFields.{JobFields}
use Rattle.universe_core.specs.History.{is_listed}
use Rattle.audit_core.specs.Auditing.{left_by_jobs, IsAccepted, Agrees}
use Rattle.audit_core.specs.declared.fault.AuditFault.{AuditFault}
use Rattle.audit_core.specs.declared.fault.AuditFault.TheVariants as faults
use Rattle.audit_core.specs.declared.checking.Agreement.{Agreement}
use Rattle.audit_core.specs.declared.checking.Agreement.TheVariants as agreements

-- whether a part covers the entry and enrolls its issuer
abbrev pub is_seen : LedgerPartFields → Entry → Bool
is_seen part e = covers part.ranges e.sighting && has_key part.issuers e.id.issuer

-- whether its certificate is listed, if it is seen and isn't late
abbrev pub listing_by : Bool → Bool → Bool → Option Bool
listing_by seen late listed = if seen && not late then Some listed else None

-- Of an entry that the job of a part accepts, whether its certificate is listed; nothing of another entry.
abbrev pub listing : LedgerFields → LedgerPartFields → Entry → Option Bool
listing ledger part e = listing_by (is_seen part e) ((past_in ledger).comes_late e.id e.sighting) ((past_in ledger).listed_before e.id)

-- what is to be said of a certificate that is listed or not
abbrev pub truth_by : Bool → Verdict
truth_by listed = if listed then Revoked else Good

-- whether a verdict is what is to be said
abbrev pub is_truth : Verdict → Bool → Bool
is_truth Revoked true = true
is_truth Good false = true
is_truth held listed = false

abbrev pub agreement_by : List PartFields → Entry → Option Bool → Agreement
agreement_by parts e None = agreements.Skipped
agreement_by parts e (Some listed) =
    if is_truth (verdict parts e.id (e.sighting ∷ [])) listed then agreements.Agrees
    else agreements.Disagrees (verdict parts e.id (e.sighting ∷ [])) listed

-- what comes of an entry, by what is told of the entries
abbrev pub agreement_of : List PartFields → (Entry → Option Bool) → Option Entry → Agreement
agreement_of parts tells None = agreements.Skipped
agreement_of parts tells (Some e) = agreement_by parts e (tells e)

-- it isn't a disagreement
abbrev pub IsFine : Agreement → Type 0
IsFine agreements.Skipped = Unit {0}
IsFine agreements.Agrees = Unit {0}
IsFine (agreements.Disagrees held listed) = ⊥

-- none of the first n entries is a disagreement
abbrev pub AreFine : List PartFields → (Entry → Option Bool) → List (Option Entry) → ℕ → Type 0
AreFine parts tells entries n = (m : ℕ) (o : Option Entry) → m < n → slice_get entries m ≡ Some o → IsFine (agreement_of parts tells o)

-- whether an entry is accepted, by what is told of the entries
abbrev pub is_told : (Entry → Option Bool) → Option Entry → Bool
is_told tells None = false
is_told tells (Some e) = is_some (tells e)

-- the fault is that of the first entry that is a disagreement, in the job at place j
pub record IsFirstOf (parts : List PartFields) (tells : Entry → Option Bool) (j : ℕ) (entries : List (Option Entry))
    (e : AuditFault) : Type 0 where
  pub place : ℕ
  pub held : Verdict
  pub listed : Bool
  pub entry : Option Entry
  pub fault : e ≡ faults.Disagrees j place held listed
  pub at : slice_get entries place ≡ Some entry
  pub asked : agreement_of parts tells entry ≡ agreements.Disagrees held listed
  pub before : AreFine parts tells entries place

-- the fault is that of the first accepted entry of the job at place j of which the parts don't say the truth
pub record IsFirstIn (parts : List PartFields) (jobs : List JobFields) (j : ℕ) (e : AuditFault) : Type 0 where
  pub place : ℕ
  pub held : Verdict
  pub listed : Bool
  pub entry : Entry
  pub fault : e ≡ faults.Disagrees j place held listed
  pub accepted : IsAccepted jobs j place entry
  pub said : held ≡ verdict parts entry.id (entry.sighting ∷ [])
  pub truth : listed ≡ is_listed (left_by_jobs jobs) entry.id
  pub differs : held ≢ truth_by listed
  pub before : (m : ℕ) (d : Entry) → m < place → IsAccepted jobs j m d → Agrees parts jobs d
