-- What a job says by itself: its CRLs and entries, its coverage, which issuers it enrolls and which identities it
-- lists.
use Rattle.std.specs.Prelude.{ℕ, ℤ, pos, ◌*ℤ◌, int_lt, List, map, filter, filter_map, Bool, false, not, ◌&&◌, Option}
use Rattle.std.specs.Prelude.{Some, None, Result, Ok, Err}
use Rattle.std.specs.List.{list_any, list_all}
use Rattle.std.specs.Str.{bytes_eq}
use Rattle.ident_core.specs.declared.identity.Identity.{Identity}
use Rattle.ident_core.specs.declared.range.Range.{Range}
use Rattle.crl_core.specs.declared.crl.CrlFault.{CrlFault}
use Rattle.crl_core.specs.Outcome.{CrlFields}
pub use Rattle.log_core.specs.declared.Entry.{Entry}
use Rattle.job_core.specs.declared.meaning.Job.{Job}
use Rattle.job_core.specs.JobFields.{CrlMeaning, JobFields, fields_of_job}
use Rattle.ident_core.specs.Sets.{has_key, key_set}

-- an issuer's CRL: when it goes out of date, in seconds since 1970, and the serials that it holds
pub record Crl : Type 0 where
  pub issuer : List ℕ
  pub next_update : Option ℤ
  pub serials : List (List ℕ)

-- A job whose CRLs are all accepted. The moment is in milliseconds since 1970; an entry that isn't read is none.
pub record JobFacts : Type 0 where
  pub epoch : ℕ
  pub moment : ℕ
  pub ranges : List Range
  pub crls : List Crl
  pub entries : List (Option Entry)

-- ---- what a job says, by its fields

abbrev pub crl_by : List ℕ → Result CrlFields CrlFault → Option Crl
crl_by issuer (Ok c) = Some (record { issuer = issuer; next_update = c.next_update; serials = c.serials })
crl_by issuer (Err e) = None

-- the CRL, if it is accepted
abbrev pub accepted_crl : CrlMeaning → Option Crl
accepted_crl c = crl_by c.issuer c.outcome

-- the epoch, the moment, the coverage, the CRLs that are accepted, and the entries
abbrev pub facts_of : JobFields → JobFacts
facts_of j = record {
  epoch = j.epoch;
  moment = j.moment;
  ranges = j.ranges;
  crls = filter_map accepted_crl j.crls;
  entries = j.entries;
}

-- the same of a job as the code has it
abbrev pub facts_of_job : Job → JobFacts
facts_of_job j = facts_of (fields_of_job j)

-- ---- enrolment and listing

-- whether a CRL is out of date at a moment: its nextUpdate (RFC 5280, 5.1.2.5) is there, and lies before it
abbrev pub is_stale : ℕ → Option ℤ → Bool
is_stale moment None = false
is_stale moment (Some seconds) = int_lt (pos 1000 *ℤ seconds) (pos moment)

-- the CRLs of an issuer
abbrev pub crls_of : List ℕ → JobFacts → List Crl
crls_of issuer job = filter (λ c. bytes_eq issuer c.issuer) job.crls

-- The enrolled issuers: those with a CRL, none of whose CRLs is out of date.
unfoldable pub enrolled : JobFacts → List (List ℕ)
enrolled job =
    filter (λ issuer. list_all (λ c. not (is_stale job.moment c.next_update)) (crls_of issuer job))
    (key_set (map (λ c. c.issuer) job.crls))

-- Whether the job enrolls an issuer, as a test. Of the enrolled issuers it is true, and of no other.
unfoldable pub is_enrolled : JobFacts → List ℕ → Bool
is_enrolled job issuer =
    list_any (λ c. bytes_eq issuer c.issuer) job.crls
    && list_all (λ c. not (is_stale job.moment c.next_update)) (crls_of issuer job)

-- whether the job lists an identity: a CRL of its issuer has its serial among the revoked (RFC 5280, 5.1.2.6)
unfoldable pub lists : JobFacts → Identity → Bool
lists job x = list_any (λ c. has_key c.serials x.serial) (crls_of x.issuer job)
