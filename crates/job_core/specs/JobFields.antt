-- What a job says.
use Rattle.std.specs.Prelude.{ℕ, ◌≤◌, List, map, Option, Result, Ok, Err}
use Rattle.ident_core.specs.declared.range.Range.{Range}
use Rattle.crl_core.specs.declared.crl.Crl.{Crl}
use Rattle.crl_core.specs.declared.crl.CrlFault.{CrlFault}
use Rattle.crl_core.specs.Outcome.{CrlFields, crl_of}
use Rattle.log_core.specs.declared.Entry.{Entry}
use Rattle.job_core.specs.declared.bounds.Limits.{Limits}
use Rattle.job_core.specs.declared.meaning.Job.{Job}
use Rattle.job_core.specs.declared.meaning.JobCrl.{JobCrl}

-- a CRL: whose it is, and what its bytes come to
pub record CrlMeaning : Type 0 where
  pub issuer : List ℕ
  pub outcome : Result CrlFields CrlFault

-- the entries: what each gives, or none
pub record JobFields : Type 0 where
  pub epoch : ℕ
  pub moment : ℕ
  pub ranges : List Range
  pub crls : List CrlMeaning
  pub entries : List (Option Entry)

-- the same of the types of the code

abbrev pub outcome_view : Result Crl CrlFault → Result CrlFields CrlFault
outcome_view (Ok x) = Ok (crl_of x)
outcome_view (Err e) = Err e

abbrev pub crl_view : JobCrl → CrlMeaning
crl_view c = record { issuer = c.issuer; outcome = outcome_view c.outcome }

abbrev pub fields_of_job : Job → JobFields
fields_of_job j = record {
  epoch = j.epoch;
  moment = j.moment;
  ranges = j.ranges.items;
  crls = map crl_view j.crls.items;
  entries = j.entries.items;
}

-- no limit is above the published one
pub record AreWithin (limits published : Limits) : Type 0 where
  pub ranges : limits.ranges ≤ published.ranges
  pub crls : limits.crls ≤ published.crls
  pub serials : limits.serials ≤ published.serials
  pub entries : limits.entries ≤ published.entries
  pub identities : limits.identities ≤ published.identities
