-- Jobs of which some is kept, and what they leave beside what the whole jobs leave.
use Rattle.std.specs.Prelude.{◌≡◌, filter, true}
use Rattle.ident_core.specs.declared.identity.Identity.{Identity}
use Rattle.job_core.specs.JobFields.{JobFields}
use Rattle.place_core.specs.Cuts.{Cut, is_kept}
use Rattle.piece_core.specs.Cuts.{keeps_entry}
use Rattle.universe_core.specs.Jobs.{JobFacts}
use Rattle.universe_core.specs.Formats.{JobIn}
use Rattle.universe_core.specs.History.{Release}

-- ---- jobs

-- The job with what is kept of its CRLs and entries, in their order. All else is as it was.
abbrev pub cut_job : Cut → JobFields → JobFields
cut_job cut job = record job {
  crls = filter (λ c. cut.takes c.issuer) job.crls;
  entries = filter (keeps_entry cut) job.entries;
}

-- the same in its format
abbrev pub cut_in : Cut → JobIn → JobIn
cut_in cut j = record j { job = cut_job cut j.job }

-- the same of what a job says
abbrev pub cut_facts : Cut → JobFacts → JobFacts
cut_facts cut job = record job {
  crls = filter (λ c. cut.takes c.issuer) job.crls;
  entries = filter (keeps_entry cut) job.entries;
}

-- ---- releases

-- One release is another without what isn't kept, and with a part of its own.
pub record IsCut (cut : Cut) (whole kept : Release) : Type 0 where
  pub epoch : kept.epoch ≡ whole.epoch
  pub ranges : kept.ranges ≡ whole.ranges
  pub issuers : kept.issuers ≡ filter cut.takes whole.issuers
  pub lists : (x : Identity) → is_kept cut x ≡ true → kept.lists x ≡ whole.lists x
  pub shown : kept.shown ≡ filter (λ e. is_kept cut e.id) whole.shown
  pub accepted : kept.accepted ≡ filter (is_kept cut) whole.accepted
  pub revoked : kept.revoked ≡ filter (is_kept cut) whole.revoked
