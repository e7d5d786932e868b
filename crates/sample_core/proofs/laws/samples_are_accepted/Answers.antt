use Rattle.std.proofs.Common.{◌∙◌}
use Rattle.sample_core.proofs.CrlForms.{crl-accepted}
use Rattle.sample_core.proofs.Accepted.{sample-kept, sample-accepted, sample-within, sample-means}
use Rattle.sample_core.proofs.laws.samples_are_accepted.Goals as goal

pub returns-clause-crls : goal.returns-clause-crls
returns-clause-crls c = λ number count j few. crl-accepted number count j few

pub returns-clause-serials : goal.returns-clause-serials
returns-clause-serials c = λ number count few. sample-kept number count few

pub returns-clause-read : goal.returns-clause-read
returns-clause-read c = λ number count some few. c.samples_are_jobs.ensures.read number count some few ∙ sample-means number count few

pub returns-clause-accepted : goal.returns-clause-accepted
returns-clause-accepted c = λ number count few. sample-accepted number count few

pub returns-clause-within : goal.returns-clause-within
returns-clause-within c = λ number count few. sample-within number count few
