use Rattle.std.proofs.Common.{◌-◌, ◌^◌, take, refl, ◌∙◌, arith}
use Rattle.outside_core.specs.Standing.{depot_of, name_of}
use Rattle.job_core.specs.declared.meaning.Job.{Job}
use Rattle.job_core.specs.JobFields.{fields_of_job}
use Rattle.outside_core.proofs.Pulling.{pulled-then}
use Rattle.job_core.proofs.Fetching.{blames-then}
use Rattle.job_core.proofs.ReadFacts.{crls-of, entries-of}
use Rattle.job_core.proofs.JobGiven.{exact-given, within-given, fits-given, given-of, stands-there}
use Rattle.job_core.proofs.reading_from.read_job_from.Goals as goal

pub returns-in_default-clause-pulled : goal.returns-in_default-clause-pulled
returns-in_default-clause-pulled g c =
    let e = c.refill.ensures in
    record { same_reference = e.same_reference; name = e.name; only_reads = e.only_reads; stands = e.stands; further = omega (arith, e.at) }

pub returns-in_default-clause-blames : goal.returns-in_default-clause-blames
returns-in_default-clause-blames g c = (λ same. c.in_default.ensures.cause, λ not. absurd (not refl))

pub returns-in_default-clause-exact : goal.returns-in_default-clause-exact
returns-in_default-clause-exact g c = λ file stands of. absurd (of.1 refl)

pub returns-in_default-clause-given : goal.returns-in_default-clause-given
returns-in_default-clause-given g c = λ order not. absurd (not refl)

pub job_from-requires : goal.job_from-requires
job_from-requires g c = c.refill.ensures.at ∙ c.requires.first

pub returns-clause-pulled : goal.returns-clause-pulled
returns-clause-pulled g c =
    let e = c.refill.ensures in
    pulled-then g.D.Depot c.args.feed.now c.refill.new.self c.job_from.new.feed
    (record { same_reference = e.same_reference; name = e.name; only_reads = e.only_reads; stands = e.stands; further = omega (arith, e.at) }) c.job_from.ensures.pulled

pub returns-clause-blames : goal.returns-clause-blames
returns-clause-blames g c =
    let e = c.refill.ensures in
    blames-then {X = Job} g.D.Depot c.args.feed.now c.refill.new.self c.job_from.new.feed c.job_from.result
    (record { same_reference = e.same_reference; name = e.name; only_reads = e.only_reads; stands = e.stands; further = omega (arith, e.at) }) c.in-Ok.ensures.unblamed c.job_from.ensures.blames

pub returns-clause-exact : goal.returns-clause-exact
returns-clause-exact g c = λ file stands.
    exact-given g.D.Depot c.args.limits.now fields_of_job c.refill.new.self c.job_from.result c.job_from.ensures.reads file (c.refill.ensures.stands file stands)

pub returns-clause-given : goal.returns-clause-given
returns-clause-given g c = λ order not.
    given-of g.D.Depot c.args.limits.now fields_of_job c.refill.new.self c.job_from.result (g.D.Depot.files (depot_of c.args.feed.now)) (name_of c.args.feed.now) c.job_from.ensures.reads
    (λ files told. let (bytes, there, window, ends) = c.in-Ok.ensures.ok order files told in
    (bytes, there, c.refill.ensures.stands (take (2 ^ 64 - 1) bytes) (stands-there g.D.Depot c.args.feed.now files bytes order told there)))

pub returns-clause-within : goal.returns-clause-within
returns-clause-within g c = within-given g.D.Depot c.args.limits.now fields_of_job c.refill.new.self c.job_from.result c.job_from.ensures.reads

pub returns-clause-fits : goal.returns-clause-fits
returns-clause-fits g c = fits-given g.D.Depot c.args.limits.now fields_of_job c.refill.new.self c.job_from.result (omega (arith, c.requires.within.ranges)) c.job_from.ensures.reads

pub returns-clause-crls : goal.returns-clause-crls
returns-clause-crls g c =
    crls-of fields_of_job c.job_from.result
    (fits-given g.D.Depot c.args.limits.now fields_of_job c.refill.new.self c.job_from.result (omega (arith, c.requires.within.ranges)) c.job_from.ensures.reads)

pub returns-clause-entries : goal.returns-clause-entries
returns-clause-entries g c =
    entries-of fields_of_job c.job_from.result
    (fits-given g.D.Depot c.args.limits.now fields_of_job c.refill.new.self c.job_from.result (omega (arith, c.requires.within.ranges)) c.job_from.ensures.reads)
