use Rattle.std.proofs.Common.{refl, rules, tests}
use Rattle.std.proofs.lemmas.Iterator.{YieldsList-from_slice}
use Rattle.std.proofs.lemmas.Iterator.Search.{any_from_yields_List}
use Rattle.universe_core.specs.Jobs.{facts_of_job}
use Rattle.universe_core.specs.Enrolling.{facts_of_crl, is_of, is_stale_of}
use Rattle.universe_core.proofs.Enrolled.{enrolled_yes, enrolled_no}
use Rattle.universe_core.proofs.enrolling.is_enrolled.Goals as goal

pub returns-then-has_one : goal.returns-then-has_one
returns-then-has_one c =
    let k = c.args.issuer.now in
    let crls = c.args.job.now.crls.items in
    enrolled_yes (facts_of_job c.args.job.now) k crls refl c.any-has_one.result c.any.result
    (any_from_yields_List (λ d. is_of k (facts_of_crl d)) _ _ _ c.any-has_one.ensures.ran (YieldsList-from_slice crls cc) (λ x b q h. search (rules, tests)))
    (any_from_yields_List (λ d. is_stale_of c.args.job.now.moment k (facts_of_crl d)) _ _ _ c.any.ensures.ran (YieldsList-from_slice crls cc) (λ x b q h. search (rules, tests)))
    c.if-has_one.true

pub returns-else-has_one : goal.returns-else-has_one
returns-else-has_one c =
    let k = c.args.issuer.now in
    let crls = c.args.job.now.crls.items in
    enrolled_no (facts_of_job c.args.job.now) k crls refl c.any-has_one.result
    (any_from_yields_List (λ d. is_of k (facts_of_crl d)) _ _ _ c.any-has_one.ensures.ran (YieldsList-from_slice crls cc) (λ x b q h. search (rules, tests))) c.if-has_one.false
