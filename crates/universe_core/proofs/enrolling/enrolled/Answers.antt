use Rattle.std.specs.List.Sorted.{IsStrictlySortedBy}
use Rattle.std.proofs.Common.{◌∙◌, ap, refl, sym, subst, rules, tests}
use Rattle.std.proofs.lemmas.Iterator.{YieldsList-from_slice, items_from_collect}
use Rattle.std.proofs.lemmas.Iterator.Consumers.{YieldsList-from_filter_map}
use Rattle.std.proofs.lemmas.Result.{IfOk-at_ok}
use Rattle.ident_core.specs.Order.{octets_cmp}
use Rattle.ident_core.specs.Sets.{key_set}
use Rattle.ident_core.proofs.Sets.{keys_are}
use Rattle.universe_core.specs.Jobs.{facts_of_job}
use Rattle.universe_core.specs.Enrolling.{facts_of_crl, issuer_if, stale_issuer_if}
use Rattle.universe_core.proofs.Issuers.{enrolled_from}
use Rattle.universe_core.proofs.enrolling.enrolled.Goals as goal

pub returns : goal.returns
returns c =
    let crls = c.args.job.now.crls.items in
    let keys = IfOk-at_ok _ c.in_ok-keys.was
    (items_from_collect _ c.collect-2.ensures.ran
    (YieldsList-from_filter_map _ (λ d. issuer_if (facts_of_crl d)) (YieldsList-from_slice crls cc) c.filter_map-2.ensures.closure (λ x r q k. search (rules, tests)))) in
    let stale = IfOk-at_ok _ c.in_ok-stale.was
    (items_from_collect _ c.collect.ensures.ran
    (YieldsList-from_filter_map _ (λ d. stale_issuer_if c.args.job.now.moment (facts_of_crl d)) (YieldsList-from_slice crls cc) c.filter_map.ensures.closure (λ x r q k. search (rules, tests)))) in
    enrolled_from (facts_of_job c.args.job.now) crls c.deref-3.result.now c.deref-4.result.now c.in_ok-left.left.items refl
    (c.deref-3.ensures.value ∙ c.sort_keys_once-2.ensures ∙ ap key_set keys) (c.deref-4.ensures.value ∙ c.sort_keys_once.ensures ∙ ap key_set stale) c.in_ok-left.ensures

pub without-requires : goal.without-requires
without-requires c =
    subst (IsStrictlySortedBy octets_cmp) (sym (c.deref-4.ensures.value ∙ c.sort_keys_once.ensures)) (keys_are c.in_ok-stale.stale.items).ascends
