use Rattle.std.specs.Prelude.{IfOk}
use Rattle.std.specs.Global.{Vec}
use Rattle.std.specs.List.{AllZip}
use Rattle.std.proofs.Common.{◌≡◌, ◌∙◌, ℕ, List, Bor, ap, subst}
use Rattle.rayon.proofs.ListFacts.{AllZip-through}
use Rattle.ledger_core.specs.LedgerFields.{ids}
use Rattle.universe_core.specs.Groups.{group_fields}
use Rattle.universe_core.specs.Members.{group_with}
use Rattle.universe_core.specs.declared.admitted.Group.{Group}
use Rattle.universe_core.proofs.Cutting.{collected_ok}
use Rattle.universe_core.proofs.grouping.groups_in_threads.Goals as goal

pub returns : goal.returns
returns g c = λ h e.
    let made = group_with h (ids c.args.items.now) in
    let slice = ap (λ it. it.base.slice.now) c.map.ensures.base ∙ ap (λ it. it.slice.now) c.with_min_len.ensures.base ∙ c.par_iter.ensures in
    let given = c.in_ok-collect.ensures in
    let chain = rw c.map.ensures.f at given.1 in
    collected_ok made group_fields (λ (v : Vec Group). v.items) c.args.issuers.now given.0 c.in_ok-collect.field-0 _ given.2
    (subst (λ ks. AllZip (λ k r. IfOk r (λ o. group_fields o ≡ made k)) ks given.0) (chain.1 ∙ slice)
    (AllZip-through (λ (z : Bor (List ℕ)). z.now) _ (λ k r. IfOk r (λ o. group_fields o ≡ made k)) (λ z r p. p h e) chain.0 given.0 chain.2))
