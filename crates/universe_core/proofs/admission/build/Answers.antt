use Rattle.std.proofs.Common.{◌≡◌, ◌∙◌, ap, sym, subst, map, length, arith}
use Rattle.std.specs.List.Sorted.{IsStrictlySortedBy}
use Rattle.ident_core.specs.Order.{identity_cmp}
use Rattle.ledger_core.specs.LedgerFields.{ids}
use Rattle.ident_core.proofs.Marks.{written_back}
use Rattle.universe_core.specs.Groups.{group_fields}
use Rattle.universe_core.specs.Ledgers.{past_in}
use Rattle.universe_core.proofs.Building.{groups_in, items_in, shown_of}
use Rattle.universe_core.proofs.Tallies.{universe_count, revoked_count}
use Rattle.universe_core.proofs.admission.build.Goals as goal

pub groups-requires-clause-ascend : goal.groups-requires-clause-ascend
groups-requires-clause-ascend g c =
    let v = c.deref_mut.ensures.value in
    let l : c.args.members.items.len ≡ length c.args.members.items.items = omega arith in
    let back = c.deref-4.ensures.value ∙ written_back c.args.members.items.len c.set_lasts.new.items c.args.members.items.items (c.set_lasts.auto.items ∙ ap length v) l in
    subst (λ xs. IsStrictlySortedBy identity_cmp xs) (sym (ap ids back ∙ c.set_lasts.ensures.same ∙ ap ids v)) c.requires.ascend

pub returns-clause-groups : goal.returns-clause-groups
returns-clause-groups g c = λ ledger job of.
    let v = c.deref_mut.ensures.value in
    let l : c.args.members.items.len ≡ length c.args.members.items.items = omega arith in
    let back = c.deref-4.ensures.value ∙ written_back c.args.members.items.len c.set_lasts.new.items c.args.members.items.items (c.set_lasts.auto.items ∙ ap length v) l in
    groups_in ledger job c.args.members.items.items c.args.members.settled.items of.members c.args.issuers.now (ids c.deref-4.result.now) c.deref-5.result.now
    (map group_fields c.in_ok-groups.groups.items) of.issuers
    (ap ids back ∙ c.set_lasts.ensures.same ∙ ap ids v)
    (c.deref-5.ensures.value ∙ c.in_ok-flags.ensures.revoked ledger job (shown_of of c.deref.ensures.value c.deref-2.ensures.value)) c.in_ok-groups.ensures

pub returns-clause-items : goal.returns-clause-items
returns-clause-items g c = λ ledger job of p.
    let v = c.deref_mut.ensures.value in
    let l : c.args.members.items.len ≡ length c.args.members.items.items = omega arith in
    written_back c.args.members.items.len c.set_lasts.new.items c.args.members.items.items (c.set_lasts.auto.items ∙ ap length v) l
    ∙ items_in ledger job c.deref_mut.result.now c.args.members.settled.items (record { items = v ∙ of.members.items; settled = of.members.settled })
    c.deref-3.result.now c.args.place c.set_lasts.new.items
    (c.deref-3.ensures.value ∙ c.in_ok-flags.ensures.revoked ledger job (shown_of of c.deref.ensures.value c.deref-2.ensures.value)) p c.set_lasts.ensures.items

pub returns-clause-universe : goal.returns-clause-universe
returns-clause-universe g c = λ ledger job of. c.in_ok-flags.ensures.universe ∙ universe_count ledger job c.args.issuers.now
    c.deref.result.now of.issuers (c.deref.ensures.value ∙ of.members.items)

pub returns-clause-revoked : goal.returns-clause-revoked
returns-clause-revoked g c = λ ledger job of.
    c.set_flags-revoked.ensures ∙ revoked_count (past_in ledger) job c.deref-6.result.now
    (c.deref-6.ensures.value ∙ c.in_ok-flags.ensures.revoked ledger job (shown_of of c.deref.ensures.value c.deref-2.ensures.value))
