use Rattle.std.specs.List.{filter}
use Rattle.std.specs.Prelude.{is_some}
use Rattle.std.specs.List.Sorted.{IsStrictlySortedBy}
use Rattle.std.proofs.Common.{[], ◌∷◌, None, map, flat_map, length, All, ap, sym, ◌∙◌, subst, arith}
use Rattle.std.proofs.lemmas.Result.{err_from_is_err_and}
use Rattle.ledger_core.specs.LedgerFields.{IsLedger, ids, newest, part_fields}
use Rattle.ident_core.specs.Order.{octets_cmp}
use Rattle.ident_core.proofs.Sets.{key_set_ascends}
use Rattle.universe_core.specs.Groups.{group_fields, IsGroup}
use Rattle.universe_core.specs.Rebases.{is_lasting, ledger_cut}
use Rattle.publication_core.proofs.Built.{kept_of, counted, kept_ascend, groups_are, groups_facts, is_ledger, head_is, next_is}
use Rattle.publication_core.proofs.Parts.{newest_fits}
use Rattle.publication_core.specs.LeftOut.{cut_of}
use Rattle.publication_core.proofs.Cuts.{issuers_cut, IsLedger-cut}
use Rattle.publication_core.proofs.rebasing.rebase.Goals as goal

pub overflow_sub-pruned : goal.overflow_sub-pruned
overflow_sub-pruned c =
    let w = cut_of c.args.left_out.now in
    let k = kept_of w (is_lasting c.args.moment) c.args.ledger.now c.items.result.now c.in_ok-items.items.items c.items.ensures.value c.in_ok-items.ensures in
    let n = counted w (is_lasting c.args.moment) c.args.ledger.now c.items-3.result.now c.items-2.result.now c.in_ok-items.items.items c.count_left-left.result
    c.items-3.ensures.value c.items-2.ensures.value k c.count_left-left.ensures in
    let l = c.len-2.ensures in
    omega (arith, n.1)

pub overflow_sub-pruned-2 : goal.overflow_sub-pruned-2
overflow_sub-pruned-2 c =
    let w = cut_of c.args.left_out.now in
    let k = kept_of w (is_lasting c.args.moment) c.args.ledger.now c.items.result.now c.in_ok-items.items.items c.items.ensures.value c.in_ok-items.ensures in
    let n = counted w (is_lasting c.args.moment) c.args.ledger.now c.items-3.result.now c.items-2.result.now c.in_ok-items.items.items c.count_left-left.result
    c.items-3.ensures.value c.items-2.ensures.value k c.count_left-left.ensures in
    let l = c.len-2.ensures in
    omega (arith, n.1)

pub groups_of-requires : goal.groups_of-requires
groups_of-requires c =
    let w = cut_of c.args.left_out.now in
    let k = kept_of w (is_lasting c.args.moment) c.args.ledger.now c.items.result.now c.in_ok-items.items.items c.items.ensures.value c.in_ok-items.ensures in
    kept_ascend (is_lasting c.args.moment) (ledger_cut w c.args.ledger.now) c.deref-2.result.now
    (IsLedger-cut w c.args.ledger.now c.items.ensures.facts).items_ascend (c.deref-2.ensures.value ∙ k)

pub head_at-requires : goal.head_at-requires
head_at-requires c =
    newest_fits None c.args.ledger.now.parts (part_fields c.newest_of-newest.result.now) c.parts.ensures.facts.parts
    (ap newest (sym c.parts-2.ensures.value) ∙ c.newest_of-newest.ensures)

pub draft_of-requires : goal.draft_of-requires
draft_of-requires c =
    let w = cut_of c.args.left_out.now in
    let k = kept_of w (is_lasting c.args.moment) c.args.ledger.now c.items.result.now c.in_ok-items.items.items c.items.ensures.value c.in_ok-items.ensures in
    let few = c.in_ok-check_limit.ensures.few in
    let n = c.len.ensures in
    let part = c.newest_of-newest.result.now in
    subst (λ p. IsLedger (record { parts = p ∷ []; items = c.in_ok-items.items.items })) (sym c.in_ok-part.ensures)
    (is_ledger (is_lasting c.args.moment) (ledger_cut w c.args.ledger.now) part.epoch part.ranges.items c.in_ok-issuers.issuers.items c.in_ok-items.items.items
    (IsLedger-cut w c.args.ledger.now c.parts.ensures.facts)
    (newest_fits None c.args.ledger.now.parts (part_fields part) c.parts.ensures.facts.parts (ap newest (sym c.parts-2.ensures.value) ∙ c.newest_of-newest.ensures))
    (omega arith) (subst (IsStrictlySortedBy octets_cmp) (sym c.in_ok-issuers.ensures) (key_set_ascends (flat_map (λ p. filter w.takes p.issuers) (map part_fields c.parts.result.now)))) k)

pub returns-in_err-check_limit-clause-refused : goal.returns-in_err-check_limit-clause-refused
returns-in_err-check_limit-clause-refused c =
    let q = err_from_is_err_and c.from_residual-in_err-check_limit.result c.from_residual-in_err-check_limit.ensures.1 in
    let w = cut_of c.args.left_out.now in
    let n = ap length (c.in_ok-issuers.ensures ∙ issuers_cut w c.args.ledger.now (map part_fields c.parts.result.now) c.parts.ensures.value) in
    let l = c.len.ensures in
    let above = c.in_err-check_limit.ensures.many in
    rw (q.1, q.2) (λ other. (above.0, omega (arith, n, above.1)))

pub returns-clause-rebased : goal.returns-clause-rebased
returns-clause-rebased c =
    let w = cut_of c.args.left_out.now in
    let n = ap length (c.in_ok-issuers.ensures ∙ issuers_cut w c.args.ledger.now (map part_fields c.parts.result.now) c.parts.ensures.value) in
    let l = c.len.ensures in
    let few = c.in_ok-check_limit.ensures.few in
    omega (arith, n)

pub returns-clause-head : goal.returns-clause-head
returns-clause-head c =
    c.in_ok-head.ensures
    ∙ head_is (cut_of c.args.left_out.now) c.args.ledger.now (part_fields c.newest_of-newest.result.now) (ap newest (sym c.parts-2.ensures.value) ∙ c.newest_of-newest.ensures)

pub returns-clause-groups : goal.returns-clause-groups
returns-clause-groups c =
    let w = cut_of c.args.left_out.now in
    let k = kept_of w (is_lasting c.args.moment) c.args.ledger.now c.items.result.now c.in_ok-items.items.items c.items.ensures.value c.in_ok-items.ensures in
    groups_are (is_lasting c.args.moment) (ledger_cut w c.args.ledger.now) c.deref.result.now c.deref-2.result.now (map group_fields c.in_ok-groups.groups.items)
    (c.deref.ensures.value ∙ c.in_ok-issuers.ensures ∙ issuers_cut w c.args.ledger.now (map part_fields c.parts.result.now) c.parts.ensures.value) (c.deref-2.ensures.value ∙ k) c.in_ok-groups.ensures

pub returns-clause-facts : goal.returns-clause-facts
returns-clause-facts c =
    let w = cut_of c.args.left_out.now in
    let k = kept_of w (is_lasting c.args.moment) c.args.ledger.now c.items.result.now c.in_ok-items.items.items c.items.ensures.value c.in_ok-items.ensures in
    subst (λ gs. All IsGroup gs) (sym c.in_ok-groups.ensures)
    (groups_facts (ids c.deref-2.result.now) (ids (filter (λ i. is_some i.last) c.deref-2.result.now)) c.deref.result.now
    (kept_ascend (is_lasting c.args.moment) (ledger_cut w c.args.ledger.now) c.deref-2.result.now
    (IsLedger-cut w c.args.ledger.now c.items.ensures.facts).items_ascend (c.deref-2.ensures.value ∙ k)))

pub returns-clause-pruned : goal.returns-clause-pruned
returns-clause-pruned c =
    let w = cut_of c.args.left_out.now in
    let k = kept_of w (is_lasting c.args.moment) c.args.ledger.now c.items.result.now c.in_ok-items.items.items c.items.ensures.value c.in_ok-items.ensures in
    let n = counted w (is_lasting c.args.moment) c.args.ledger.now c.items-3.result.now c.items-2.result.now c.in_ok-items.items.items c.count_left-left.result
    c.items-3.ensures.value c.items-2.ensures.value k c.count_left-left.ensures in
    let l = c.len-2.ensures in
    omega (arith, n.1)

pub returns-clause-left : goal.returns-clause-left
returns-clause-left c =
    let w = cut_of c.args.left_out.now in
    let k = kept_of w (is_lasting c.args.moment) c.args.ledger.now c.items.result.now c.in_ok-items.items.items c.items.ensures.value c.in_ok-items.ensures in
    let n = counted w (is_lasting c.args.moment) c.args.ledger.now c.items-3.result.now c.items-2.result.now c.in_ok-items.items.items c.count_left-left.result
    c.items-3.ensures.value c.items-2.ensures.value k c.count_left-left.ensures in
    n.0

pub returns-clause-next : goal.returns-clause-next
returns-clause-next c =
    let w = cut_of c.args.left_out.now in
    let k = kept_of w (is_lasting c.args.moment) c.args.ledger.now c.items.result.now c.in_ok-items.items.items c.items.ensures.value c.in_ok-items.ensures in
    next_is w (is_lasting c.args.moment) c.args.ledger.now (part_fields c.newest_of-newest.result.now) (part_fields c.in_ok-part.part) c.in_ok-issuers.issuers.items
    c.in_ok-items.items.items c.in_ok-next.next (ap newest (sym c.parts-2.ensures.value) ∙ c.newest_of-newest.ensures) c.in_ok-part.ensures
    (c.in_ok-issuers.ensures ∙ issuers_cut w c.args.ledger.now (map part_fields c.parts.result.now) c.parts.ensures.value) k c.in_ok-next.ensures
