use Rattle.std.proofs.Common.{map, length, sym, ap, ◌∙◌, subst, arith}
use Rattle.std.specs.Prelude.{filter, is_some}
use Rattle.std.proofs.lemmas.List.{length-map}
use Rattle.ledger_core.specs.declared.fields.LedgerItem.{LedgerItem}
use Rattle.ledger_core.specs.LedgerFields.{IsLedger}
use Rattle.universe_core.specs.Groups.{group_fields}
use Rattle.universe_core.specs.Rebases.{ledger_cut, is_lasting}
use Rattle.publication_core.specs.LeftOut.{cut_of}
use Rattle.publication_core.proofs.Cuts.{IsLedger-cut}
use Rattle.publication_core.proofs.BasePublishing.{base_ascends, base_many, base_identities, base_publishes}
use Rattle.publication_core.proofs.base_publishing.publish_base.Goals as goal

pub built-requires-clause-ascending : goal.built-requires-clause-ascending
built-requires-clause-ascending g c κs within =
    base_ascends (is_lasting c.args.moment) (ledger_cut (cut_of c.args.left_out.now) c.args.ledger) (map group_fields c.deref.result.now) (ap (map group_fields) c.deref.ensures.value ∙ c.in_ok-rebased.ensures.groups)

pub built-requires-clause-few : goal.built-requires-clause-few
built-requires-clause-few g c κs within =
    omega (
      arith,
      sym (length-map c.deref.result.now group_fields),
      base_many (is_lasting c.args.moment) (ledger_cut (cut_of c.args.left_out.now) c.args.ledger) (map group_fields c.deref.result.now) (ap (map group_fields) c.deref.ensures.value ∙ c.in_ok-rebased.ensures.groups),
      c.in_ok-rebased.ensures.rebased,
    )

pub built-requires-clause-identities : goal.built-requires-clause-identities
built-requires-clause-identities g c κs within =
    base_identities (is_lasting c.args.moment) (ledger_cut (cut_of c.args.left_out.now) c.args.ledger) (map group_fields c.deref.result.now) (ap (map group_fields) c.deref.ensures.value ∙ c.in_ok-rebased.ensures.groups)
    (IsLedger-cut (cut_of c.args.left_out.now) c.args.ledger (subst IsLedger c.ledger.view_is c.ledger.invariant))

pub returns : goal.returns
returns g c = λ settled.
    let rebased = c.in_ok-rebased.rebased in
    let made = c.in_ok-made.made in
    base_publishes c.args.ledger c.args.moment (cut_of c.args.left_out.now) rebased.head rebased.groups.items rebased.next made.1 made.0
    (record { issuers = c.len.result; universe = length c.items.result.now; revoked = c.count_revoked.result; pruned = rebased.pruned; left = rebased.left }) c.new.result
    c.in_ok-rebased.ensures.rebased c.in_ok-rebased.ensures.head c.in_ok-rebased.ensures.groups c.in_ok-rebased.ensures.next (rw c.deref.ensures.value at c.in_ok-made.ensures.made) (omega (arith, c.len.ensures, rebased.groups.ok.0))
    (ap length c.items.ensures.value)
    (c.count_revoked.ensures ∙ ap (λ is. length (filter (λ (i : LedgerItem). is_some i.last) is)) c.items-2.ensures.value) c.in_ok-rebased.ensures.pruned c.in_ok-rebased.ensures.left c.new.ensures
