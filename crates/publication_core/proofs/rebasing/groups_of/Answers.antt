use Rattle.std.specs.List.{filter}
use Rattle.std.specs.Prelude.{is_some}
use Rattle.std.proofs.Common.{◌∙◌}
use Rattle.ledger_core.specs.LedgerFields.{ids}
use Rattle.ident_core.specs.Sets.{has}
use Rattle.publication_core.proofs.Kept.{flags_are}
use Rattle.publication_core.proofs.rebasing.groups_of.Goals as goal

pub returns : goal.returns
returns c =
    c.groups.ensures (has (ids (filter (λ i. is_some i.last) c.args.items.now)))
    (c.deref.ensures.value ∙ c.in_ok-revoked.ensures ∙ flags_are c.args.items.now c.requires)
