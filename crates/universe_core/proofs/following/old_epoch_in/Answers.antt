use Rattle.std.specs.Option.{option_map}
use Rattle.std.proofs.Common.{◌∙◌, ap, rules}
use Rattle.ledger_core.specs.LedgerFields.{part_fields}
use Rattle.universe_core.specs.Step.{old_epoch}
use Rattle.universe_core.proofs.Continuing.{newest_code}
use Rattle.universe_core.proofs.following.old_epoch_in.Goals as goal

pub returns-then-epoch-part : goal.returns-then-epoch-part
returns-then-epoch-part c =
    (let t = c.if-epoch-part.true in search rules) ∙ ap (λ p. old_epoch p c.args.epoch) (ap (option_map part_fields) c.in-Some.ensures.value ∙ newest_code c.args.parts.now)

pub returns-else-epoch-part : goal.returns-else-epoch-part
returns-else-epoch-part c =
    (let t = c.if-epoch-part.false in search rules) ∙ ap (λ p. old_epoch p c.args.epoch) (ap (option_map part_fields) c.in-Some.ensures.value ∙ newest_code c.args.parts.now)

pub returns-in-None : goal.returns-in-None
returns-in-None c = ap (λ p. old_epoch p c.args.epoch) (ap (option_map part_fields) c.in-None.ensures.value ∙ newest_code c.args.parts.now)
