use Rattle.std.proofs.Common.{◌∙◌, sym, ap}
use Rattle.std.specs.Option.{option_or}
use Rattle.store_core.specs.Chain.{broken, full}
use Rattle.store_core.proofs.Growing.{refusal-is}
use Rattle.view_core.proofs.scan.refusal_by.Goals as goal

pub returns : goal.returns
returns c = λ parts h g newest count of_held of_given.
    c.or.ensures
    ∙ ap (λ b. option_or b c.then_some-full.result) (c.broken_by.ensures h g of_held of_given)
    ∙ ap (option_or (broken h g)) (c.then_some-full.ensures ∙ ap full (sym count))
    ∙ sym (refusal-is parts h g newest)
