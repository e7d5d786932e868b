use Rattle.std.proofs.Common.{ap, sym, subst, length, arith}
use Rattle.std.proofs.lemmas.List.{length-map}
use Rattle.ledger_core.specs.LedgerFields.{part_fields}
use Rattle.universe_core.specs.Following.{IsBefore}
use Rattle.universe_core.specs.Step.{IsAdmission}
use Rattle.universe_core.proofs.Continuing.{before_ledger, shows}
use Rattle.universe_core.proofs.admission.admit.Goals as goal

pub step-requires-clause-few_parts : goal.step-requires-clause-few_parts
step-requires-clause-few_parts c =
    let e = ap length c.parts.ensures.value in
    let n = length-map c.parts.result.now part_fields in
    let f = c.parts.ensures.facts.few_parts in
    omega arith

pub step-requires-clause-before : goal.step-requires-clause-before
step-requires-clause-before c = subst (λ l. IsBefore l) (sym
    (shows c.args.ledger.now c.parts.result.now c.items.result.now c.parts.ensures.value c.items.ensures.value))
    (before_ledger c.args.ledger.now c.parts.ensures.facts)

pub returns : goal.returns
returns c =
    subst (λ l. IsAdmission c.args.limits.now l c.args.job.now c.step.result)
    (shows c.args.ledger.now c.parts.result.now c.items.result.now c.parts.ensures.value c.items.ensures.value) c.step.ensures
