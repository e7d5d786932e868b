use Rattle.std.proofs.Common.{ℕ, sym, ap, ◌∙◌}
use Rattle.std.proofs.lemmas.Result.{err_from_is_err_and}
use Rattle.octets_core.specs.Reading.{key}
use Rattle.job_core.specs.JobLayout.{fielded}
use Rattle.job_core.specs.declared.fault.JobFault.TheVariants as faults
use Rattle.job_core.proofs.Fetching.{field-ok, field-wrong, field-short, bytes-are}
use Rattle.octets_core.specs.Linked.{is_after}
use Rattle.octets_core.specs.declared.fault.Why.TheVariants as why
use Rattle.job_core.proofs.fetch.fetch_key_after.Goals as goal

pub returns-in_err-fetch-clause-exact : goal.returns-in_err-fetch-clause-exact
returns-in_err-fetch-clause-exact g c =
    let p = err_from_is_err_and c.from_residual.result c.from_residual.ensures.1 in
    rw (p.1, p.2) (field-short g.D.Depot (λ k. k) (fielded (key c.args.field (is_after c.args.previous))) c.args.field 32 (is_after c.args.previous) (λ b. b)
    (bytes-are c.args.field 32 (is_after c.args.previous)) c.args.feed.now c.fetch.new.feed c.fetch.new.out _ c.in_err-fetch.ensures.exact)

pub returns-then-not-is_after-clause-exact : goal.returns-then-not-is_after-clause-exact
returns-then-not-is_after-clause-exact g c =
    let at = c.wrong.ensures ∙ ap (λ (n : ℕ). faults.Layout (record { at = n; field = c.args.field; why = why.Value })) c.at-at.ensures in
    rw at (field-wrong g.D.Depot (λ k. k) (fielded (key c.args.field (is_after c.args.previous))) c.args.field 32 (is_after c.args.previous) (λ b. b)
    (bytes-are c.args.field 32 (is_after c.args.previous)) c.args.feed.now c.fetch.new.feed c.fetch.new.out c.in_ok-fetch.ensures.exact
    (rw (← c.new-key.ensures) (sym c.is_after.ensures ∙ c.if-not-is_after.true)))

pub returns-clause-exact : goal.returns-clause-exact
returns-clause-exact g c =
    field-ok g.D.Depot (λ k. k) (fielded (key c.args.field (is_after c.args.previous))) c.args.field 32 (is_after c.args.previous) (λ b. b)
    (bytes-are c.args.field 32 (is_after c.args.previous)) c.args.feed.now c.fetch.new.feed c.fetch.new.out _ c.in_ok-fetch.ensures.exact
    (rw (← c.new-key.ensures) (sym c.is_after.ensures ∙ c.if-not-is_after.false)) c.new-key.ensures
