use Rattle.std.proofs.Common.{ℕ, ap, ◌∙◌, arith}
use Rattle.std.specs.Int.{w32, from_be_bytes}
use Rattle.std.proofs.lemmas.Result.{err_from_is_err_and}
use Rattle.octets_core.specs.Reading.{number}
use Rattle.octets_core.specs.declared.fault.Why.TheVariants as why
use Rattle.job_core.specs.JobLayout.{fielded}
use Rattle.job_core.specs.declared.fault.JobFault.TheVariants as faults
use Rattle.job_core.proofs.Fetching.{field-ok, field-wrong, field-short, number-is, number_test, in_bounds, too_high}
use Rattle.job_core.proofs.fetch.fetch_u32.Goals as goal

pub returns-in_err-fetch-clause-exact : goal.returns-in_err-fetch-clause-exact
returns-in_err-fetch-clause-exact g c =
    let p = err_from_is_err_and c.from_residual.result c.from_residual.ensures.1 in
    rw (p.1, p.2) (field-short g.D.Depot (λ n. n) (fielded (number c.args.field w32 0 c.args.high)) c.args.field 4 (number_test w32 0 c.args.high) (from_be_bytes w32)
    (number-is c.args.field w32 0 c.args.high) c.args.feed.now c.fetch.new.feed c.fetch.new.out _ c.in_err-fetch.ensures.exact)

pub returns-then-n-high-clause-exact : goal.returns-then-n-high-clause-exact
returns-then-n-high-clause-exact g c =
    let at = c.wrong.ensures ∙ ap (λ (n : ℕ). faults.Layout (record { at = n; field = c.args.field; why = why.Value })) c.at-at.ensures in
    rw at (field-wrong g.D.Depot (λ n. n) (fielded (number c.args.field w32 0 c.args.high)) c.args.field 4 (number_test w32 0 c.args.high) (from_be_bytes w32)
    (number-is c.args.field w32 0 c.args.high) c.args.feed.now c.fetch.new.feed c.fetch.new.out c.in_ok-fetch.ensures.exact
    (rw (← c.from_be_bytes-n.ensures) (too_high 0 c.args.high c.from_be_bytes-n.result (omega (arith, c.if-n-high.true)))))

pub returns-clause-exact : goal.returns-clause-exact
returns-clause-exact g c =
    field-ok g.D.Depot (λ n. n) (fielded (number c.args.field w32 0 c.args.high)) c.args.field 4 (number_test w32 0 c.args.high) (from_be_bytes w32)
    (number-is c.args.field w32 0 c.args.high) c.args.feed.now c.fetch.new.feed c.fetch.new.out _ c.in_ok-fetch.ensures.exact
    (rw (← c.from_be_bytes-n.ensures) (in_bounds 0 c.args.high c.from_be_bytes-n.result (omega (arith, c.if-n-high.false)) (omega (arith, c.from_be_bytes-n.type_inv, c.if-n-high.false))))
    c.from_be_bytes-n.ensures
