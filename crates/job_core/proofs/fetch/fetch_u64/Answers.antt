use Rattle.std.proofs.Common.{◌-◌, ◌^◌, ℕ, ap, ◌∙◌, arith}
use Rattle.std.specs.Int.{w64, from_be_bytes}
use Rattle.std.proofs.lemmas.Result.{err_from_is_err_and}
use Rattle.octets_core.specs.Reading.{number}
use Rattle.octets_core.specs.declared.fault.Why.TheVariants as why
use Rattle.job_core.specs.JobLayout.{fielded}
use Rattle.job_core.specs.declared.fault.JobFault.TheVariants as faults
use Rattle.job_core.proofs.Fetching.{field-ok, field-wrong, field-short, number-is, number_test, in_bounds, too_low}
use Rattle.job_core.proofs.fetch.fetch_u64.Goals as goal

pub returns-in_err-fetch-clause-exact : goal.returns-in_err-fetch-clause-exact
returns-in_err-fetch-clause-exact g c =
    let p = err_from_is_err_and c.from_residual.result c.from_residual.ensures.1 in
    rw (p.1, p.2) (field-short g.D.Depot (λ n. n) (fielded (number c.args.field w64 c.args.low (2 ^ 64 - 1))) c.args.field 8 (number_test w64 c.args.low (2 ^ 64 - 1)) (from_be_bytes w64)
    (number-is c.args.field w64 c.args.low (2 ^ 64 - 1)) c.args.feed.now c.fetch.new.feed c.fetch.new.out _ c.in_err-fetch.ensures.exact)

pub returns-then-n-low-clause-exact : goal.returns-then-n-low-clause-exact
returns-then-n-low-clause-exact g c =
    let at = c.wrong.ensures ∙ ap (λ (n : ℕ). faults.Layout (record { at = n; field = c.args.field; why = why.Value })) c.at-at.ensures in
    rw at (field-wrong g.D.Depot (λ n. n) (fielded (number c.args.field w64 c.args.low (2 ^ 64 - 1))) c.args.field 8 (number_test w64 c.args.low (2 ^ 64 - 1)) (from_be_bytes w64)
    (number-is c.args.field w64 c.args.low (2 ^ 64 - 1)) c.args.feed.now c.fetch.new.feed c.fetch.new.out c.in_ok-fetch.ensures.exact
    (rw (← c.from_be_bytes-n.ensures) (too_low c.args.low (2 ^ 64 - 1) c.from_be_bytes-n.result (omega (arith, c.if-n-low.true)))))

pub returns-clause-exact : goal.returns-clause-exact
returns-clause-exact g c =
    field-ok g.D.Depot (λ n. n) (fielded (number c.args.field w64 c.args.low (2 ^ 64 - 1))) c.args.field 8 (number_test w64 c.args.low (2 ^ 64 - 1)) (from_be_bytes w64)
    (number-is c.args.field w64 c.args.low (2 ^ 64 - 1)) c.args.feed.now c.fetch.new.feed c.fetch.new.out _ c.in_ok-fetch.ensures.exact
    (rw (← c.from_be_bytes-n.ensures) (in_bounds c.args.low (2 ^ 64 - 1) c.from_be_bytes-n.result (omega (arith, c.if-n-low.false)) (omega (arith, c.from_be_bytes-n.type_inv, c.if-n-low.false))))
    c.from_be_bytes-n.ensures
