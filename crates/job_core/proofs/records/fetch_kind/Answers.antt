use Rattle.std.proofs.Common.{◌≡◌, ℕ, false, sym, ap, ◌∙◌}
use Rattle.std.specs.Int.{w8, from_be_bytes}
use Rattle.std.proofs.lemmas.Result.{err_from_is_err_and}
use Rattle.octets_core.specs.declared.field.Field.TheVariants as fields
use Rattle.octets_core.specs.declared.fault.Why.TheVariants as why
use Rattle.job_core.specs.JobLayout.{fielded, is_kind, record_kind}
use Rattle.job_core.specs.declared.fault.JobFault.TheVariants as faults
use Rattle.job_core.proofs.Fetching.{field-ok, field-wrong, field-short}
use Rattle.job_core.proofs.Fetched.{kind-is}
use Rattle.job_core.proofs.records.fetch_kind.Goals as goal

pub returns-in_err-fetch-clause-exact : goal.returns-in_err-fetch-clause-exact
returns-in_err-fetch-clause-exact g c =
    let p = err_from_is_err_and c.from_residual.result c.from_residual.ensures.1 in
    rw (p.1, p.2) (field-short g.D.Depot (λ k. k) (fielded (record_kind c.args.previous)) fields.RecordKind 1 (λ b. is_kind c.args.previous (from_be_bytes w8 b)) (from_be_bytes w8)
    (kind-is c.args.previous) c.args.feed.now c.fetch.new.feed c.fetch.new.out _ c.in_err-fetch.ensures.exact)

pub returns-then-not-is_kind_after-clause-exact : goal.returns-then-not-is_kind_after-clause-exact
returns-then-not-is_kind_after-clause-exact g c =
    let at = c.wrong.ensures ∙ ap (λ (n : ℕ). faults.Layout (record { at = n; field = fields.RecordKind; why = why.Value })) c.at-at.ensures in
    let test : is_kind c.args.previous (from_be_bytes w8 c.fetch.new.out) ≡ false = rw (← c.from_be_bytes-kind.ensures) (sym c.is_kind_after.ensures.is ∙ c.if-not-is_kind_after.true) in
    rw at (field-wrong g.D.Depot (λ k. k) (fielded (record_kind c.args.previous)) fields.RecordKind 1 (λ b. is_kind c.args.previous (from_be_bytes w8 b)) (from_be_bytes w8)
    (kind-is c.args.previous) c.args.feed.now c.fetch.new.feed c.fetch.new.out c.in_ok-fetch.ensures.exact test)

pub returns-clause-exact : goal.returns-clause-exact
returns-clause-exact g c = field-ok g.D.Depot (λ k. k) (fielded (record_kind c.args.previous)) fields.RecordKind 1 (λ b. is_kind c.args.previous (from_be_bytes w8 b)) (from_be_bytes w8)
    (kind-is c.args.previous) c.args.feed.now c.fetch.new.feed c.fetch.new.out _ c.in_ok-fetch.ensures.exact
    (rw (← c.from_be_bytes-kind.ensures) (sym c.is_kind_after.ensures.is ∙ c.if-not-is_kind_after.false)) c.from_be_bytes-kind.ensures
