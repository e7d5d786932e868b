use Rattle.std.proofs.Common.{◌≡◌, ℕ, true, false, sym, ap, ◌∙◌}
use Rattle.std.specs.Str.{bytes_eq}
use Rattle.std.proofs.lemmas.Result.{err_from_is_err_and}
use Rattle.octets_core.specs.Reading.{magic}
use Rattle.octets_core.specs.declared.fault.Why.TheVariants as why
use Rattle.job_core.specs.JobLayout.{fielded}
use Rattle.job_core.specs.declared.fault.JobFault.TheVariants as faults
use Rattle.job_core.proofs.Fetching.{field-ok, field-wrong, field-short, bytes-are, not-true, not-false}
use Rattle.std.proofs.lemmas.Slice.Eq.{bytes_eq-Decides}
use Rattle.job_core.proofs.fetch.fetch_magic.Goals as goal

pub returns-in_err-fetch-clause-exact : goal.returns-in_err-fetch-clause-exact
returns-in_err-fetch-clause-exact g c =
    let p = err_from_is_err_and c.from_residual.result c.from_residual.ensures.1 in
    rw (p.1, p.2) (field-short g.D.Depot (λ u. c.args.text.now) (fielded (magic c.args.field c.args.text.now)) c.args.field 8 (bytes_eq c.args.text.now) (λ b. b)
    (bytes-are c.args.field 8 (bytes_eq c.args.text.now)) c.args.feed.now c.fetch.new.feed c.fetch.new.out _ c.in_err-fetch.ensures.exact)

pub returns-then-ne-clause-exact : goal.returns-then-ne-clause-exact
returns-then-ne-clause-exact g c =
    let at = c.wrong.ensures ∙ ap (λ (n : ℕ). faults.Layout (record { at = n; field = c.args.field; why = why.Value })) c.at-at.ensures in
    let test : bytes_eq c.args.text.now c.fetch.new.out ≡ false = rw (← c.as_slice.ensures, ← c.as_slice-2.ensures) (not-true _ (sym c.ne.ensures ∙ c.if-ne.true)) in
    rw at (field-wrong g.D.Depot (λ u. c.args.text.now) (fielded (magic c.args.field c.args.text.now)) c.args.field 8 (bytes_eq c.args.text.now) (λ b. b)
    (bytes-are c.args.field 8 (bytes_eq c.args.text.now)) c.args.feed.now c.fetch.new.feed c.fetch.new.out c.in_ok-fetch.ensures.exact test)

pub returns-clause-exact : goal.returns-clause-exact
returns-clause-exact g c =
    let test : bytes_eq c.args.text.now c.fetch.new.out ≡ true = rw (← c.as_slice.ensures, ← c.as_slice-2.ensures) (not-false _ (sym c.ne.ensures ∙ c.if-ne.false)) in
    field-ok g.D.Depot (λ u. c.args.text.now) (fielded (magic c.args.field c.args.text.now)) c.args.field 8 (bytes_eq c.args.text.now) (λ b. b)
    (bytes-are c.args.field 8 (bytes_eq c.args.text.now)) c.args.feed.now c.fetch.new.feed c.fetch.new.out _ c.in_ok-fetch.ensures.exact test
    ((bytes_eq-Decides c.args.text.now c.fetch.new.out).0 test)
