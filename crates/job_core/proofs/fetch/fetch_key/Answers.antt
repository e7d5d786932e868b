use Rattle.std.proofs.Common.{refl}
use Rattle.std.proofs.lemmas.Result.{err_from_is_err_and}
use Rattle.octets_core.specs.Reading.{key, any_key}
use Rattle.job_core.specs.JobLayout.{fielded}
use Rattle.job_core.proofs.Fetching.{field-ok, field-short, bytes-are}
use Rattle.job_core.proofs.fetch.fetch_key.Goals as goal

pub returns-in_err-fetch-clause-exact : goal.returns-in_err-fetch-clause-exact
returns-in_err-fetch-clause-exact g c =
    let p = err_from_is_err_and c.from_residual.result c.from_residual.ensures.1 in
    rw (p.1, p.2) (field-short g.D.Depot (λ k. k) (fielded (key c.args.field any_key)) c.args.field 32 any_key (λ b. b) (bytes-are c.args.field 32 any_key)
    c.args.feed.now c.fetch.new.feed c.fetch.new.out _ c.in_err-fetch.ensures.exact)

pub returns-clause-exact : goal.returns-clause-exact
returns-clause-exact g c =
    field-ok g.D.Depot (λ k. k) (fielded (key c.args.field any_key)) c.args.field 32 any_key (λ b. b) (bytes-are c.args.field 32 any_key)
    c.args.feed.now c.fetch.new.feed c.fetch.new.out _ c.in_ok-fetch.ensures.exact refl c.new.ensures
