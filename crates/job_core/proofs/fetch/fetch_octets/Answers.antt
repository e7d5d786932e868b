use Rattle.std.proofs.Common.{◌≡◌, length, refl, arith}
use Rattle.std.proofs.lemmas.List.{take_at}
use Rattle.std.proofs.lemmas.Result.{err_from_is_err_and}
use Rattle.octets_core.specs.Reading.{octets}
use Rattle.job_core.specs.JobLayout.{fielded}
use Rattle.job_core.specs.declared.fault.JobFault.TheVariants as faults
use Rattle.job_core.proofs.Fetching.{fetched-refused, fetched-items, fetched-items-err}
use Rattle.job_core.proofs.fetch.fetch_octets.Goals as goal

pub returns-in_err-resize-clause-exact : goal.returns-in_err-resize-clause-exact
returns-in_err-resize-clause-exact g c =
    let p = err_from_is_err_and c.from_residual.result c.from_residual.ensures.1 in
    rw (p.1, p.2) (fetched-refused g.D.Depot _ (fielded (octets c.args.field c.args.width)) c.args.feed.now faults.NoMemory (λ same. absurd cc) (λ of. absurd (of.0 refl)))

pub returns-in_err-fetch-clause-exact : goal.returns-in_err-fetch-clause-exact
returns-in_err-fetch-clause-exact g c =
    let p = err_from_is_err_and c.from_residual-in_err-fetch.result c.from_residual-in_err-fetch.ensures.1 in
    let len : length c.deref_mut.result.now ≡ c.args.width = omega (arith, c.deref_mut.ensures.len, c.in_ok-resize.ensures.len) in
    rw (p.1, p.2) (fetched-items-err g.D.Depot _ c.args.field
    (length c.deref_mut.result.now) c.args.width c.args.feed.now c.fetch.new.feed c.fetch.new.out _ len c.in_err-fetch.ensures.exact)

pub returns-clause-exact : goal.returns-clause-exact
returns-clause-exact g c =
    let len : length c.deref_mut.result.now ≡ c.args.width = omega (arith, c.deref_mut.ensures.len, c.in_ok-resize.ensures.len) in
    fetched-items g.D.Depot _ c.args.field (length c.deref_mut.result.now) c.args.width c.args.feed.now c.fetch.new.feed c.fetch.new.out _ _ len
    (take_at c.fetch.new.out _ c.resize.new.self.len (omega (arith, len, c.in_ok-fetch.ensures.len, c.in_ok-resize.ensures.len))) c.in_ok-fetch.ensures.exact
