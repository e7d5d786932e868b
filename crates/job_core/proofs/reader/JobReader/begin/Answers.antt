use Rattle.std.proofs.Common.{refl, arith}
use Rattle.std.proofs.lemmas.Result.{err_from_is_err_and}
use Rattle.outside_core.specs.Standing.{place_of}
use Rattle.job_core.specs.declared.reader.Stage.TheVariants as stages
use Rattle.job_core.proofs.Fetching.{told}
use Rattle.job_core.proofs.JobStanding.{gives-first, gives-no_job}
use Rattle.job_core.proofs.reader.JobReader.begin.Goals as goal

pub returns-in_err-epoch-clause-next : goal.returns-in_err-epoch-clause-next
returns-in_err-epoch-clause-next g c =
    let p = err_from_is_err_and c.from_residual.result c.from_residual.ensures.1 in
    let e = c.in_err-epoch.ensures.exact in
    rw (p.1, p.2) (λ file stands has. gives-no_job c.args.self.now c.args.self.now file (place_of c.args.feed.now) (place_of c.fetch_opening.new.feed)
    (omega (arith, stands.window.within)) has _ c.requires (told e file stands))

pub returns-in_err-epoch-clause-blames : goal.returns-in_err-epoch-clause-blames
returns-in_err-epoch-clause-blames g c =
    let p = err_from_is_err_and c.from_residual.result c.from_residual.ensures.1 in
    rw (p.1, p.2) c.in_err-epoch.ensures.exact.blames

pub returns-in_err-epoch-clause-pulled : goal.returns-in_err-epoch-clause-pulled
returns-in_err-epoch-clause-pulled g c = c.in_err-epoch.ensures.exact.pulled

pub returns-clause-pulled : goal.returns-clause-pulled
returns-clause-pulled g c = c.in_ok-epoch.ensures.exact.pulled

pub returns-clause-blames : goal.returns-clause-blames
returns-clause-blames g c = c.in_ok-epoch.ensures.exact.blames

pub returns-clause-next : goal.returns-clause-next
returns-clause-next g c = λ file stands has.
    let e = c.in_ok-epoch.ensures.exact in
    let later = e.pulled.stands file stands in
    gives-first c.args.self.now (record c.args.self.now { stage = stages.Records }) file (place_of c.args.feed.now) (place_of c.fetch_opening.new.feed) e.pulled.further
    (omega (arith, later.window.within)) refl has (c.in_ok-epoch.epoch, c.in_ok-epoch.moment) c.requires refl refl
    (told e file stands)
