use Rattle.std.proofs.lemmas.Result.{err_from_is_err_and}
use Rattle.input_core.proofs.FedJobs.{fed_job, fed_fault}
use Rattle.input_core.proofs.jobs.fed_job.Goals as goal

pub returns-in_err-read_job_from-clause-input : goal.returns-in_err-read_job_from-clause-input
returns-in_err-read_job_from-clause-input g c =
    let p = err_from_is_err_and c.from_residual.result c.from_residual.ensures.1 in
    rw (p.1, p.2) (fed_fault g.D.Depot c.args.feed.now c.read_job_from.new.feed c.in_err-read_job_from.field-0.0 c.in_err-read_job_from.ensures.blames
    (c.in_err-read_job_from.ensures.given c.requires.in_order))

pub returns-clause-input : goal.returns-clause-input
returns-clause-input g c = fed_job g.D.Depot c.args.feed.now c.read_job_from.new.feed c.in_ok-read_job_from.field-0 c.in_ok-read_job_from.ensures.blames
    (c.in_ok-read_job_from.ensures.given c.requires.in_order)
