use Rattle.std.proofs.Common.{ℕ, Ok, Err, subst, ◌∙◌, refl, arith}
use Rattle.std.proofs.lemmas.Result.{err_from_is_err_and}
use Rattle.job_core.specs.declared.meaning.Job.{Job}
use Rattle.job_core.specs.JobFields.{JobFields, fields_of_job}
use Rattle.job_core.specs.JobLayout.{fielded, opening}
use Rattle.job_core.specs.Partial.{begun, records_saying}
use Rattle.job_core.specs.Pulling.{Fetches}
use Rattle.outside_core.proofs.Pulling.{pulled-then}
use Rattle.job_core.proofs.Fetching.{blames-then, fetched-then, fetched-err}
use Rattle.job_core.proofs.JobGiven.{reads-fault, reads-whole, reads-unended}
use Rattle.job_core.proofs.reading_from.job_from.Goals as goal

pub returns-in_err-epoch : goal.returns-in_err-epoch
returns-in_err-epoch g c =
    let p = err_from_is_err_and c.from_residual.result c.from_residual.ensures.1 in
    let o = c.in_err-epoch.ensures in
    rw (p.1, p.2) (record {
      pulled = o.exact.pulled;
      blames = o.exact.blames;
      reads = reads-fault g.D.Depot c.args.limits.now fields_of_job (λ (f : JobFields). f) c.args.feed.now c.fetch_opening.new.feed c.requires _ (omega (arith, o.near, c.requires))
          (fetched-err g.D.Depot (λ (o : ℕ × ℕ). o) (λ (f : JobFields). f) (fielded opening) (λ o. records_saying c.args.limits.now (begun o.0 o.1))
          c.args.feed.now c.fetch_opening.new.feed _ o.exact);
    })

pub returns-in_err-put_items : goal.returns-in_err-put_items
returns-in_err-put_items g c =
    let r = c.from_residual-in_err-put_items in
    let p = err_from_is_err_and r.result r.ensures.1 in
    let o = c.in_ok-epoch.ensures in
    let q = c.in_err-put_items.ensures in
    let all = fetched-then g.D.Depot (λ (o : ℕ × ℕ). o) (λ (u : Unit {0}). fields_of_job c.put_items.new.job) (fielded opening) (λ o. records_saying c.args.limits.now (begun o.0 o.1))
    c.args.feed.now c.fetch_opening.new.feed c.put_items.new.feed _ _ o.exact (subst (λ (f : JobFields). Fetches g.D.Depot (λ (u : Unit {0}). fields_of_job c.put_items.new.job)
    (records_saying c.args.limits.now f) c.fetch_opening.new.feed c.put_items.new.feed (Err c.in_err-put_items.field-0.0)) c.begun_job-job.ensures q.exact) in
    rw (p.1, p.2) (record {
      pulled = all.pulled;
      blames = all.blames;
      reads = reads-fault g.D.Depot c.args.limits.now fields_of_job (λ (u : Unit {0}). fields_of_job c.put_items.new.job) c.args.feed.now c.put_items.new.feed c.requires _
          (omega (arith, o.near, q.near, c.requires)) all;
    })

pub returns-in_err-fetch_end : goal.returns-in_err-fetch_end
returns-in_err-fetch_end g c =
    let r = c.from_residual-in_err-fetch_end in
    let p = err_from_is_err_and r.result r.ensures.1 in
    let o = c.in_ok-epoch.ensures in
    let q = c.in_ok-put_items.ensures in
    let e = c.in_err-fetch_end.ensures in
    let all = fetched-then g.D.Depot (λ (o : ℕ × ℕ). o) (λ (u : Unit {0}). fields_of_job c.put_items.new.job) (fielded opening) (λ o. records_saying c.args.limits.now (begun o.0 o.1))
    c.args.feed.now c.fetch_opening.new.feed c.put_items.new.feed _ _ o.exact (subst (λ (f : JobFields). Fetches g.D.Depot (λ (u : Unit {0}). fields_of_job c.put_items.new.job)
    (records_saying c.args.limits.now f) c.fetch_opening.new.feed c.put_items.new.feed (Ok tt)) c.begun_job-job.ensures q.exact) in
    rw (p.1, p.2) (record {
      pulled = pulled-then g.D.Depot c.args.feed.now c.put_items.new.feed c.fetch_end.new.feed all.pulled e.pulled;
      blames = blames-then {X = Job} g.D.Depot c.args.feed.now c.put_items.new.feed c.fetch_end.new.feed (Err _) all.pulled all.blames e.blames;
      reads = reads-unended g.D.Depot c.args.limits.now fields_of_job (λ (u : Unit {0}). fields_of_job c.put_items.new.job) c.args.feed.now c.put_items.new.feed c.requires _ all _ all.pulled e.more;
    })

pub returns : goal.returns
returns g c =
    let o = c.in_ok-epoch.ensures in
    let q = c.in_ok-put_items.ensures in
    let e = c.in_ok-fetch_end.ensures in
    let all = fetched-then g.D.Depot (λ (o : ℕ × ℕ). o) (λ (u : Unit {0}). fields_of_job c.put_items.new.job) (fielded opening) (λ o. records_saying c.args.limits.now (begun o.0 o.1))
    c.args.feed.now c.fetch_opening.new.feed c.put_items.new.feed _ _ o.exact (subst (λ (f : JobFields). Fetches g.D.Depot (λ (u : Unit {0}). fields_of_job c.put_items.new.job)
    (records_saying c.args.limits.now f) c.fetch_opening.new.feed c.put_items.new.feed (Ok tt)) c.begun_job-job.ensures q.exact) in
    record {
      pulled = pulled-then g.D.Depot c.args.feed.now c.put_items.new.feed c.fetch_end.new.feed all.pulled e.pulled;
      blames = e.blames ∙ all.blames;
      reads = reads-whole g.D.Depot c.args.limits.now fields_of_job (λ (u : Unit {0}). fields_of_job c.put_items.new.job) c.args.feed.now c.put_items.new.feed c.requires _ all _ refl
          (omega (arith, o.near, q.near, c.requires)) all.pulled e.ended;
    }
