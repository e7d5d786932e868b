use Rattle.std.proofs.Common.{◌+◌, ◌*◌, ◌≤◌, ◌-◌, ◌^◌}
use Rattle.outside_core.specs.Standing.{place_of}
use Rattle.job_core.specs.JobFields.{fields_of_job}
use Rattle.job_core.specs.Partial.{held_in}
use Rattle.outside_core.specs.Pulling.{Pulled}
use Rattle.job_core.specs.Pulling.{NoneFailed}
use Rattle.job_core.proofs.Gathering.{Gathers, count_of}
use Rattle.job_core.proofs.reading_from.put_items.Given as goal

abbrev pub invariant-records : goal.invariant-records
invariant-records g l = record {
  pulled : Pulled g.D.Depot l.fn.feed l.feed;
  none : NoneFailed g.D.Depot l.fn.feed l.feed;
  gathers : Gathers g.D.Depot l.limits (fields_of_job l.fn.job) (fields_of_job l.job) (held_in l.numbers) l.serials l.fn.feed l.feed;
  near : place_of l.feed ≤ place_of l.fn.feed + count_of l.numbers * (2 ^ 27 + 1);
  few : l.serials ≤ l.limits.serials;
}

abbrev pub decreases-records : goal.decreases-records
decreases-records g l = 2 ^ 64 - place_of l.feed
