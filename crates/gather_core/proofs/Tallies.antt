-- What a job counts, once all of it was read.
use Rattle.std.proofs.Common.{◌≡◌, ℕ, List, length, Ok, ap}
use Rattle.octets_core.specs.Reading.{value_of}
use Rattle.job_core.specs.declared.bounds.Limits.{Limits}
use Rattle.job_core.specs.JobLayout.{JobTexts, job}
use Rattle.job_core.specs.JobText.{contents_in, ranges_in, entries_in}
use Rattle.job_core.specs.Pulling.{AreBytes}
use Rattle.job_core.specs.Reader.{no_serials}
use Rattle.job_core.proofs.JobSpelled.{job-leaves}
use Rattle.gather_core.specs.declared.counting.Tally.{Tally}
use Rattle.gather_core.specs.Opened.{Counts}
use Rattle.gather_core.specs.Raw.{raw_by}

pub whole : (limits : Limits) (bytes : List ℕ) (t : JobTexts) (n : Tally) → AreBytes bytes → job no_serials limits bytes 0 ≡ Ok (t, length bytes) → n.epoch ≡ t.epoch
    → n.ranges ≡ length (ranges_in t.items) → n.entries ≡ length (entries_in t.items) → Counts limits bytes (Ok n)
whole limits bytes t n octets is epoch ranges entries =
    let said = (job-leaves no_serials limits bytes octets).each (t, length bytes) is in
    (contents_in t, ap (λ r. raw_by (value_of r)) is, said.0, said.1, epoch, ranges, entries)
