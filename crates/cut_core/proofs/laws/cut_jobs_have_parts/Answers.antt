use Rattle.cut_core.proofs.Parted.{jobs_parted, next_course, next_parted}
use Rattle.cut_core.proofs.laws.cut_jobs_have_parts.Goals as goal

pub returns : goal.returns
returns c = record {
  jobs = jobs_parted;
  next = next_parted;
  course = next_course;
}
