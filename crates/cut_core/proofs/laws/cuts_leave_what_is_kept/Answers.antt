use Rattle.std.proofs.Common.{[]}
use Rattle.cut_core.proofs.Again.{release_again, job_again, course_again}
use Rattle.cut_core.proofs.Bases.{base_beside, kept_base}
use Rattle.cut_core.proofs.Courses.{course_beside, history_beside}
use Rattle.cut_core.proofs.Releases.{releases_beside}
use Rattle.cut_core.proofs.Wholes.{split_beside}
use Rattle.cut_core.proofs.laws.cuts_leave_what_is_kept.Goals as goal

pub returns : goal.returns
returns c = record {
  jobs = λ cut trailer other jobs. releases_beside cut trailer other [] [] jobs tt;
  courses = course_beside;
  histories = history_beside;
  bases = λ cut moment kept rs qs trailer other z. base_beside cut kept moment rs qs trailer other z;
  splits = kept_base;
  begun = split_beside;
  again = release_again;
  again_jobs = job_again;
  again_courses = course_again;
}
