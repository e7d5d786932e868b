use Rattle.cut_core.proofs.Audits.{cut_audit}
use Rattle.cut_core.proofs.Courses.{cut_verdict}
use Rattle.cut_core.proofs.Listing.{listed_by_jobs}
use Rattle.cut_core.proofs.Wholes.{whole_verdict, split_verdict}
use Rattle.cut_core.proofs.verdicts.cut_parts_say_the_truth.Goals as goal

pub returns : goal.returns
returns c = record {
  published = cut_verdict;
  whole = whole_verdict;
  audited = cut_audit;
  split = split_verdict;
  words = λ cut jobs ps x e k. listed_by_jobs cut x k jobs ps e;
}
