use Rattle.cut_core.proofs.Admitting.{admissible_cut, admissible_whole}
use Rattle.cut_core.proofs.laws.cut_jobs_follow.Goals as goal

pub returns : goal.returns
returns c = record { admitted = admissible_whole; alone = admissible_cut }
