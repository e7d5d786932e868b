use Rattle.history_core.proofs.Returning.{base_unenrolled, none_lacked, entry_seen}
use Rattle.history_core.proofs.laws.left_out_issuers_come_back.Goals as goal

pub returns : goal.returns
returns c = record {
  unenrolled = λ keeps cut rs trailer k h. base_unenrolled keeps cut rs trailer k h;
  timely = λ rs x s h. none_lacked rs x s h;
  accepted = λ rs job trailer e h a v k. entry_seen rs job trailer e h a v k;
}
