use Rattle.universe_core.proofs.Greatest.{greatest_is}
use Rattle.history_core.proofs.Places.{last_in_words}
use Rattle.history_core.proofs.Words.{revoked_in_words, listed_once, listed_in_words, listed_behind, listed_of_jobs, leaves_more, releases_leave, classes_add_up}
use Rattle.history_core.proofs.laws.words_hold.Goals as goal

pub returns : goal.returns
returns c = record {
  revoked_set = λ rs job trailer x. revoked_in_words rs job trailer x;
  listed_once = λ rs x w. listed_once rs x w;
  listed = λ x jobs rs z. listed_in_words x jobs rs z;
  listed_behind = λ x jobs base rs z w. listed_behind x jobs base rs z w;
  leaves_none = tt;
  leaves_more = λ jobs job rs trailer z. leaves_more jobs job rs trailer z;
  listed_by_jobs = λ trailer jobs x. listed_of_jobs trailer jobs x;
  leaves = λ trailer jobs before rs z. releases_leave trailer jobs before rs z;
  classes = λ past job. classes_add_up past job;
  last = λ rs x. last_in_words x rs;
  greatest = λ ds. greatest_is ds;
}
