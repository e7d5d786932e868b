use Rattle.publication_core.proofs.Built.{each_item}
use Rattle.publication_core.proofs.Cuts.{head_cut, taken_issuers, other_kept, cut_of_everything}
use Rattle.publication_core.proofs.base_laws.ledgers_are_cut.Goals as goal

pub returns : goal.returns
returns c = record {
  head = λ cut l. head_cut cut l;
  issuers = λ cut l. taken_issuers cut l;
  items = λ cut keeps l. other_kept cut keeps l;
  each = λ cut keeps l. each_item cut keeps l;
  all = λ l. cut_of_everything l;
}
