use Rattle.publication_core.proofs.Chains.{history_chain, history_few, history_texts}
use Rattle.publication_core.proofs.chain_laws.parts_are_chains.Goals as goal

pub returns : goal.returns
returns c = record {
  chain = λ h is. history_chain h is;
  few = λ h is. history_few h is;
  texts = λ h is. history_texts h is;
}
