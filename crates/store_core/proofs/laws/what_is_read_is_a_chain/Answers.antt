use Rattle.store_core.proofs.StoreChains.{store-chain, store-found}
use Rattle.store_core.proofs.laws.what_is_read_is_a_chain.Goals as goal

pub returns : goal.returns
returns c = record { chain = store-chain; spelled = store-found }
