use Rattle.store_core.proofs.Growing.{taken-chain, taken-room, chain-front, chain-taken}
use Rattle.store_core.proofs.laws.chains_grow.Goals as goal

pub returns : goal.returns
returns c = record { longer = taken-chain; room = taken-room; only = λ parts p chain some few. (chain-front parts _ chain, chain-taken parts p chain some few) }
