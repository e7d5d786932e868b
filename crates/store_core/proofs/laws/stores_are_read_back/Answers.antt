use Rattle.store_core.proofs.StoreTexts.{store-again, store-value}
use Rattle.store_core.proofs.laws.stores_are_read_back.Goals as goal

pub returns : goal.returns
returns c = record { text = store-again; parts = store-value }
