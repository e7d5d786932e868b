use Rattle.std.proofs.Common.{arith}
use Rattle.store_core.proofs.StoreSpelled.{found-of}
use Rattle.store_core.proofs.decode.decode_store.Goals as goal

pub returns-clause-found : goal.returns-clause-found
returns-clause-found c = found-of c.args.bytes.now c.whole_store.result (λ i. omega (arith, c.type_inv.bytes i)) c.whole_store.ensures
