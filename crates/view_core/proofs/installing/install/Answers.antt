use Rattle.std.proofs.Common.{length, arith}
use Rattle.view_core.proofs.Installs.{no_room, some_room, store_head_long, is-installed}
use Rattle.view_core.proofs.installing.install.Goals as goal

pub returns-then-new-wanted-clause-value : goal.returns-then-new-wanted-clause-value
returns-then-new-wanted-clause-value c = no_room c.args.store.now c.args.part.now c.in_ok-count.count (length c.args.new.now) c.in_ok-count.ensures c.if-new-wanted.true

pub write_store-requires-clause-head : goal.write_store-requires-clause-head
write_store-requires-clause-head c =
    store_head_long c.args.store.now c.args.part.now c.in_ok-count.count (λ i. omega (arith, c.type_inv.store i)) c.in_ok-count.ensures

pub returns-clause-value : goal.returns-clause-value
returns-clause-value c = some_room c.args.store.now c.args.part.now c.in_ok-count.count (length c.args.new.now) c.in_ok-count.ensures c.if-new-wanted.false

pub returns-clause-text : goal.returns-clause-text
returns-clause-text c =
    is-installed c.args.store.now c.args.part.now c.write_store.new.new c.in_ok-count.count (λ i. omega (arith, c.type_inv.store i)) (λ i. omega (arith, c.type_inv.part i))
    c.in_ok-count.ensures (omega arith) c.write_store.ensures.text
