use Rattle.std.proofs.Common.{◌≡◌, ◌-◌, subst, arith}
use Rattle.std.specs.Prelude.{Some}
use Rattle.store_core.specs.Chain.{newest_of}
use Rattle.store_core.proofs.Growing.{newest-found}
use Rattle.store_core.proofs.store.Store.newest.Goals as goal

pub returns : goal.returns
returns c =
    subst (λ l. newest_of l ≡ Some c.index.result.now) c.self.view_is
    (newest-found c.self.inside.parts.items (c.len.result - 1) c.index.result.now c.self.invariant.0.some (omega arith) c.index.ensures)
