use Rattle.std.proofs.Common.{List, ℕ}
use Rattle.store_core.specs.StoreReading.{PartsRead}
use Rattle.store_core.proofs.reader.Parts.finish.Given as goal

abbrev pub invariant-parts : goal.invariant-parts
invariant-parts l = record { read : (b : List ℕ) → PartsRead l.fn.self b → PartsRead l.self b }

abbrev pub decreases-parts : goal.decreases-parts
decreases-parts l = l.self.left
