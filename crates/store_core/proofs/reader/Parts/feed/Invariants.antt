use Rattle.std.proofs.Common.{◌+◌, ◌-◌, ◌≤◌, ◌++◌, List, ℕ, length, take}
use Rattle.store_core.specs.StoreReading.{PartsRead}
use Rattle.store_core.proofs.reader.Parts.feed.Given as goal

abbrev pub invariant-parts : goal.invariant-parts
invariant-parts l = record {
  within : l.taken ≤ length l.piece;
  read : (b : List ℕ) → PartsRead l.fn.self b → PartsRead l.self (b ++ take l.taken l.piece);
}

abbrev pub decreases-parts : goal.decreases-parts
decreases-parts l = l.self.left + (length l.piece - l.taken)
