use Rattle.std.proofs.Common.{◌≡◌, All, take}
use Rattle.universe_core.specs.Marking.{IsListed, listed_in}
use Rattle.universe_core.proofs.listing.sorted.Given as goal

abbrev pub invariant-loop-serial : goal.invariant-loop-serial
invariant-loop-serial l = record { serials : listed_in l.out.items ≡ take l.serial-index l.serials; keys : All IsListed l.out.items }
