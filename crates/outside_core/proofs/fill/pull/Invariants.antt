use Rattle.std.proofs.Common.{◌≡◌, ◌+◌, ◌-◌, ◌≤◌, ℕ, List, length, take}
use Rattle.octets_core.specs.Position.{piece}
use Rattle.outside_core.specs.Standing.{depot_of, place_of, StandsIn}
use Rattle.outside_core.specs.Pulling.{Pulled}
use Rattle.outside_core.proofs.fill.pull.Given as goal

abbrev pub invariant-pieces : goal.invariant-pieces
invariant-pieces g l = record {
  len : length l.out ≡ length l.fn.out;
  within : l.done ≤ length l.out;
  pulled : Pulled g.D.Depot l.fn.feed l.feed;
  unblamed : g.D.Depot.failed_reads (depot_of l.feed) ≡ g.D.Depot.failed_reads (depot_of l.fn.feed);
  place : place_of l.feed ≡ place_of l.fn.feed + l.done;
  taken : (file : List ℕ) → StandsIn g.D.Depot l.fn.feed file → take l.done l.out ≡ piece l.done file (place_of l.fn.feed);
}

abbrev pub decreases-pieces : goal.decreases-pieces
decreases-pieces g l = length l.initial.out - l.done
