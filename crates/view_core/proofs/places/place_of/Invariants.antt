use Rattle.std.proofs.Common.{◌-◌, length}
use Rattle.card_core.proofs.Searching.{Halving}
use Rattle.view_core.proofs.PlaceSearch.{Lacks}
use Rattle.view_core.proofs.places.place_of.Given as goal

abbrev pub invariant-loop-low : goal.invariant-loop-low
invariant-loop-low g l = record {
  steps : Halving (length l.places) l.fn.probes l.probes l.low l.high;
  lacks : Lacks l.bytes l.places l.buckets l.issuer l.low l.high;
}

abbrev pub decreases-loop-low : goal.decreases-loop-low
decreases-loop-low g l = l.high - l.low
