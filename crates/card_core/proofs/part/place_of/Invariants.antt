use Rattle.std.proofs.Common.{◌-◌, length}
use Rattle.card_core.proofs.Searching.{Halving, Missed}
use Rattle.card_core.proofs.part.place_of.Given as goal

abbrev pub invariant-loop-low : goal.invariant-loop-low
invariant-loop-low g l = record {
  steps : Halving (length l.blocks) l.fn.probes l.probes l.low l.high;
  missed : Missed l.blocks l.issuer l.low l.high;
}

abbrev pub decreases-loop-low : goal.decreases-loop-low
decreases-loop-low g l = l.high - l.low
