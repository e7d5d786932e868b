use Rattle.std.proofs.Common.{◌≡◌, ◌<◌, ◌^◌, take}
use Rattle.octets_core.specs.Numbers.{number}
use Rattle.octets_core.proofs.vectors.number_of.Given as goal

abbrev pub invariant-loop-b : goal.invariant-loop-b
invariant-loop-b l = record {
  value : l.n ≡ number (take l.b-index l.bytes);
  bound : l.n < 256 ^ l.b-index;
}
