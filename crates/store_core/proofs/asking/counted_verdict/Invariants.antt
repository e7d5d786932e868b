use Rattle.std.proofs.Common.{map, take}
use Rattle.card_core.proofs.Verdicts.{IsAsked}
use Rattle.store_core.proofs.asking.counted_verdict.Given as goal

abbrev pub invariant-loop-sealed : goal.invariant-loop-sealed
invariant-loop-sealed g l = IsAsked l.id l.sightings (map (λ s. s.part) (take l.sealed-index l.parts)) l.verdict l.fn.probes l.probes l.fn.words l.words
