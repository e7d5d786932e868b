use Rattle.std.proofs.Common.{sym, ◌∙◌}
use Rattle.std.proofs.lemmas.Simd.{length-zip2}
use Rattle.ribbon_core.proofs.reading.xor_lanes.Goals as goal

pub returns-clause-lanes : goal.returns-clause-lanes
returns-clause-lanes c = length-zip2 _ c.args.a c.args.b (c.requires.a ∙ sym c.requires.b) ∙ c.requires.a
