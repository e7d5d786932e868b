use Rattle.std.proofs.Common.{ℕ, ap, nat_eq}
use Rattle.sct_core.proofs.CountLaws.{counted}
use Rattle.sct_core.proofs.timestamps.Sightings.is_empty.Goals as goal

pub returns-clause-value : goal.returns-clause-value
returns-clause-value c = ap (λ (n : ℕ). nat_eq n 0) (counted c.self.inside.count c.self.inside.places c.args.self.now c.self.view_is c.self.invariant.0 c.self.invariant.1)
