use Rattle.std.proofs.Common.{◌≡◌, ◌*◌, ◌&&◌, not, map, zip, take}
use Rattle.card_core.specs.Leaf.{passes}
use Rattle.stage_core.proofs.passing.flags_alone.Given as goal

abbrev pub invariant-fours : goal.invariant-fours
invariant-fours g l = l.flags.items ≡ map (λ p. not p.1 && passes (g.H.EquationHash.row_of l.hash) l.approx p.0) (take (4 * l.i) (zip l.universe l.revoked))

abbrev pub invariant-rest : goal.invariant-rest
invariant-rest g l = l.flags.items ≡ map (λ p. not p.1 && passes (g.H.EquationHash.row_of l.hash) l.approx p.0) (take l.i (zip l.universe l.revoked))
