use Rattle.std.proofs.Common.{◌≡◌, filter, take, not}
use Rattle.ident_core.specs.Sets.{has_key}
use Rattle.universe_core.proofs.enrolling.without.Given as goal

abbrev pub invariant-loop-key : goal.invariant-loop-key
invariant-loop-key l = l.left.items ≡ filter (λ k. not (has_key l.others k)) (take l.key-index l.keys)
