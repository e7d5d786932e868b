use Rattle.std.proofs.Common.{◌≡◌, ◌≤◌}
use Rattle.sample_core.specs.Sample.{sample_revoked}
use Rattle.sample_core.proofs.sample.count_listed.Given as goal

abbrev pub invariant-loop-i : goal.invariant-loop-i
invariant-loop-i l = (l.listed ≡ sample_revoked l.i) × (l.listed ≤ l.i)
