use Rattle.std.proofs.Common.{◌≡◌, ◌≤◌, ◌+◌, ◌++◌, length, List, Bor}
use Rattle.std.specs.List.{flat_map}
use Rattle.ident_core.specs.declared.identity.Identity.{Identity}
use Rattle.builder_core.proofs.drawing.runs_of.Given as goal

abbrev pub invariant-runs : goal.invariant-runs
invariant-runs l = record {
  whole : flat_map (λ (r : Bor (List Identity)). r.now) l.runs.items ++ l.rest ≡ l.universe;
  few : length l.runs.items + length l.rest ≤ length l.universe;
}

abbrev pub decreases-runs : goal.decreases-runs
decreases-runs l = length l.rest
