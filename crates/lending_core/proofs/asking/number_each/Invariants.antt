use Rattle.std.proofs.Common.{◌≡◌, ◌++◌, take, drop}
use Rattle.std.specs.Prelude.{map}
use Rattle.lending_core.specs.Replies.{with_number}
use Rattle.lending_core.proofs.asking.number_each.Given as goal

abbrev pub invariant-loop-query : goal.invariant-loop-query
invariant-loop-query l =
    l.queries ≡ map (with_number l.number) (take l.query-index l.initial.queries) ++ drop l.query-index l.initial.queries
