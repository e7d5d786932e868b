use Rattle.std.proofs.Common.{◌≡◌, ◌++◌, map, take, drop, Ok}
use Rattle.lending_core.specs.Replies.{answered}
use Rattle.lending_core.proofs.asking.answer_each.Given as goal

abbrev pub invariant-loop-query : goal.invariant-loop-query
invariant-loop-query l =
    l.queries ≡ map (answered (Ok l.store) l.all) (take l.query-index l.initial.queries) ++ drop l.query-index l.initial.queries
