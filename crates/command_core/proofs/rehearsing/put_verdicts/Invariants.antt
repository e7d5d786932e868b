use Rattle.std.proofs.Common.{◌≡◌, ◌++◌, map, flat_map, take}
use Rattle.input_core.specs.Queries.{as_query}
use Rattle.command_core.specs.Commands.{verdict_line}
use Rattle.command_core.proofs.rehearsing.put_verdicts.Given as goal

abbrev pub invariant-loop-query : goal.invariant-loop-query
invariant-loop-query l = record {
  text : l.text.items ≡ l.fn.text.items ++ flat_map (verdict_line l.rehearsal.parts) (map as_query (take l.query-index l.queries));
}
