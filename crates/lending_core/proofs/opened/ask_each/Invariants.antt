use Rattle.std.proofs.Common.{◌≡◌, ◌++◌, List, map, take, drop, Ok}
use Rattle.part_text.specs.SealedFields.{SealedFields}
use Rattle.view_core.specs.Opening.{IsOpened}
use Rattle.lending_core.specs.Lent.{sighting_of}
use Rattle.lending_core.specs.Replies.{answered}
use Rattle.lending_core.proofs.opened.ask_each.Given as goal

abbrev pub invariant-loop-query : goal.invariant-loop-query
invariant-loop-query l =
    (parts : List SealedFields) → IsOpened l.store l.index parts
    → l.queries ≡ map (answered (Ok parts) (map sighting_of l.sightings)) (take l.query-index l.initial.queries) ++ drop l.query-index l.initial.queries
