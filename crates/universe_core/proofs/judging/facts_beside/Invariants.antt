use Rattle.std.proofs.Common.{◌≡◌, map, take, drop, filter, fold}
use Rattle.std.specs.List.{count_by, list_all}
use Rattle.ident_core.specs.Coverage.{covers}
use Rattle.universe_core.specs.Judging.{is_late_in, is_timely_in, with_date}
use Rattle.universe_core.specs.Reading.{sighting_in, date_in}
use Rattle.universe_core.proofs.judging.facts_beside.Given as goal

abbrev pub invariant-loop-e : goal.invariant-loop-e
invariant-loop-e l = record {
  late : l.facts.late ≡ count_by (is_late_in l.context l.birth) (take l.e-index l.run);
  settled :
      l.facts.settled
      ≡ list_all (λ e. covers l.part.ranges.items (sighting_in l.context.ranges.now e))
      (filter (is_timely_in l.context l.birth) (take l.e-index l.run));
  date :
      fold with_date l.facts.date (map date_in (filter (is_timely_in l.context l.birth) (drop l.e-index l.run)))
      ≡ fold with_date l.fn.date (map date_in (filter (is_timely_in l.context l.birth) l.run));
}
