use Rattle.std.proofs.Common.{◌≡◌, map, take, drop, filter, fold, false}
use Rattle.std.specs.List.{count_by}
use Rattle.universe_core.specs.Judging.{is_late_in, is_timely_in, with_date}
use Rattle.universe_core.specs.Reading.{date_in}
use Rattle.universe_core.proofs.judging.facts_alone.Given as goal

abbrev pub invariant-loop-e : goal.invariant-loop-e
invariant-loop-e l = record {
  late : l.facts.late ≡ count_by (is_late_in l.context l.birth) (take l.e-index l.run);
  settled : l.facts.settled ≡ false;
  date :
      fold with_date l.facts.date (map date_in (filter (is_timely_in l.context l.birth) (drop l.e-index l.run)))
      ≡ fold with_date l.fn.date (map date_in (filter (is_timely_in l.context l.birth) l.run));
}
