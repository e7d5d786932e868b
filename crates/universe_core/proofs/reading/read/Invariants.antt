use Rattle.std.proofs.Common.{◌≡◌, take, All}
use Rattle.std.specs.List.{filter_map, count_by}
use Rattle.universe_core.specs.Counting.{is_class}
use Rattle.universe_core.specs.Reading.{if_read, IsPlaced, entries_of, class_alone}
use Rattle.universe_core.specs.declared.class.Class.TheVariants.{Unread, Uncovered, Unenrolled, Accepted}
use Rattle.universe_core.proofs.reading.read.Given as goal

abbrev pub invariant-loop-entry : goal.invariant-loop-entry
invariant-loop-entry l = record {
  entries : entries_of l.issuers l.ranges l.left.items ≡ filter_map (λ e. if_read l.ranges l.issuers e) (take l.entry-index l.entries);
  placed : All (IsPlaced l.issuers l.ranges) l.left.items;
  unread : l.tally.unread ≡ count_by (λ e. is_class Unread (class_alone l.ranges l.issuers e)) (take l.entry-index l.entries);
  uncovered : l.tally.uncovered ≡ count_by (λ e. is_class Uncovered (class_alone l.ranges l.issuers e)) (take l.entry-index l.entries);
  unenrolled : l.tally.unenrolled ≡ count_by (λ e. is_class Unenrolled (class_alone l.ranges l.issuers e)) (take l.entry-index l.entries);
  read : l.tally.read ≡ count_by (λ e. is_class Accepted (class_alone l.ranges l.issuers e)) (take l.entry-index l.entries);
}
