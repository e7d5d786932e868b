-- How many a job has of each.
use Rattle.std.specs.Prelude.{ℕ, length, Bool, true, false, count_by}
use Rattle.universe_core.specs.Jobs.{JobFacts, enrolled}
use Rattle.universe_core.specs.History.{Past, class_of, universe, revoked}
use Rattle.universe_core.specs.declared.class.Class.{Class}
use Rattle.universe_core.specs.declared.class.Class.TheVariants.{Unread, Uncovered, Unenrolled, Late, Accepted}
use Rattle.universe_core.specs.declared.counts.Counts.{Counts}

abbrev pub is_class : Class → Class → Bool
is_class Unread Unread = true
is_class Uncovered Uncovered = true
is_class Unenrolled Unenrolled = true
is_class Late Late = true
is_class Accepted Accepted = true
is_class a b = false

-- how many entries of the job are of a class
abbrev pub count : Class → Past → JobFacts → ℕ
count c past job = count_by (λ e. is_class c (class_of past job e)) job.entries

unfoldable pub counts : Past → JobFacts → Counts
counts past job = record {
  issuers = length (enrolled job);
  universe = length (universe past job);
  revoked = length (revoked past job);
  unread = count Unread past job;
  uncovered = count Uncovered past job;
  unenrolled = count Unenrolled past job;
  late = count Late past job;
  accepted = count Accepted past job;
}
