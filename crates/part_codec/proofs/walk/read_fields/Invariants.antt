use Rattle.std.proofs.Common.{◌++◌, ◌-◌, ◌<◌, ◌≤◌, ℕ, List, length, take}
use Rattle.std.specs.Prelude.{◌≢◌}
use Rattle.part_codec.specs.declared.fields.Open.TheVariants as opens
use Rattle.part_codec.specs.Stepping.{tail_of}
use Rattle.part_codec.specs.Collecting.{ReadsTo, FrontTo, HasRead}
use Rattle.part_codec.proofs.walk.read_fields.Given as goal

abbrev pub invariant-loop-taken : goal.invariant-loop-taken
invariant-loop-taken g l = record {
  stands : (b : List ℕ) → ReadsTo g.C.Collector.holds l.fn.machine l.fn.to b → FrontTo g.C.Collector.holds l.machine l.to (b ++ take l.taken l.piece);
  read : ∥ HasRead g.C.Collector.holds l.machine l.to ∥₁;
  within : l.taken ≤ length l.piece;
  partial : l.machine.field ≢ opens.Done → l.machine.filled < tail_of l.machine.field;
}

abbrev pub decreases-loop-taken : goal.decreases-loop-taken
decreases-loop-taken g l = length l.piece - l.taken
