use Rattle.std.proofs.Common.{◌≡◌, ◌+◌, ◌≤◌, ◌<◌, ◌-◌, take, vec_len}
use Rattle.outside_core.specs.Effects.{OnlyReads}
use Rattle.outside_core.specs.Filling.{IsInOrder}
use Rattle.outside_core.specs.Standing.{reference_of, depot_of, name_of, place_of}
use Rattle.input_core.specs.Inputs.{IsHeld}
use Rattle.input_core.proofs.Taken.{AreTaken}
use Rattle.input_core.proofs.input.fed_up_to.Given as goal

abbrev pub invariant-pieces : goal.invariant-pieces
invariant-pieces g l = record {
  same_reference : reference_of l.feed ≡ reference_of l.fn.feed;
  name : name_of l.feed ≡ name_of l.fn.feed;
  only_reads : OnlyReads g.D.Depot (depot_of l.fn.feed) (depot_of l.feed);
  unblamed : g.D.Depot.failed_reads (depot_of l.feed) ≡ g.D.Depot.failed_reads (depot_of l.fn.feed);
  in_order : IsInOrder g.D.Depot l.feed;
  few : vec_len l.bytes ≤ l.limit + 1;
  taken : AreTaken (g.D.Depot.files (depot_of l.fn.feed)) (name_of l.fn.feed) l.bytes.items (place_of l.feed);
  held : 0 < vec_len l.bytes → IsHeld (g.D.Depot.files (depot_of l.fn.feed)) (name_of l.fn.feed) (λ file. l.bytes.items ≡ take (place_of l.feed) file);
}

abbrev pub decreases-pieces : goal.decreases-pieces
decreases-pieces g l = l.limit + 1 - vec_len l.bytes
