use Rattle.std.proofs.Common.{◌≡◌, ◌-◌}
use Rattle.outside_core.specs.Effects.{OnlyReads}
use Rattle.outside_core.specs.Filling.{IsInOrder}
use Rattle.outside_core.specs.Standing.{reference_of, depot_of, name_of, place_of}
use Rattle.input_core.proofs.FedFiles.{Taken}
use Rattle.input_core.proofs.fed.fed_to.Given as goal

abbrev pub invariant-pieces : goal.invariant-pieces
invariant-pieces g l = record {
  same_reference : reference_of l.feed ≡ reference_of l.fn.feed;
  name : name_of l.feed ≡ name_of l.fn.feed;
  only_reads : OnlyReads g.D.Depot (depot_of l.fn.feed) (depot_of l.feed);
  unblamed : g.D.Depot.failed_reads (depot_of l.feed) ≡ g.D.Depot.failed_reads (depot_of l.fn.feed);
  in_order : IsInOrder g.D.Depot l.feed;
  taken : Taken (g.D.Depot.files (depot_of l.fn.feed)) (name_of l.fn.feed) (g.F.Fed.stands l.to) (place_of l.feed);
}

abbrev pub decreases-pieces : goal.decreases-pieces
decreases-pieces g l = 18446744073709551615 - place_of l.feed
