use Rattle.std.specs.List.{filter}
use Rattle.std.proofs.Common.{◌≡◌, ◌&&◌, map, take}
use Rattle.universe_core.specs.Rebases.{is_lasting, is_kept_item, rebased_item}
use Rattle.publication_core.specs.LeftOut.{cut_of}
use Rattle.publication_core.proofs.keeping.kept.Given as goal

abbrev pub invariant-loop-item : goal.invariant-loop-item
invariant-loop-item l = l.out.items ≡ map rebased_item (filter (λ i. is_lasting l.moment i && is_kept_item (cut_of l.left_out) i) (take l.item-index l.items))
