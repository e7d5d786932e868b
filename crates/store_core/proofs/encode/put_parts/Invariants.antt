use Rattle.std.proofs.Common.{◌≡◌, ◌++◌, take}
use Rattle.std.specs.Prelude.{flat_map, All}
use Rattle.part_text.specs.PartText.{spelling}
use Rattle.part_text.specs.Fitting.{Fits}
use Rattle.store_core.proofs.encode.put_parts.Given as goal

abbrev pub invariant-loop-part : goal.invariant-loop-part
invariant-loop-part l = record {
  text : l.out.items ≡ l.fn.out.items ++ flat_map spelling (take l.part-index l.parts);
  fits : All Fits (take l.part-index l.parts);
}
