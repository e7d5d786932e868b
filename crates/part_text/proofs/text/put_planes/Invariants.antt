use Rattle.std.proofs.Common.{◌++◌, take}
use Rattle.std.specs.Prelude.{flat_map}
use Rattle.std.specs.Int.{w32, to_be_bytes}
use Rattle.equation_core.specs.Sizes.{words_for}
use Rattle.part_text.specs.Output.{Wrote}
use Rattle.part_text.specs.PlaneBytes.{bytes_of_columns}
use Rattle.part_text.proofs.text.put_planes.Given as goal

abbrev pub invariant-loop-plane : goal.invariant-loop-plane
invariant-loop-plane g l = Wrote g.O.Output.given l.fn.out l.out
    (to_be_bytes w32 l.planes.starts ++ flat_map (bytes_of_columns (words_for l.planes.starts)) (take l.plane l.planes.columns))
