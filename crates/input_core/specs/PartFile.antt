-- The layout of a file that holds one part.
use Rattle.octets_core.specs.Layout.{Layout, ◌>>=◌, whole, mapped}
use Rattle.octets_core.specs.Reading.{end}
use Rattle.part_text.specs.SealedFields.{SealedFields}
use Rattle.part_text.specs.PartLayout.{part}
use Rattle.input_core.specs.declared.fault.FileFault.{FileFault}
use Rattle.input_core.specs.declared.fault.FileFault.TheVariants as faults
use Rattle.input_core.specs.Faults.{of_part}

-- a part, and no byte behind it
unfoldable pub part_file : Layout FileFault SealedFields
part_file = do
  sealed ← mapped of_part part
  nothing ← mapped faults.Layout end
  whole sealed
