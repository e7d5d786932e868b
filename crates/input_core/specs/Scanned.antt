-- What is known of a file that was scanned.
use Rattle.std.specs.Prelude.{◌≡◌, ℕ, List, Option, Result, Ok, Err}
use Rattle.outside_core.specs.Files.{Files}
use Rattle.part_text.specs.SealedFields.{SealedFields}
use Rattle.part_codec.specs.Noting.{note_of}
use Rattle.part_codec.specs.declared.scan.PartNote.{PartNote}
use Rattle.input_core.specs.declared.fault.FileFault.{FileFault}
use Rattle.input_core.specs.declared.fault.FileFault.TheVariants as faults
use Rattle.input_core.specs.declared.scanning.ScanFault.{ScanFault}
use Rattle.input_core.specs.declared.scanning.ScanFault.TheVariants as scans
use Rattle.input_core.specs.Faults.{of_scan}
use Rattle.input_core.specs.Readings.{part_in, input_as}
use Rattle.input_core.specs.Inputs.{IsRead, IsBlamed}

-- what is noted of a file that is read as a part of so many bytes
abbrev pub noted_file : Result (SealedFields × ℕ) FileFault → Result PartNote FileFault
noted_file (Ok x) = Ok (note_of x.0 x.1)
noted_file (Err e) = Err e

-- what a scan answers, as what is wrong with the file
abbrev pub scanned : Result PartNote ScanFault → Result PartNote FileFault
scanned (Ok note) = Ok note
scanned (Err e) = Err (of_scan e)

-- what a scan answers where its file is read so
abbrev pub unscanned : FileFault → ScanFault
unscanned (faults.Layout f) = scans.Layout f
unscanned fault = scans.Unread

-- what is made of a file, without how many bytes it has
abbrev pub first_of : {A : Type 0} → Result (A × ℕ) FileFault → Result A FileFault
first_of (Ok x) = Ok x.0
first_of (Err e) = Err e

-- What came of a file that was read so. There is no want of memory.
abbrev pub IsScan : Option Files → (Option (List ℕ) → Type 0) → List ℕ → Result PartNote ScanFault → Type 0
IsScan told failed name result =
    (given : Option (List ℕ)) × IsRead told failed name given
    × (noted_file (input_as part_in given) ≡ scanned result) × IsBlamed failed name scans.Unread result
