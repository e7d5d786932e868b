-- Parts of a store that were scanned where they stand.
use Rattle.std.specs.Prelude.{◌≡◌, ℕ, ◌+◌, List, ◌∷◌, [], length, Some, Result, Ok, Err}
use Rattle.octets_core.specs.Layout.{embedded}
use Rattle.part_text.specs.SealedFields.{SealedFields}
use Rattle.part_text.specs.Fitting.{Fits}
use Rattle.part_text.specs.PartLayout.{part}
use Rattle.part_text.specs.PartText.{spelling}
use Rattle.part_codec.specs.Noting.{note_of}
use Rattle.store_core.specs.Chain.{newest_of}
use Rattle.store_core.specs.StoreLayout.{first_part, chain, moved}
use Rattle.store_core.specs.declared.fault.StoreFault.{StoreFault}
use Rattle.view_core.specs.Texts.{Stands}
use Rattle.view_core.specs.declared.scan.ReadPart.{ReadPart}

-- it is this part, which stands there
pub record IsReadAt (bytes : List ℕ) (read : ReadPart) (s : SealedFields) : Type 0 where
  pub note : read.note ≡ note_of s (length (spelling s))
  pub fits : Fits s
  pub text : Stands bytes read.at (spelling s)

abbrev pub end_of : ReadPart → ℕ
end_of read = read.at + read.note.length

-- what the layout reads at this place: a part, or a fault
abbrev pub ReadsPart : List ℕ → ℕ → Result ReadPart StoreFault → Type 0
ReadsPart bytes at (Ok read) = (s : SealedFields) × (embedded moved part bytes at ≡ Ok (s, end_of read)) × IsReadAt bytes read s
ReadsPart bytes at (Err e) = embedded moved part bytes at ≡ Err e

-- the same of a store's first part
abbrev pub ReadsFirst : List ℕ → ℕ → Result ReadPart StoreFault → Type 0
ReadsFirst bytes at (Ok read) = (s : SealedFields) × (first_part bytes at ≡ Ok (s ∷ [], end_of read)) × IsReadAt bytes read s
ReadsFirst bytes at (Err e) = first_part bytes at ≡ Err e

-- parts of which the newest was read last, up to its end
pub record IsNewestAt (bytes : List ℕ) (read : ReadPart) (parts : List SealedFields) (count : ℕ) : Type 0 where
  pub newest : SealedFields
  pub newest_is : newest_of parts ≡ Some newest
  pub read_is : IsReadAt bytes read newest
  pub count_is : length parts ≡ count

-- and of so many further parts behind these
abbrev pub ReadsChain : ℕ → List SealedFields → List ℕ → ℕ → Result ReadPart StoreFault → Type 0
ReadsChain n before bytes at (Ok read) =
    (parts : List SealedFields) × (chain n before bytes at ≡ Ok (parts, end_of read)) × IsNewestAt bytes read parts (n + length before)
ReadsChain n before bytes at (Err e) = chain n before bytes at ≡ Err e
