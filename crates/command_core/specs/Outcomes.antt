-- How what comes of a command is put together: inputs that are read one after the other, each of which may be at fault.
use Rattle.std.specs.Prelude.{ℕ, List, [], ◌∷◌, Option, Result, Ok, Err}
use Rattle.part_text.specs.SealedFields.{SealedFields}
use Rattle.part_text.specs.PartText.{spelling}
use Rattle.ledger_core.specs.LedgerFields.{LedgerFields}
use Rattle.ledger_core.specs.LedgerText.{ledger_text}
use Rattle.input_core.specs.declared.fault.FileFault.{FileFault}
use Rattle.input_core.specs.Readings.{input_as}
use Rattle.command_core.specs.ReplyFields.{Done, NamedFault}

infixl 10 ◌>>=◌
abbrev pub ◌>>=◌ : {A B : Type 0} → Result A NamedFault → (A → Result B NamedFault) → Result B NamedFault
(Ok x) >>= next = next x
(Err e) >>= next = Err e

-- a fault is that of the file of this name
abbrev pub named : {A : Type 0} → List ℕ → Result A FileFault → Result A NamedFault
named name (Ok x) = Ok x
named name (Err fault) = Err (record { name = name; fault = fault })

-- an input of this name, as it is read
abbrev pub input : {A : Type 0} → List ℕ → (List ℕ → Result A FileFault) → Option (List ℕ) → Result A NamedFault
input name read given = named name (input_as read given)

-- lines alone
abbrev pub only : List ℕ → Done
only text = record { text = text; outputs = [] }

-- a part and the ledger after it, written to the files of these names, and lines
abbrev pub both_files : (part ledger : List ℕ) → SealedFields → LedgerFields → List ℕ → Done
both_files part ledger sealed after text = record {
  text = text;
  outputs = record { name = part; bytes = spelling sealed } ∷ record { name = ledger; bytes = ledger_text after } ∷ [];
}
