-- The bytes of an output.
use Rattle.std.specs.Prelude.{ℕ, List, ◌++◌, flat_map}
use Rattle.std.specs.declared.vec.Vec.{Vec}
use Rattle.sha2.specs.Sha256.{sha256}
use Rattle.command_core.specs.declared.output.Text.{Text}
use Rattle.command_core.specs.declared.output.Text.TheVariants as texts

-- the text that pieces make, one behind the other
abbrev pub concatenated : {A : Type 0} → List (Vec ℕ A) → List ℕ
concatenated pieces = flat_map (λ piece. piece.items) pieces

-- a text, and behind one in pieces its digest
abbrev pub bytes_of : Text → List ℕ
bytes_of (texts.Whole text) = text.items
bytes_of (texts.Digested pieces) = concatenated pieces.items ++ sha256 (concatenated pieces.items)
