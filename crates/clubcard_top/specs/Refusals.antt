-- What a call says of a file that something is wrong with.
use Rattle.std.specs.Prelude.{◌≡◌, List, ℕ, Result, Err}
use Rattle.input_core.specs.declared.fault.FileFault.{FileFault}
use Rattle.command_core.specs.ReplyFields.{Done, NamedFault}
use Rattle.command_core.specs.Commands.{Makes}
use Rattle.command_core.specs.Replies.{refusal, held_by}
use Rattle.clubcard_top.specs.Calls.{Call, Found, ChangesNoFile, Prints}

-- this comes of the command over the files that the call found
abbrev pub Comes : Call → Result Done NamedFault → Type 0
Comes call outcome = Found call (λ files. Makes call.asked (held_by call.asked files) outcome)

-- This is wrong with the file of this name: its status came, the line that says so was printed, and no file changed.
pub record Refused (call : Call) (name : List ℕ) (fault : FileFault) : Type 0 where
  pub comes : Comes call (Err (record { name = name; fault = fault }))
  pub status : call.status ≡ (refusal name fault).status
  pub line : Prints call (refusal name fault).text
  pub same_files : ChangesNoFile call
