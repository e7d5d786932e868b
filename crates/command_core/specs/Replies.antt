-- What is answered. What comes of a command, a `Done` or a `NamedFault`, has one reply, `reply_of`. `IsReplyOver` ties it
-- to the inputs of the command, and `IsReply` to files, which may not be told, and of which a read may have failed.
use Rattle.std.specs.Prelude.{◌≡◌, ◌<◌, ◌⊎◌, ℕ, List, [], get_or, slice_get, Option, Some, None, IfSome, Result, Ok, Err}
use Rattle.std.specs.FinMap.{get}
use Rattle.std.specs.Option.{option_map_or}
use Rattle.outside_core.specs.Files.{Files}
use Rattle.ident_core.specs.Among.{Among}
use Rattle.word_core.specs.declared.command.Command.{Command}
use Rattle.word_core.specs.declared.command.Command.TheVariants as commands
use Rattle.word_core.specs.Names.{inputs_of}
use Rattle.input_core.specs.declared.fault.FileFault.{FileFault}
use Rattle.input_core.specs.Inputs.{Inputs, AreRead}
use Rattle.reply_core.specs.Said.{Said}
use Rattle.reply_core.specs.Replies as says
use Rattle.command_core.specs.ReplyFields.{OutputFields, ReplyFields, Done, NamedFault}
use Rattle.command_core.specs.Commands.{Makes}

-- this is said behind these outputs
abbrev pub with_files : List OutputFields → Said → ReplyFields
with_files outputs s = record { status = s.status; text = s.text; outputs = outputs }

abbrev pub usage : ReplyFields
usage = with_files [] says.usage

-- a file can't be read
abbrev pub read_fault : List ℕ → ReplyFields
read_fault name = with_files [] (says.read_fault name)

-- a file can't be written
abbrev pub write_fault : List ℕ → ReplyFields
write_fault name = with_files [] (says.write_fault name)

-- what is wrong with the file of this name
abbrev pub refusal : List ℕ → FileFault → ReplyFields
refusal name fault = with_files [] (says.refusal name fault)

abbrev pub done : Done → ReplyFields
done d = with_files d.outputs (says.done d.text)

abbrev pub reply_of : Result Done NamedFault → ReplyFields
reply_of (Ok d) = done d
reply_of (Err e) = refusal e.name e.fault

-- The reply to a command whose inputs are these. There is one at most.
abbrev pub IsReplyOver : Command → Inputs → ReplyFields → Type 0
IsReplyOver command inputs reply =
    ((command ≡ commands.Usage) × (reply ≡ usage))
    ⊎ ((o : Result Done NamedFault) × Makes command inputs o × (reply ≡ reply_of o))

-- an input that can't be read, or that holds octets
abbrev pub IsOctets : Option (List ℕ) → Type 0
IsOctets given = IfSome given (λ bytes. (i : ℕ) → get_or bytes i 0 < 256)

abbrev pub AreOctets : Inputs → Type 0
AreOctets inputs = (i : ℕ) → IsOctets (inputs i)

-- what the files hold under these names, by place
abbrev pub held_under : Files → List (List ℕ) → Inputs
held_under files names = λ i. option_map_or (get files) (slice_get names i) None

-- what the files hold under a command's inputs
abbrev pub held_by : Command → Files → Inputs
held_by command files = held_under files (inputs_of command)

-- ---- over files that were read

-- No read failed; or the reply is that one of these files couldn't be read, and the read of that one did.
abbrev pub SaysWhich : (Option (List ℕ) → Type 0) → List (List ℕ) → ReplyFields → Type 0
SaysWhich failed names reply =
    failed None ⊎ ((name : List ℕ) × Among names name × (reply ≡ read_fault name) × failed (Some name))

-- What a command is answered, whatever the files tell: the reply over inputs that were read so. It says which read
-- failed, if one did.
abbrev pub IsReply : Command → Option Files → (Option (List ℕ) → Type 0) → ReplyFields → Type 0
IsReply command told failed reply =
    (inputs : Inputs) × AreRead told failed (inputs_of command) inputs
    × IsReplyOver command inputs reply × SaysWhich failed (inputs_of command) reply
