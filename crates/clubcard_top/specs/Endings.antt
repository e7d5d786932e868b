-- How a call ends.
use Rattle.std.specs.Prelude.{◌≡◌, ℕ, ◌⊎◌, List, Some, All, IsTrue}
use Rattle.outside_core.specs.Files.{Files}
use Rattle.outside_core.specs.Written.{CutShort}
use Rattle.word_core.specs.declared.command.Command.{Command}
use Rattle.command_core.specs.ReplyFields.{ReplyFields, Done}
use Rattle.command_core.specs.Statuses as status
use Rattle.command_core.specs.Replies.{write_fault, done, held_by, IsReplyOver, IsReply}
use Rattle.command_core.specs.Runs.{IsTorn}
use Rattle.clubcard_top.specs.Calls.{Call, Found, Holds, Writes, ChangesNoFile, Prints, HasRisen, NoFault}

-- ---- with a success

abbrev pub Succeeds : Call → Type 0
Succeeds call = call.status ≡ status.done

-- The words asked for this command, what the files hold is told, and the call succeeded.
pub record Did (call : Call) (command : Command) : Type 0 where
  pub files : Files
  pub told : call.files_before ≡ Some files
  pub asked : call.asked ≡ command
  pub succeeds : Succeeds call

-- ---- with a reply

-- The reply was given whole: its status came, its text was printed and its outputs were written.
pub record Gives (call : Call) (reply : ReplyFields) : Type 0 where
  pub status : call.status ≡ reply.status
  pub text : Prints call reply.text
  pub files : Writes call reply.outputs

-- What a command makes was given: its text was printed, its outputs were written and no other file, and the file of each
-- output holds its bytes.
pub record GivesDone (call : Call) (d : Done) : Type 0 where
  pub gives : Gives call (done d)
  pub held : All (λ o. Holds call o.name o.bytes) d.outputs

-- the command's one reply over the files that the call found was given whole
abbrev pub GivesTheReply : Call → Type 0
GivesTheReply call =
    (reply : ReplyFields) × Found call (λ files. IsReplyOver call.asked (held_by call.asked files) reply) × Gives call reply

-- ---- cut short

-- Memory was wanted: no file changed, and nothing was printed.
pub record WantedMemory (call : Call) : Type 0 where
  pub status : call.status ≡ status.no_memory
  pub same_files : ChangesNoFile call
  pub same_text : call.text_after ≡ call.text_before

-- Printing failed behind a prefix of this text.
pub record SinkFailed (call : Call) (text : List ℕ) : Type 0 where
  pub status : call.status ≡ status.write_fault
  pub cut : CutShort call.text_before call.text_after text
  pub cause : HasRisen call.sink_faults

-- the reply's text was printed and its status came, or printing failed behind a prefix of it
abbrev pub PrintsOrFails : Call → ReplyFields → Type 0
PrintsOrFails call reply = ((call.status ≡ reply.status) × Prints call reply.text) ⊎ SinkFailed call reply.text

-- The reply's outputs were written, and then its text was printed, or printing failed.
pub record Sent (call : Call) (reply : ReplyFields) : Type 0 where
  pub files : Writes call reply.outputs
  pub printing : PrintsOrFails call reply

-- A write to the output of this name failed: the outputs before it are whole, it is as it was or holds a prefix of its
-- bytes, those behind it are untouched, and the line that names it was printed, or printing failed.
pub record Torn (call : Call) (reply : ReplyFields) (name : List ℕ) : Type 0 where
  pub cause : HasRisen call.write_faults
  pub files : IsTorn call.files_before call.files_after reply.outputs name
  pub printing : PrintsOrFails call (write_fault name)

-- one of the two
abbrev pub SentOrTorn : Call → ReplyFields → Type 0
SentOrTorn call reply = Sent call reply ⊎ ((name : List ℕ) × Torn call reply name)

-- ---- in one of these ways

-- Memory was wanted. Or there is a reply, whose status is none of memory or of writes, and it was sent, or a write to an
-- output failed.
abbrev pub Ends : Call → Type 0
Ends call =
    WantedMemory call
    ⊎ ((reply : ReplyFields) × IsReply call.asked call.files_before call.failed reply
    × IsTrue (status.is_one_of status.of_replies reply.status)
    × SentOrTorn call reply)

-- ---- for certain

-- where no fault was counted, the call succeeds, unless memory was wanted
abbrev pub MustSucceed : Call → Type 0
MustSucceed call = NoFault call → Succeeds call ⊎ WantedMemory call

-- where no fault was counted, the call gives this reply, unless memory was wanted
abbrev pub MustGive : Call → ReplyFields → Type 0
MustGive call reply = NoFault call → Gives call reply ⊎ WantedMemory call
