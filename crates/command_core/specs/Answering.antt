-- What an answer says: how the call ends, the text, and the files before it.
use Rattle.std.specs.Prelude.{ℕ, List, [], ◌∷◌, Result, Ok, Err}
use Rattle.line_core.specs.Lines.{note_line, show_text}
use Rattle.part_codec.specs.declared.scan.PartNote.{PartNote}
use Rattle.input_core.specs.declared.scanning.ScanFault.{ScanFault}
use Rattle.input_core.specs.Faults.{of_scan}
use Rattle.command_core.specs.declared.answer.Answer.{Answer}
use Rattle.command_core.specs.declared.answer.Answer.TheVariants as answers
use Rattle.command_core.specs.ReplyFields.{ReplyFields}
use Rattle.command_core.specs.Commands.{only}
use Rattle.command_core.specs.Replies.{done, refusal, with_files}

abbrev pub reply_fields : Answer → ReplyFields
reply_fields (answers.Reply r) = with_files [] r
reply_fields (answers.Lines text) = done (only text.items)
reply_fields (answers.Part s) = done (only (show_text s))
reply_fields (answers.Files outputs r) = with_files outputs.items r
reply_fields (answers.Sample o r) = with_files (o ∷ []) r

-- the reply to a command that scanned the file of this name
abbrev pub scan_reply : List ℕ → Result PartNote ScanFault → ReplyFields
scan_reply name (Ok note) = done (only (note_line note))
scan_reply name (Err e) = refusal name (of_scan e)
