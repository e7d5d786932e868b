-- The reply to a command whose file was scanned.
use Rattle.std.proofs.Common.{◌≡◌, ℕ, List, [], ◌∷◌, Option, Result, Ok, Err, refl, sym, ap, inl, inr}
use Rattle.outside_core.specs.Files.{Files}
use Rattle.part_text.specs.SealedFields.{SealedFields}
use Rattle.part_codec.specs.Noting.{note_of}
use Rattle.part_codec.specs.declared.scan.PartNote.{PartNote}
use Rattle.input_core.specs.declared.fault.FileFault.{FileFault}
use Rattle.input_core.specs.declared.scanning.ScanFault.{ScanFault}
use Rattle.input_core.specs.declared.scanning.ScanFault.TheVariants as scans
use Rattle.input_core.specs.Faults.{of_scan}
use Rattle.input_core.specs.Readings.{part_in, input_as}
use Rattle.input_core.specs.Inputs.{IsBlamed}
use Rattle.input_core.specs.Scanned.{noted_file, scanned, IsScan}
use Rattle.line_core.specs.Lines.{note_line}
use Rattle.word_core.specs.declared.command.Command.TheVariants as commands
use Rattle.command_core.specs.Commands.{◌>>=◌, named, only, check_done, check_makes}
use Rattle.command_core.specs.Replies.{done, refusal, reply_of, SaysWhich, IsReply}
use Rattle.command_core.specs.Answering.{scan_reply}
use Rattle.command_core.proofs.Fronts.{these}

ok_note : (m n : PartNote) → ◌≡◌ {A = Result PartNote FileFault} (Ok m) (Ok n) → m ≡ n
ok_note m n is = cc

same_fault : (e f : FileFault) → ◌≡◌ {A = Result PartNote FileFault} (Err e) (Err f) → e ≡ f
same_fault e f is = cc

reply_by : (name : List ℕ) (v : Result (SealedFields × ℕ) FileFault) (r : Result PartNote ScanFault) → noted_file v ≡ scanned r
    → scan_reply name r ≡ reply_of (named name v >>= (λ x. Ok (check_done x)))
reply_by name (Ok x) (Ok note) is = ap (λ (n : PartNote). done (only (note_line n))) (sym (ok_note (note_of x.0 x.1) note is))
reply_by name (Ok x) (Err e) is = absurd cc
reply_by name (Err e) (Ok note) is = absurd cc
reply_by name (Err e) (Err f) is = ap (refusal name) (sym (same_fault e (of_scan f) is))

says_by : (failed : Option (List ℕ) → Type 0) (name : List ℕ) (r : Result PartNote ScanFault) → IsBlamed failed name scans.Unread r → SaysWhich failed (name ∷ []) (scan_reply name r)
says_by failed name r (inl none) = inl none
says_by failed name r (inr (is, why)) = inr (name, inl refl, ap (scan_reply name) is, why)

pub check_scanned : (told : Option Files) (failed : Option (List ℕ) → Type 0) (name : List ℕ) (r : Result PartNote ScanFault) → IsScan told failed name r
    → IsReply (commands.Check name) told failed (scan_reply name r)
check_scanned told failed name r (given, read, is, blamed) =
    (these (given ∷ []), (read, λ i. refl), inr (check_makes name given, refl, reply_by name (input_as part_in given) r is), says_by failed name r blamed)
