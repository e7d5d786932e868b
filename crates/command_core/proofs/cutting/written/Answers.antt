use Rattle.std.proofs.Common.{refl}
use Rattle.command_core.proofs.CutFiles.{files_of_pieces}
use Rattle.command_core.proofs.cutting.written.Goals as goal

pub returns : goal.returns
returns c = λ by j are.
    rw (c.done.ensures, c.cut-line.ensures, c.in_ok-files.ensures, files_of_pieces by c.args.names.now j c.args.pieces are, are.entries, are.bytes) refl
