use Rattle.std.proofs.Common.{List, Ok, refl, sym}
use Rattle.std.proofs.lemmas.Result.{err_from_is_err_and}
use Rattle.job_core.specs.JobLayout.{EntryText}
use Rattle.outside_core.specs.Reads.{WhichFailed}
use Rattle.input_core.proofs.FilesRead.{input_err}
use Rattle.input_core.proofs.Reading.{all_of}
use Rattle.command_core.specs.Longer.{piece_entries}
use Rattle.command_core.proofs.PagesRead.{piece_held, piece_other, piece_refused}
use Rattle.command_core.proofs.lengthening.piece_entries.Goals as goal

pub returns-in_err-bytes-clause-refused : goal.returns-in_err-bytes-clause-refused
returns-in_err-bytes-clause-refused g c =
    let p = err_from_is_err_and c.from_residual.result c.from_residual.ensures.1 in
    rw (p.1, p.2)
    (input_err (g.D.Depot.files c.args.depot.now) (WhichFailed g.D.Depot c.args.depot.now _) c.args.name.now (piece_entries c.args.epoch) (λ (x : List EntryText). x)
    c.in_err-bytes.field-0.0 c.in_err-bytes.ensures.failed c.in_err-bytes.ensures.unblamed)

pub returns-in_err-piece-clause-refused : goal.returns-in_err-piece-clause-refused
returns-in_err-piece-clause-refused g c =
    let p = err_from_is_err_and c.from_residual-in_err-piece.result c.from_residual-in_err-piece.ensures.1 in
    rw (p.1, p.2)
    (piece_refused (g.D.Depot.files c.args.depot.now) (WhichFailed g.D.Depot c.args.depot.now _) c.args.name.now c.in_ok-bytes.bytes.items c.args.epoch c.in_ok-bytes.bytes
    (all_of (g.D.Depot.files c.args.depot.now) c.args.name.now (Ok c.in_ok-bytes.bytes) c.in_ok-bytes.ensures.bytes) c.in_ok-bytes.ensures.unblamed c.in_err-piece.field-0.0
    (λ _. c.in_err-piece.ensures.err))

pub returns-then-piece-epoch-clause-refused : goal.returns-then-piece-epoch-clause-refused
returns-then-piece-epoch-clause-refused g c =
    piece_other (g.D.Depot.files c.args.depot.now) (WhichFailed g.D.Depot c.args.depot.now _) c.args.name.now c.in_ok-bytes.bytes.items c.args.epoch c.in_ok-bytes.bytes
    (all_of (g.D.Depot.files c.args.depot.now) c.args.name.now (Ok c.in_ok-bytes.bytes) c.in_ok-bytes.ensures.bytes) c.in_ok-bytes.ensures.unblamed c.in_ok-piece.piece _
    c.in_ok-piece.ensures.ok refl (λ same. c.if-piece-epoch.true (sym same))

pub returns-clause-held : goal.returns-clause-held
returns-clause-held g c =
    piece_held (g.D.Depot.files c.args.depot.now) (WhichFailed g.D.Depot c.args.depot.now _) c.args.name.now c.in_ok-bytes.bytes.items c.args.epoch c.in_ok-bytes.bytes
    (all_of (g.D.Depot.files c.args.depot.now) c.args.name.now (Ok c.in_ok-bytes.bytes) c.in_ok-bytes.ensures.bytes) c.in_ok-bytes.ensures.unblamed c.in_ok-piece.piece
    c.in_ok-piece.piece.entries c.in_ok-piece.ensures.ok refl (sym c.if-piece-epoch.false)
