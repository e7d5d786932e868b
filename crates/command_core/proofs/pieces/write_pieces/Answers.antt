use Rattle.command_core.specs.Digested.{concatenated}
use Rattle.command_core.proofs.Outputs.{written-whole, left-torn}
use Rattle.command_core.proofs.pieces.write_pieces.Goals as goal

pub returns-clause-ok : goal.returns-clause-ok
returns-clause-ok g c =
    written-whole _ _ _ c.args.name.now (concatenated c.args.pieces.now) c.append_pieces.result c.in_ok-begin.ensures.ok c.append_pieces.ensures.ok

pub returns-clause-err : goal.returns-clause-err
returns-clause-err g c =
    left-torn _ _ _ (record { name = c.args.name.now; bytes = concatenated c.args.pieces.now }) c.append_pieces.result c.in_ok-begin.ensures.ok c.append_pieces.ensures.err
