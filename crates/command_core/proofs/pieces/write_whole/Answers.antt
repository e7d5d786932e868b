use Rattle.command_core.proofs.Outputs.{written-whole, left-torn}
use Rattle.command_core.proofs.pieces.write_whole.Goals as goal

pub returns-clause-ok : goal.returns-clause-ok
returns-clause-ok g c = written-whole _ _ _ c.args.name.now c.args.bytes.now c.append_all.result c.in_ok-begin.ensures.ok c.append_all.ensures.ok

pub returns-clause-err : goal.returns-clause-err
returns-clause-err g c =
    left-torn _ _ _ (record { name = c.args.name.now; bytes = c.args.bytes.now }) c.append_all.result c.in_ok-begin.ensures.ok c.append_all.ensures.err
