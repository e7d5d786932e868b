use Rattle.std.proofs.Common.{arith}
use Rattle.view_core.proofs.Installs.{written_text, written_behind}
use Rattle.view_core.proofs.installing.write_store.Goals as goal

pub returns-clause-text : goal.returns-clause-text
returns-clause-text c =
    rw (c.copy_from_slice.ensures.after, c.copy_from_slice-2.ensures.after) (written_text c.args.new.now c.args.store.now c.args.count c.requires.head c.args.part.now _)

pub returns-clause-behind : goal.returns-clause-behind
returns-clause-behind c =
    rw (c.copy_from_slice.ensures.after, c.copy_from_slice-2.ensures.after)
    (written_behind c.args.new.now c.args.store.now c.args.count c.requires.head c.args.part.now _ (omega arith))
