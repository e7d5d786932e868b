use Rattle.outside_core.specs.Reads.{WhichFailed}
use Rattle.command_core.proofs.Checked.{check_scanned}
use Rattle.command_core.proofs.commands.answer_check.Goals as goal

pub returns-clause-reply : goal.returns-clause-reply
returns-clause-reply g c =
    let scan = rw c.as_str.ensures at c.scan_file-scan.ensures.scan in
    rw (c.scan_reply.ensures, c.as_str-2.ensures) (check_scanned (g.D.Depot.files c.args.depot.now) (WhichFailed g.D.Depot c.args.depot.now _) c.args.name.now c.scan_file-scan.result scan)
