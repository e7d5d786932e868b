use Rattle.outside_core.specs.Reads.{WhichFailed}
use Rattle.input_core.proofs.PartFiles.{scan-is, scan-fault}
use Rattle.input_core.proofs.scanning.scan_file.Goals as goal

pub returns-in-Ok-clause-scan : goal.returns-in-Ok-clause-scan
returns-in-Ok-clause-scan g c =
    scan-is (g.D.Depot.files c.args.depot.now) (WhichFailed g.D.Depot c.args.depot.now c.made_of.new.depot) c.args.name.now _ c.in-Ok.ensures.fed

pub returns-in-Err-clause-scan : goal.returns-in-Err-clause-scan
returns-in-Err-clause-scan g c = rw c.scan_fault.ensures
    (scan-fault (g.D.Depot.files c.args.depot.now) (WhichFailed g.D.Depot c.args.depot.now c.made_of.new.depot) c.args.name.now _ c.in-Err.ensures.fed)
