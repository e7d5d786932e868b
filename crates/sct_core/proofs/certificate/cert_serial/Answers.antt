use Rattle.sct_core.proofs.SerialLaws.{serial-found, serial-only}
use Rattle.sct_core.proofs.certificate.cert_serial.Goals as goal

pub returns-clause-found : goal.returns-clause-found
returns-clause-found c = serial-found c.args.cert.now c.serial_in.result c.serial_in.ensures

pub returns-clause-only : goal.returns-clause-only
returns-clause-only c = serial-only c.args.cert.now c.serial_in.result c.serial_in.ensures
