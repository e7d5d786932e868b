use Rattle.command_core.proofs.AuditCode.{BadLeft}
use Rattle.command_core.proofs.auditing.file_of_bad_crl.Given as goal

abbrev pub invariant-loop-place : goal.invariant-loop-place
invariant-loop-place l = BadLeft l.names l.jobs l.place
