use Rattle.std.proofs.Common.{◌≡◌, map, take}
use Rattle.job_core.specs.JobFields.{crl_view}
use Rattle.job_core.specs.JobMeaning.{kept_in}
use Rattle.command_core.proofs.auditing.kept_serials.Given as goal

abbrev pub invariant-loop-crl : goal.invariant-loop-crl
invariant-loop-crl l = l.serials ≡ kept_in (map crl_view (take l.crl-index l.crls))
