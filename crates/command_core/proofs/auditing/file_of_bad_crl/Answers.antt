use Rattle.std.specs.Option.{option_map}
use Rattle.std.proofs.Common.{List, length, ap, arith}
use Rattle.job_core.specs.declared.meaning.JobCrl.{JobCrl}
use Rattle.command_core.specs.Faults.{of_admission}
use Rattle.command_core.proofs.AuditCode.{crls_few, left_more}
use Rattle.command_core.proofs.auditing.file_of_bad_crl.Goals as goal

pub bad_crl-requires : goal.bad_crl-requires
bad_crl-requires c =
    let few = crls_few c.args.jobs.now c.loop-place.place c.index-jobs-place.result c.loop-place-test.true c.index-jobs-place.is c.requires.counted in
    let same = ap (λ (l : List JobCrl). length l) c.deref.ensures.value in
    omega (arith, few, same)

pub loop-place-preserved : goal.loop-place-preserved
loop-place-preserved c =
    left_more c.args.names.now c.args.jobs.now c.loop-place.place c.index-jobs-place.result c.loop-place-test.true c.requires.many c.index-jobs-place.is
    (ap (option_map of_admission) (rw c.deref.ensures.value at c.in_default.ensures)) c.loop-place.invariant
