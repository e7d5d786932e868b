use Rattle.std.proofs.Common.{◌∙◌, refl, arith}
use Rattle.outside_core.specs.Effects.{OnlyReads}
use Rattle.outside_core.specs.Reads.{WhichFailed}
use Rattle.outside_core.proofs.Effects.{WhichFailed-then}
use Rattle.command_core.proofs.Fronts.{no_front}
use Rattle.command_core.proofs.AuditReplies.{gone_more, gone_refused, gone_all}
use Rattle.command_core.proofs.auditing.AuditJobs.add_files.Goals as goal

pub loop-file-init : goal.loop-file-init
loop-file-init g c = record {
  gone = rw c.requires (record { front = no_front (g.D.Depot.files c.args.depot.now) c.args.names.now; many = refl; next = λ rest. refl });
  none_failed = refl;
  later = omega arith;
  same_files = refl;
  same_writes = refl;
}

pub returns-in-Err-clause-refused : goal.returns-in-Err-clause-refused
returns-in-Err-clause-refused g c = rw c.as_str-name.ensures (λ differ.
    let reads : OnlyReads g.D.Depot c.args.depot.now c.loop-file.depot = record {
      later = c.loop-file.invariant.later;
      same_files = c.loop-file.invariant.same_files;
      same_writes = c.loop-file.invariant.same_writes;
    } in
    gone_refused (g.D.Depot.files c.args.depot.now) c.args.names.now (WhichFailed g.D.Depot c.loop-file.depot c.add_file.new.depot) (g.D.Depot.files c.loop-file.depot)
    c.loop-file.invariant.same_files c.loop-file.file-index c.file-item.result c.loop-file-test.true c.file-item.is c.loop-file.self c.loop-file.invariant.gone
    (WhichFailed g.D.Depot c.args.depot.now c.add_file.new.depot) c.in-Err.fault
    (WhichFailed-then g.D.Depot c.args.depot.now c.loop-file.depot c.add_file.new.depot reads c.loop-file.invariant.none_failed)
    (rw c.as_str-name.ensures at (c.in-Err.ensures.refused differ)))

pub loop-file-preserved : goal.loop-file-preserved
loop-file-preserved g c =
    let added = rw c.as_str-name.ensures at c.in-Ok.ensures.added in
    record {
      gone = gone_more (g.D.Depot.files c.args.depot.now) c.args.names.now (WhichFailed g.D.Depot c.loop-file.depot c.add_file.new.depot) (g.D.Depot.files c.loop-file.depot)
          c.loop-file.invariant.same_files c.loop-file.file-index c.file-item.result c.loop-file-test.true c.file-item.is c.loop-file.self c.loop-file.invariant.gone
          c.add_file.new.self added;
      none_failed = added.none_failed ∙ c.loop-file.invariant.none_failed;
      later = omega (arith, c.add_file.ensures.only_reads.later, c.loop-file.invariant.later);
      same_files = c.add_file.ensures.only_reads.same_files ∙ c.loop-file.invariant.same_files;
      same_writes = c.add_file.ensures.only_reads.same_writes ∙ c.loop-file.invariant.same_writes;
    }

pub returns-clause-added : goal.returns-clause-added
returns-clause-added g c =
    gone_all (g.D.Depot.files c.args.depot.now) c.args.names.now (WhichFailed g.D.Depot c.args.depot.now c.loop-file.depot) c.loop-file.file-index c.loop-file.self
    c.loop-file.auto.file-index-end (omega (arith, c.loop-file-test.false)) c.loop-file.invariant.gone c.loop-file.invariant.none_failed
