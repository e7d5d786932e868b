use Rattle.std.proofs.Common.{arith, refl, ◌∙◌}
use Rattle.outside_core.specs.Effects.{OnlyReads}
use Rattle.outside_core.specs.Reads.{WhichFailed}
use Rattle.outside_core.proofs.Effects.{WhichFailed-then}
use Rattle.input_core.proofs.FilesRead.{none_failed}
use Rattle.command_core.proofs.Rehearsal.{none_gone, gone_more, gone_refused, gone_all}
use Rattle.command_core.proofs.rehearsing.with_files.Goals as goal

pub loop-file-init : goal.loop-file-init
loop-file-init g c = record {
  gone = none_gone _ c.args.names.now c.new-rehearsal.result c.args.text.items c.new-rehearsal.ensures.is_of c.requires.empty;
  none_failed = refl;
  later = omega arith;
  same_files = refl;
  same_writes = refl;
}

pub returns-in-Err-clause-refused : goal.returns-in-Err-clause-refused
returns-in-Err-clause-refused g c = λ differ.
    let f = rw c.as_str-name.ensures at (c.in-Err.ensures.refused differ) in
    let blamed = rw c.as_str-name.ensures at c.in-Err.ensures.blamed in
    let reads : OnlyReads g.D.Depot c.args.depot.now c.loop-file.depot = record {
      later = c.loop-file.invariant.later;
      same_files = c.loop-file.invariant.same_files;
      same_writes = c.loop-file.invariant.same_writes;
    } in
    rw c.as_str-name.ensures
    (gone_refused (g.D.Depot.files c.args.depot.now) c.args.names.now (WhichFailed g.D.Depot c.loop-file.depot c.with_file.new.depot) (g.D.Depot.files c.loop-file.depot)
    c.loop-file.invariant.same_files c.loop-file.file-index c.file-item.result
    c.loop-file-test.true c.file-item.is c.loop-file.rehearsal c.loop-file.text.items c.loop-file.invariant.gone f.0 f.1
    (WhichFailed g.D.Depot c.args.depot.now c.with_file.new.depot) c.in-Err.fault
    (WhichFailed-then g.D.Depot c.args.depot.now c.loop-file.depot c.with_file.new.depot reads c.loop-file.invariant.none_failed) blamed f.2)

pub loop-file-preserved : goal.loop-file-preserved
loop-file-preserved g c =
    let a = rw c.as_str-name.ensures at c.in-Ok.ensures.added in
    record {
      gone =
          rw (c.in-Ok-put_bytes.ensures.ok, c.text.ensures)
          (gone_more (g.D.Depot.files c.args.depot.now) c.args.names.now (WhichFailed g.D.Depot c.loop-file.depot c.with_file.new.depot) (g.D.Depot.files c.loop-file.depot)
          c.loop-file.invariant.same_files c.loop-file.file-index c.file-item.result
          c.loop-file-test.true c.file-item.is c.loop-file.rehearsal c.loop-file.text.items c.loop-file.invariant.gone a.0 a.1 c.in-Ok.added.0 c.in-Ok.added.1 a.2);
      none_failed = none_failed (WhichFailed g.D.Depot c.loop-file.depot c.with_file.new.depot) _ _ _ c.in-Ok.ensures.blamed ∙ c.loop-file.invariant.none_failed;
      later = omega arith;
      same_files = c.with_file.ensures.only_reads.same_files ∙ c.loop-file.invariant.same_files;
      same_writes = c.with_file.ensures.only_reads.same_writes ∙ c.loop-file.invariant.same_writes;
    }

pub returns-clause-rehearsed : goal.returns-clause-rehearsed
returns-clause-rehearsed g c =
    gone_all (g.D.Depot.files c.args.depot.now) c.args.names.now (WhichFailed g.D.Depot c.args.depot.now c.loop-file.depot) c.loop-file.file-index c.loop-file.rehearsal
    c.loop-file.text.items (omega (arith, c.loop-file-test.false)) c.loop-file.invariant.gone c.loop-file.invariant.none_failed
