use Rattle.std.proofs.Common.{◌≡◌, refl, ◌∙◌, arith}
use Rattle.outside_core.specs.Effects.{OnlyReads}
use Rattle.outside_core.specs.Reads.{WhichFailed}
use Rattle.outside_core.proofs.Effects.{WhichFailed-then}
use Rattle.input_core.proofs.FilesRead.{none_failed}
use Rattle.command_core.proofs.FilesPut.{none_gone, gone_more, gone_refused, gone_full, gone_all}
use Rattle.command_core.proofs.lengthening.put_files.Goals as goal

pub loop-file-init : goal.loop-file-init
loop-file-init g c = record {
  gone = λ j opens. none_gone c.args.source.now c.args.to.now c.args.files.now _ j c.args.job.now opens;
  none_failed = refl;
  later = omega arith;
  same_files = refl;
  same_writes = refl;
}

pub returns-in-Err-clause-refused : goal.returns-in-Err-clause-refused
returns-in-Err-clause-refused g c = rw c.as_str-name.ensures (λ differ j opens.
    let of : c.epoch-held.result ≡ j.epoch = c.epoch-held.ensures ∙ opens.epoch in
    let (given, read, gives, blamed) = rw (c.as_str-name.ensures, of) at c.in-Err.ensures.refused in
    let lt = c.loop-file-test.true in
    let at = c.file-item.is in
    let reads : OnlyReads g.D.Depot c.args.depot.now c.loop-file.depot = record {
      later = c.loop-file.invariant.later;
      same_files = c.loop-file.invariant.same_files;
      same_writes = c.loop-file.invariant.same_writes;
    } in
    gone_refused c.args.source.now c.args.to.now c.args.files.now (g.D.Depot.files c.args.depot.now) j (WhichFailed g.D.Depot c.loop-file.depot c.entries_in.new.depot) (g.D.Depot.files c.loop-file.depot)
    c.loop-file.invariant.same_files c.loop-file.file-index c.file-item.result lt at c.loop-file.job (c.loop-file.invariant.gone j opens) given read
    (WhichFailed g.D.Depot c.args.depot.now c.entries_in.new.depot) c.in-Err.fault
    (WhichFailed-then g.D.Depot c.args.depot.now c.loop-file.depot c.entries_in.new.depot reads c.loop-file.invariant.none_failed) blamed (gives differ))

pub loop-file-preserved : goal.loop-file-preserved
loop-file-preserved g c =
    let (few, holds, input) = rw c.as_str-name.ensures at c.in-Ok.ensures.held in
    let (given0, read0, gives0, blamed0) = input in
    let lt = c.loop-file-test.true in
    let at = c.file-item.is in
    record {
      gone = λ j opens.
          let of : c.epoch-held.result ≡ j.epoch = c.epoch-held.ensures ∙ opens.epoch in
          let (given, read, gives, blamed) = rw of at input in
          gone_more c.args.source.now c.args.to.now c.args.files.now (g.D.Depot.files c.args.depot.now) j (WhichFailed g.D.Depot c.loop-file.depot c.entries_in.new.depot) (g.D.Depot.files c.loop-file.depot)
          c.loop-file.invariant.same_files c.loop-file.file-index c.file-item.result lt at c.loop-file.job (c.loop-file.invariant.gone j opens) given read
          c.in-Ok.entries few c.put_entries.new.job holds gives c.in-Ok-put_entries.ensures.put;
      none_failed = none_failed (WhichFailed g.D.Depot c.loop-file.depot c.entries_in.new.depot) _ _ _ blamed0 ∙ c.loop-file.invariant.none_failed;
      later = omega (arith, c.entries_in.ensures.only_reads.later, c.loop-file.invariant.later);
      same_files = c.entries_in.ensures.only_reads.same_files ∙ c.loop-file.invariant.same_files;
      same_writes = c.entries_in.ensures.only_reads.same_writes ∙ c.loop-file.invariant.same_writes;
    }

pub returns-clause-put : goal.returns-clause-put
returns-clause-put g c = λ j opens.
    gone_all c.args.source.now c.args.to.now c.args.files.now (g.D.Depot.files c.args.depot.now) j (WhichFailed g.D.Depot c.args.depot.now c.loop-file.depot) c.loop-file.file-index c.loop-file.job c.loop-file-test.false
    (c.loop-file.invariant.gone j opens) c.loop-file.invariant.none_failed

pub returns-in-Err-put_entries-clause-refused : goal.returns-in-Err-put_entries-clause-refused
returns-in-Err-put_entries-clause-refused g c = λ differ j opens.
    let (few, holds, input) = rw c.as_str-name.ensures at c.in-Ok.ensures.held in
    let of : c.epoch-held.result ≡ j.epoch = c.epoch-held.ensures ∙ opens.epoch in
    let (given, read, gives, blamed) = rw of at input in
    let lt = c.loop-file-test.true in
    let at = c.file-item.is in
    let reads : OnlyReads g.D.Depot c.args.depot.now c.loop-file.depot = record {
      later = c.loop-file.invariant.later;
      same_files = c.loop-file.invariant.same_files;
      same_writes = c.loop-file.invariant.same_writes;
    } in
    let f = c.in-Err-put_entries.ensures.full differ in
    gone_full c.args.source.now c.args.to.now c.args.files.now (g.D.Depot.files c.args.depot.now) j (WhichFailed g.D.Depot c.loop-file.depot c.entries_in.new.depot) (g.D.Depot.files c.loop-file.depot)
    c.loop-file.invariant.same_files c.loop-file.file-index c.file-item.result lt at c.loop-file.job (c.loop-file.invariant.gone j opens) given read
    (WhichFailed g.D.Depot c.args.depot.now c.entries_in.new.depot) c.in-Ok.entries few c.in-Err-put_entries.fault holds
    (WhichFailed-then g.D.Depot c.args.depot.now c.loop-file.depot c.entries_in.new.depot reads c.loop-file.invariant.none_failed)
    (none_failed (WhichFailed g.D.Depot c.loop-file.depot c.entries_in.new.depot) _ _ _ blamed ∙ c.loop-file.invariant.none_failed) gives f.0 f.1
