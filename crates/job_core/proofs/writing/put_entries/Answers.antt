use Rattle.job_core.specs.JobText.{entry_record, entry_held, FitsEntry}
use Rattle.octets_core.proofs.Loops.{appended-more, all-more}
use Rattle.job_core.proofs.writing.put_entries.Goals as goal

pub loop-entry-preserved : goal.loop-entry-preserved
loop-entry-preserved c = record {
  text = appended-more (λ x. entry_record (entry_held x)) c.args.entries.now c.loop-entry.entry-index c.entry-item.result c.args.out.now.items
      c.loop-entry.out.items c.put_entry.new.out.items c.loop-entry-test.true c.entry-item.is c.loop-entry.invariant.text c.in_ok-put_entry.ensures.text;
  fits = all-more (λ x. FitsEntry (entry_held x)) c.args.entries.now c.loop-entry.entry-index c.entry-item.result c.loop-entry-test.true c.entry-item.is
      c.loop-entry.invariant.fits c.in_ok-put_entry.ensures.fits;
}
