use Rattle.std.proofs.Common.{◌∙◌}
use Rattle.job_core.proofs.Walks.{nearer}
use Rattle.gather_core.proofs.Tallies.{whole}
use Rattle.gather_core.proofs.counting.count_records.Goals as goal

pub loop-records-smaller : goal.loop-records-smaller
loop-records-smaller c =
    let (t, read, epoch) = c.loop-records.invariant in
    let more = rw c.in-Ok-Some.field-0-is at c.in-Ok-Some.ensures in
    nearer c.args.limits c.loop-records.records c.next.new.self c.args.bytes.now t _ read (more c.args.limits c.args.bytes.now t read)

pub returns-in-Ok-None : goal.returns-in-Ok-None
returns-in-Ok-None c =
    let (t, read, epoch) = c.loop-records.invariant in
    let ended = rw c.in-Ok-None.field-0-is at c.in-Ok-None.ensures in
    let (job, ranges, entries) = ended c.args.limits c.args.bytes.now t read in
    whole c.args.limits c.args.bytes.now t _ read.octets job epoch (c.ranges-in-Ok-None.ensures.value ∙ ranges) (c.entries.ensures ∙ entries)
