use Rattle.std.proofs.Common.{◌∙◌}
use Rattle.sample_core.proofs.Record.{record-spelled}
use Rattle.sample_core.proofs.entry.record_of.Goals as goal

pub returns : goal.returns
returns c =
    record-spelled c.args.keys.now c.args.index c.bytes-l.result.now c.to_be_bytes-t.result c.bytes-k.result.now c.digest_of_entry-d.result
    (c.bytes-l.ensures.value ∙ c.log.ensures) c.to_be_bytes-t.ensures
    (c.bytes-k.ensures.value ∙ c.issuer.ensures) (rw c.number.ensures at c.digest_of_entry-d.ensures)
