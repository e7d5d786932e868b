use Rattle.std.proofs.Common.{None, refl, ◌∙◌, arith}
use Rattle.std.proofs.lemmas.Result.{err_from_is_err_and}
use Rattle.job_core.specs.declared.bounds.TheConstants.Limits as limits
use Rattle.job_core.specs.Reader.{no_serials}
use Rattle.job_core.specs.Records.{item_shown}
use Rattle.job_core.proofs.JobBounds.{never-reads}
use Rattle.job_core.proofs.Walks.{nearer}
use Rattle.piece_core.specs.Records.{place_of_record}
use Rattle.piece_core.proofs.Fronts.{front-more, front-whole, stored, not-less, one-text}
use Rattle.piece_core.proofs.cutting.cut_text.Goals as goal

pub returns-in_err-records-clause-no_read : goal.returns-in_err-records-clause-no_read
returns-in_err-records-clause-no_read c =
    let p = err_from_is_err_and c.from_residual.result c.from_residual.ensures.1 in
    rw (p.1, p.2) (λ is. never-reads no_serials limits.PUBLISHED c.args.bytes.now (rw is at c.in_err-records.ensures.err))

pub returns-in-Err-clause-no_read : goal.returns-in-Err-clause-no_read
returns-in-Err-clause-no_read c = λ is.
    let (t, h, f) = c.loop-record.invariant in
    let e = rw c.in-Err.fault-is at c.in-Err.ensures in
    never-reads no_serials limits.PUBLISHED c.args.bytes.now (rw is at e limits.PUBLISHED c.args.bytes.now t h)

pub split_at-requires : goal.split_at-requires
split_at-requires c =
    let (t, h, f) = c.loop-record.invariant in
    let x = item_shown c.in-Ok-Some.record in
    let more = rw c.in-Ok-Some.field-0-is at c.in-Ok-Some.ensures in
    let g = more limits.PUBLISHED c.args.bytes.now t h in
    not-less c.args.bytes.now c.loop-record.records c.next.new.self t x c.passed-start.result.now c.passed-in-Ok-Some.result.now h g
    (c.passed-start.ensures limits.PUBLISHED c.args.bytes.now t h) (c.passed-in-Ok-Some.ensures limits.PUBLISHED c.args.bytes.now _ g)

pub loop-record-smaller : goal.loop-record-smaller
loop-record-smaller c =
    let (t, h, f) = c.loop-record.invariant in
    let more = rw c.in-Ok-Some.field-0-is at c.in-Ok-Some.ensures in
    nearer limits.PUBLISHED c.loop-record.records c.next.new.self c.args.bytes.now t _ h (more limits.PUBLISHED c.args.bytes.now t h)

pub loop-record-preserved : goal.loop-record-preserved
loop-record-preserved c =
    let (t, h, f) = c.loop-record.invariant in
    let x = item_shown c.in-Ok-Some.record in
    let more = rw c.in-Ok-Some.field-0-is at c.in-Ok-Some.ensures in
    let g = more limits.PUBLISHED c.args.bytes.now t h in
    let one = one-text c.args.bytes.now c.loop-record.records c.next.new.self t x c.passed-start.result.now c.passed-in-Ok-Some.result.now h g
    (c.passed-start.ensures limits.PUBLISHED c.args.bytes.now t h) (c.passed-in-Ok-Some.ensures limits.PUBLISHED c.args.bytes.now _ g) in
    let put = rw (c.split_at.ensures.back ∙ one, c.place_of-place.ensures.value) at c.in_ok-put-in-Ok-Some.ensures.longer in
    let l = stored (place_of_record c.args.by c.args.count x) _ c.loop-record.texts.len c.loop-record.texts.items c.deref_mut.result.now c.put.new.texts (omega (arith, c.deref_mut.ensures.len)) c.deref_mut.ensures.value put in
    (_, g, front-more c.args.by c.args.count t x c.loop-record.texts.items _ f l)

pub returns-in-Ok-None-clause-ok : goal.returns-in-Ok-None-clause-ok
returns-in-Ok-None-clause-ok c =
    let (t, h, f) = c.loop-record.invariant in
    let ended = rw c.in-Ok-None.field-0-is at c.in-Ok-None.ensures in
    let (job, ranges, entries) = ended limits.PUBLISHED c.args.bytes.now t h in
    let l = stored None _ c.loop-record.texts.len c.loop-record.texts.items c.deref_mut-in-Ok-None.result.now c.put-in-Ok-None.new.texts (omega (arith, c.deref_mut-in-Ok-None.ensures.len)) c.deref_mut-in-Ok-None.ensures.value
    c.in_ok-put-in-Ok-None.ensures.longer in
    front-whole c.args.by c.args.count c.args.bytes.now t c.loop-record.texts.items _ h.octets job f l (c.entries.ensures ∙ entries) refl
