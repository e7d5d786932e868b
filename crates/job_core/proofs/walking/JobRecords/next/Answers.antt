use Rattle.std.proofs.Common.{refl}
use Rattle.job_core.proofs.Walks.{one-more, no-more, more-behind, not-read}
use Rattle.job_core.proofs.walking.JobRecords.next.Goals as goal

pub returns-in-Ok-Some : goal.returns-in-Ok-Some
returns-in-Ok-Some c = λ limits bytes t h.
    let e = c.in-Ok-Some.ensures in
    let next = rw c.in-Ok-Some.field-0-is at e.exact.0 in
    let behind = rw c.in-Ok-Some.field-0-is at e.behind in
    one-more limits c.args.self.now _ bytes t h c.in-Ok-Some.text next refl e.exact.1 behind

pub returns-in-Ok : goal.returns-in-Ok
returns-in-Ok c = λ limits bytes t h.
    let e = c.in-Ok-None.ensures.exact in
    let next = rw c.in-Ok-None.field-0-is at e.0 in
    let over = rw e.1 at c.in-Ok.ensures.0 in
    let same = rw c.in-Ok-None.field-0-is at c.in-Ok-None.ensures.behind in
    no-more limits c.args.self.now (record { cursor = c.read_end.new.cursor; limits = c.args.self.now.limits; numbers = c.read_record.new.numbers }) bytes t h _ _ _ next over same

pub returns-in-Err-read_end : goal.returns-in-Err-read_end
returns-in-Err-read_end c = λ limits bytes t h.
    let e = c.in-Ok-None.ensures.exact in
    let next = rw c.in-Ok-None.field-0-is at e.0 in
    let over = rw e.1 at c.in-Err-read_end.ensures.0 in
    more-behind limits c.args.self.now c.args.self.now bytes t h _ _ next over

pub returns-in-Err : goal.returns-in-Err
returns-in-Err c = λ limits bytes t h. not-read limits c.args.self.now c.args.self.now bytes t h _ c.in-Err.ensures.exact
