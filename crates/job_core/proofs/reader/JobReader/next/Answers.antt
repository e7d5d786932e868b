use Rattle.outside_core.proofs.Pulling.{pulled-none}
use Rattle.job_core.proofs.JobStanding.{reads-kept}
use Rattle.job_core.proofs.reader.JobReader.next.Goals as goal

pub begin-answer-requires : goal.begin-answer-requires
begin-answer-requires g c = c.in-Opening.is

pub returns-in-Opening-clause-next : goal.returns-in-Opening-clause-next
returns-in-Opening-clause-next g c = λ going open_yet file stands has.
    let k = c.keep in
    rw k.ensures.same (reads-kept g.D.Depot c.args.self.now c.begin-answer.new.self k.new.self c.args.feed.now c.begin-answer.new.feed c.begin-answer.result k.ensures.ok
    c.begin-answer.ensures.next file stands has)

pub record-answer-requires : goal.record-answer-requires
record-answer-requires g c = c.in-Records.is

pub returns-in-Records-clause-next : goal.returns-in-Records-clause-next
returns-in-Records-clause-next g c = λ going open_yet file stands has.
    let k = c.keep-in-Records in
    rw k.ensures.same (reads-kept g.D.Depot c.args.self.now c.record-answer.new.self k.new.self c.args.feed.now c.record-answer.new.feed c.record-answer.result k.ensures.ok
    c.record-answer.ensures.next file stands has)

pub returns-in-Ended-clause-pulled : goal.returns-in-Ended-clause-pulled
returns-in-Ended-clause-pulled g c = pulled-none g.D.Depot c.args.feed.now

pub returns-in-Failed-clause-pulled : goal.returns-in-Failed-clause-pulled
returns-in-Failed-clause-pulled g c = pulled-none g.D.Depot c.args.feed.now
