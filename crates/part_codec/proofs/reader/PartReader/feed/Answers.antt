use Rattle.part_codec.proofs.Readings.{of-pile, read-none, read-ends, part-ends-at}
use Rattle.part_codec.proofs.reader.PartReader.feed.Goals as goal

pub returns-in-Ok-clause-less : goal.returns-in-Ok-clause-less
returns-in-Ok-clause-less c = λ lt b st.
    let r = c.args.self.now in
    let k = read-none r.fault r.machine r.pile r.hasher b c.in_default.is st in
    read-ends c.read_on.new.machine c.read_on.new.to _ (of-pile _ _ _ (c.in-Ok.ensures.ok.reads b k.0 k.1).0) (c.in-Ok.ensures.all lt)

pub returns-in-Ok-clause-ends : goal.returns-in-Ok-clause-ends
returns-in-Ok-clause-ends c = λ b s end st read.
    let r = c.args.self.now in
    let f = c.in-Ok.ensures in
    let k = read-none r.fault r.machine r.pile r.hasher b c.in_default.is st in
    part-ends-at c.read_on.new.machine c.read_on.new.to b c.args.piece.now c.in-Ok.n s end (of-pile _ _ _ (f.ok.reads b k.0 k.1).0) f.ok.partial f.ok.count f.all read
