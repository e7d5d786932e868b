use Rattle.std.proofs.Math.Logic.{∥∥₁_map}
use Rattle.part_codec.proofs.Readings.{of-pile, read-none, read-faulty, read-short}
use Rattle.part_codec.proofs.reader.PartReader.finish.Goals as goal

pub returns-in-Some-clause-err : goal.returns-in-Some-clause-err
returns-in-Some-clause-err c = λ other b st. read-faulty c.args.self.fault c.in-Some.fault c.args.self.machine c.args.self.pile c.args.self.hasher b c.in-Some.is st other

pub returns-then-not-is_done-clause-err : goal.returns-then-not-is_done-clause-err
returns-then-not-is_done-clause-err c = λ other b st.
    let r = c.args.self in
    read-short r.machine r.pile b c.short.result (of-pile _ _ _ (read-none r.fault r.machine r.pile r.hasher b c.in_default.is st).0) (r.partial c.in_default.is)
    (λ done. let is = c.is_done.ensures.1 done in let not = c.if-not-is_done.true in absurd cc) c.short.ensures

pub finished-requires-clause-read : goal.finished-requires-clause-read
finished-requires-clause-read c = ∥∥₁_map (c.args.self.read c.in_default.is) (λ r. (r.0, r.1))

pub returns-clause-ok : goal.returns-clause-ok
returns-clause-ok c = λ b x st.
    let r = c.args.self in
    c.finished.ensures b x (read-none r.fault r.machine r.pile r.hasher b c.in_default.is st).0
