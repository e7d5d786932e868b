use Rattle.std.proofs.Common.{Ok, sym, ap, ◌∙◌}
use Rattle.part_codec.specs.declared.scan.PartNote.{PartNote}
use Rattle.part_codec.proofs.Scans.{by-none, behind-of, faulty, noted-short, noted-done, ends-by, few-by}
use Rattle.part_codec.proofs.scan.PartScan.finish.Goals as goal

pub returns-in-Some-clause-exact : goal.returns-in-Some-clause-exact
returns-in-Some-clause-exact c = λ b st. let l = c.args.self in faulty l.fault c.in-Some.fault l.machine l.nothing l.hasher b c.in-Some.is st

pub returns-then-not-is_done-clause-exact : goal.returns-then-not-is_done-clause-exact
returns-then-not-is_done-clause-exact c = λ b st.
    let s = c.args.self in
    noted-short s.machine b c.short.result (behind-of s.machine s.nothing b (by-none s.fault s.machine s.nothing s.hasher b c.in_default.is st).0)
    (λ done. let is = c.is_done.ensures.1 done in let not = c.if-not-is_done.true in absurd cc) (s.partial c.in_default.is) c.short.ensures

pub returns-clause-exact : goal.returns-clause-exact
returns-clause-exact c = λ b st.
    let s = c.args.self in
    noted-done s.machine b (behind-of s.machine s.nothing b (by-none s.fault s.machine s.nothing s.hasher b c.in_default.is st).0) (c.is_done.ensures.0 c.if-not-is_done.false)
    ∙ ap (λ (n : PartNote). Ok n) (sym c.note.ensures)

pub returns-in-Some-clause-ends : goal.returns-in-Some-clause-ends
returns-in-Some-clause-ends c = λ b s end st read. let l = c.args.self in ends-by l.fault l.machine l.nothing l.hasher b s end l.partial st read

pub returns-in-Some-clause-few : goal.returns-in-Some-clause-few
returns-in-Some-clause-few c = λ b st. let l = c.args.self in few-by l.fault l.machine l.nothing l.hasher b st

pub returns-then-not-is_done-clause-ends : goal.returns-then-not-is_done-clause-ends
returns-then-not-is_done-clause-ends c = λ b s end st read. let l = c.args.self in ends-by l.fault l.machine l.nothing l.hasher b s end l.partial st read

pub returns-then-not-is_done-clause-few : goal.returns-then-not-is_done-clause-few
returns-then-not-is_done-clause-few c = λ b st. let l = c.args.self in few-by l.fault l.machine l.nothing l.hasher b st

pub returns-clause-ends : goal.returns-clause-ends
returns-clause-ends c = λ b s end st read. let l = c.args.self in ends-by l.fault l.machine l.nothing l.hasher b s end l.partial st read

pub returns-clause-few : goal.returns-clause-few
returns-clause-few c = λ b st. let l = c.args.self in few-by l.fault l.machine l.nothing l.hasher b st
