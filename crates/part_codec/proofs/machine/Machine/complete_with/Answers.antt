use Rattle.std.proofs.Common.{◌++◌, arith}
use Rattle.part_codec.proofs.MachineStands.{Opened-more, whole-alone, ok-map, err-map}
use Rattle.part_codec.proofs.machine.Machine.complete_with.Goals as goal

pub returns-then-self-eq0-clause-ok : goal.returns-then-self-eq0-clause-ok
returns-then-self-eq0-clause-ok c = ok-map c.complete.result
    (λ f s b st. f s (b ++ c.args.rest.now) (Opened-more c.args.self.now s b c.args.rest.now (λ i. omega (arith, c.type_inv.rest i)) st.opens)
    (whole-alone c.args.self.now s b c.args.rest.now st c.requires.passed (omega (arith, c.requires.len, c.if-self-eq0.true)) c.if-self-eq0.true)) c.complete.ensures.ok

pub returns-then-self-eq0-clause-moved : goal.returns-then-self-eq0-clause-moved
returns-then-self-eq0-clause-moved c = ok-map c.complete.result
    (λ f s b st. f s (b ++ c.args.rest.now) (Opened-more c.args.self.now s b c.args.rest.now (λ i. omega (arith, c.type_inv.rest i)) st.opens)
    (whole-alone c.args.self.now s b c.args.rest.now st c.requires.passed (omega (arith, c.requires.len, c.if-self-eq0.true)) c.if-self-eq0.true)) c.complete.ensures.moved

pub returns-then-self-eq0-clause-err : goal.returns-then-self-eq0-clause-err
returns-then-self-eq0-clause-err c = err-map _ _ c.complete.result
    (λ e f s b x st. f s (b ++ c.args.rest.now) x (Opened-more c.args.self.now s b c.args.rest.now (λ i. omega (arith, c.type_inv.rest i)) st.opens)
    (whole-alone c.args.self.now s b c.args.rest.now st c.requires.passed (omega (arith, c.requires.len, c.if-self-eq0.true)) c.if-self-eq0.true)) c.complete.ensures.err
