use Rattle.std.proofs.Common.{sym, ◌∙◌, arith, rules}
use Rattle.part_codec.proofs.WholePlanes.{mode-advances}
use Rattle.part_codec.proofs.machine.Machine.whole_mode.Goals as goal

pub returns-then-number8-gt1-clause-taken : goal.returns-then-number8-gt1-clause-taken
returns-then-number8-gt1-clause-taken c = λ some.
    mode-advances c.args.self.now c.open_next.new.self c.args.piece.now (λ i. omega (arith, c.type_inv.piece i)) (search rules) c.requires.field (search rules)
    (λ sum. sym (c.passes.ensures.exact sum) ∙ c.if-not-passes.false) (λ plain. absurd (omega (arith, plain, c.number8.ensures, c.if-number8-gt1.true))) c.open_next.ensures.kept
    c.open_next.ensures.next (search rules) c.open_next.ensures.passed c.open_next.ensures.empty

pub returns-clause-taken : goal.returns-clause-taken
returns-clause-taken c = λ some.
    mode-advances c.args.self.now c.open_next-2.new.self c.args.piece.now (λ i. omega (arith, c.type_inv.piece i)) (search rules) c.requires.field (search rules)
    (λ sum. sym (c.passes-else-self-lt2.ensures.exact sum) ∙ c.if-not-passes-2.false) (λ plain. search rules) c.open_next-2.ensures.kept c.open_next-2.ensures.next (search rules)
    c.open_next-2.ensures.passed c.open_next-2.ensures.empty
