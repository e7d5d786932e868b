use Rattle.std.proofs.Common.{◌≡◌, ℕ, List, take, length, sym, ap, subst, ◌∙◌, arith}
use Rattle.std.proofs.lemmas.List.{length-take-le}
use Rattle.part_codec.specs.declared.fields.Open.{Open}
use Rattle.part_codec.specs.Stepping.{skips, passes_last, open_after, tail_of, AreLimits}
use Rattle.part_codec.proofs.WholePlanes.{Goes, alone-goes, alone-width, leads-alone, leads-next, whole-advances, field-settles, field-partial}
use Rattle.part_codec.proofs.machine.Machine.whole_field.Goals as goal

pub returns-clause-taken : goal.returns-clause-taken
returns-clause-taken c = λ some.
    let m = c.args.self.now in
    let n = c.open_next.new.self in
    let o : Open = c.args.field in
    let t : List ℕ = take c.tail-want.result c.args.piece.now in
    let none : skips m.field m.kept ≡ 0 = ap (λ (x : Open). skips x m.kept) c.requires.field ∙ leads-alone o m.kept c.requires.leads in
    let passed : m.passed ≡ 0 = omega (arith, m.before, none) in
    let next : n.field ≡ open_after o n.kept = c.open_next.ensures.next ∙ ap (λ (x : Open). open_after x n.kept) c.requires.field in
    let follows = leads-next o n.kept c.requires.leads in
    let len : length t ≡ tail_of m.field = length-take-le c.tail-want.result c.args.piece.now c.if-piece-want.false ∙ c.tail-want.ensures.value ∙ sym (ap tail_of c.requires.field) in
    let goes : Goes m n t =
    alone-goes m n t none (λ sum. ap (λ (x : Open). passes_last x m.kept sum t) c.requires.field ∙ sym (c.passes.ensures.exact sum) ∙ c.if-not-passes.false)
    (subst (λ (x : Open). AreLimits x t) (sym c.requires.field) (c.passes.ensures.limits c.if-not-passes.false)) c.open_next.ensures.kept c.open_next.ensures.next (omega (arith, c.open_next.ensures.at, passed))
    c.open_next.ensures.passed c.open_next.ensures.empty in
    whole-advances m n c.args.piece.now c.tail-want.result (λ i. omega (arith, c.type_inv.piece i)) c.if-piece-want.false some passed (omega (arith, c.if-self-gt0.false)) (alone-width m t none len) goes
    (field-settles n (open_after o n.kept) follows.0 next) (field-partial n (open_after o n.kept) follows.1 next c.open_next.ensures.empty)
