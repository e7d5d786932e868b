use Rattle.std.proofs.Common.{◌≡◌, ◌∷◌, [], true, false, sym, ap, ◌∙◌}
use Rattle.equation_core.specs.Rows.{sha256_row}
use Rattle.card_core.specs.Filter.{is_positive}
use Rattle.card_core.specs.Verdict.{by_answers}
use Rattle.card_core.proofs.fours.Inquiry.said_by.Goals as goal

pub returns-then-tests_positive : goal.returns-then-tests_positive
returns-then-tests_positive g c =
    let yes : is_positive sha256_row c.args.self.now.certificate c.in-Ok.body.now ≡ true =
    ap (λ x. is_positive sha256_row x c.in-Ok.body.now) (sym c.id-id.ensures) ∙ sym c.tests_positive.ensures.value ∙ c.if-tests_positive.true in
    rw c.in-Ok.is (ap (λ b. by_answers (b ∷ [])) (sym yes))

pub returns-else-tests_positive : goal.returns-else-tests_positive
returns-else-tests_positive g c =
    let no : is_positive sha256_row c.args.self.now.certificate c.in-Ok.body.now ≡ false =
    ap (λ x. is_positive sha256_row x c.in-Ok.body.now) (sym c.id-id.ensures) ∙ sym c.tests_positive.ensures.value ∙ c.if-tests_positive.false in
    rw c.in-Ok.is (ap (λ b. by_answers (b ∷ [])) (sym no))
