use Rattle.std.proofs.Common.{◌≡◌, ◌∙◌, [], inl, inr, arith, rules}
use Rattle.std.proofs.lemmas.List.{get_or-set_same, get_or-set_other}
use Rattle.std.proofs.lemmas.Bool.{cases_lt}
use Rattle.lane_core.proofs.padding.words_of.Goals as goal

pub words-preserved : goal.words-preserved
words-preserved c = (
  search rules,
  λ k below. elim (cases_lt k c.words.k) [
    | inl before ↦ get_or-set_other c.words.words c.words.k k c.word_of_each.result [] (omega arith) ∙ c.words.invariant.1 k before
    | inr last ↦
        let e : c.words.k ≡ k = omega arith in
        rw (← e) (get_or-set_same c.words.words c.words.k c.word_of_each.result [] (omega arith) ∙ c.word_of_each.ensures)
  ],
)
