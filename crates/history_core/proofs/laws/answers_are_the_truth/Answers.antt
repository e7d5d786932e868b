use Rattle.std.specs.Prelude.{map}
use Rattle.history_core.specs.Publishing.{part_of}
use Rattle.history_core.proofs.Answers.{answers_are_truth}
use Rattle.history_core.proofs.Publishing.{parts_show, exact_from_flags}
use Rattle.history_core.proofs.laws.answers_are_the_truth.Goals as goal

pub returns : goal.returns
returns c = record {
  shown = λ parts rs x s ss sound shows asked. answers_are_truth parts rs x s ss sound shows asked;
  published = λ positive rs x s ss sound exact asked. answers_are_truth (map (part_of positive) rs) rs x s ss sound (parts_show positive rs exact) asked;
  flags = λ positive r h. exact_from_flags positive r h;
}
