use Rattle.std.proofs.Common.{List, ℕ, [], ap, ◌++◌, ◌∙◌}
use Rattle.card_core.specs.PartFields.{PartFields}
use Rattle.part_text.specs.PartText.{unsealed_text, spelling}
use Rattle.part_text.proofs.encode.encode_part.Goals as goal

pub returns-clause-text : goal.returns-clause-text
unfolding spelling
returns-clause-text c =
    c.in_ok-put_bytes.ensures.ok
    ∙ ap (λ (l : List ℕ). l ++ c.bytes.result.now) (c.in_ok-put_unsealed.ensures.text [] c.in_ok-out.ensures.items ∙ ap (λ (p : PartFields). unsealed_text p) c.part-part.ensures)
    ∙ ap (λ (l : List ℕ). unsealed_text c.args.sealed.now.part ++ l) (c.bytes.ensures.value ∙ c.trailer.ensures.value)
