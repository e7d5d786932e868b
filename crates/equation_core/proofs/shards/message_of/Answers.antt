use Rattle.std.proofs.Common.{◌≡◌, ◌++◌, ◌∷◌, [], ℕ, List, length, ap, ◌∙◌}
use Rattle.std.specs.Prelude.{codes}
use Rattle.std.proofs.lemmas.List.{take_at}
use Rattle.equation_core.proofs.shards.message_of.Goals as goal

pub returns : goal.returns
returns c =
    let mark : c.copy_from_slice.new.self ≡ codes "CCSHARD" = c.copy_from_slice.ensures.after in
    c.put_identity.ensures
    ∙ ap (λ (l : List ℕ). l ++ c.args.id.now.issuer ++ (length c.args.id.now.serial ∷ []) ++ c.args.id.now.serial)
    (take_at c.copy_from_slice.new.self _ 7 (ap (λ (l : List ℕ). length l) mark) ∙ mark)
