use Rattle.std.proofs.Common.{◌≡◌, ◌++◌, ◌∷◌, [], ℕ, List, length, ap, ◌∙◌, arith}
use Rattle.std.specs.Prelude.{codes}
use Rattle.equation_core.proofs.Messages.{row_front}
use Rattle.equation_core.proofs.sha256_rows.message_of.Goals as goal

pub returns : goal.returns
returns c =
    let mark : c.copy_from_slice.new.self ≡ codes "CCROW1" = c.copy_from_slice.ensures.after in
    c.put_identity.ensures
    ∙ ap (λ (l : List ℕ). l ++ c.args.id.now.issuer ++ (length c.args.id.now.serial ∷ []) ++ c.args.id.now.serial)
    (row_front c.copy_from_slice.new.self _ c.args.stage c.args.seed (ap (λ (l : List ℕ). length l) mark) (omega arith)
    ∙ ap (λ (l : List ℕ). l ++ (c.args.stage ∷ c.args.seed ∷ [])) mark)
