use Rattle.std.proofs.Common.{List, ℕ, ◌++◌, ◌∷◌, [], ap, ◌∙◌}
use Rattle.std.specs.Prelude.{codes}
use Rattle.sha2.specs.Sha256.{sha256}
use Rattle.sample_core.proofs.digests.issuer_key.Goals as goal

pub returns : goal.returns
returns c =
    c.new.ensures
    ∙ c.finalize.ensures _ (c.update-3.ensures _ (c.update-2.ensures _ (c.update.ensures _ c.new-hasher.ensures)))
    ∙ ap (λ (l : List ℕ). sha256 (codes "CCISSUER" ++ (l ++ c.args.issuer ∷ []))) c.to_be_bytes.ensures
