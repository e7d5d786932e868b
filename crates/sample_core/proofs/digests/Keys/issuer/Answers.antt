use Rattle.std.proofs.Common.{List, ℕ, ap, ◌∙◌, slice_index_or}
use Rattle.sample_core.specs.Sample.{issuer_of}
use Rattle.sample_core.proofs.Texts.{issuer-at}
use Rattle.sample_core.proofs.digests.Keys.issuer.Goals as goal

pub returns : goal.returns
returns c =
    ap (λ (l : List (List ℕ)). slice_index_or l c.args.issuer c.index-self-issuer.result) c.self.invariant.1
    ∙ issuer-at c.self.inside.number c.args.issuer c.index-self-issuer.result c.requires
    ∙ ap (λ (n : ℕ). issuer_of n c.args.issuer) c.self.view_is
