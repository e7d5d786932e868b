use Rattle.std.proofs.Common.{ℕ, List, Vec, Global, ◌++◌, take, sym, ap, subst, ◌∙◌}
use Rattle.std.proofs.lemmas.List.{take_all}
use Rattle.sha2.specs.Hashers.{Holds256}
use Rattle.sha2.specs.Sha256.{sha256}
use Rattle.command_core.specs.Digested.{concatenated}
use Rattle.command_core.proofs.Piecewise.{joined-more}
use Rattle.command_core.proofs.pieces.digest_of.Goals as goal

pub loop-piece-preserved : goal.loop-piece-preserved
loop-piece-preserved c =
    let front = concatenated (take c.loop-piece.piece-index c.args.pieces.now) in
    subst (λ (l : List ℕ). Holds256 c.update.new.self l)
    (ap (λ (l : List ℕ). front ++ l) c.as_slice.ensures.value
    ∙ sym (joined-more c.args.pieces.now c.loop-piece.piece-index c.piece-item.result c.loop-piece-test.true c.piece-item.is))
    (c.update.ensures front c.loop-piece.invariant)

pub returns : goal.returns
returns c =
    c.finalize.ensures (concatenated (take c.loop-piece.piece-index c.args.pieces.now)) c.loop-piece.invariant
    ∙ ap (λ (ps : List (Vec ℕ Global)). sha256 (concatenated ps)) (take_all c.loop-piece.piece-index c.args.pieces.now c.loop-piece-test.false)
