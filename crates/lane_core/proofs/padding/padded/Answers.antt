use Rattle.std.proofs.Common.{◌++◌, ◌∙◌, ℕ, List, length, drop, ap, arith, refl}
use Rattle.std.proofs.lemmas.List.{drop-replicate}
use Rattle.lane_core.proofs.Blocks.{padded-is, zeros}
use Rattle.lane_core.proofs.padding.padded.Goals as goal

pub returns : goal.returns
returns c =
    let m : List ℕ = c.args.message.now in
    padded-is m _ c.copy_from_slice-2.new.self (length m) _ _ refl (omega arith) refl
    (ap (λ (l : List ℕ). l ++ drop (length m) (zeros 128)) c.copy_from_slice.ensures.after
    ∙ ap (λ (l : List ℕ). m ++ l) (drop-replicate (length m) 128 0))
    (c.copy_from_slice-2.ensures.after ∙ c.to_be_bytes.ensures)
