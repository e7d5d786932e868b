use Rattle.std.proofs.Common.{◌≡◌, ℕ, min, length, take, ap, ◌∙◌, arith}
use Rattle.std.proofs.lemmas.List.{take_min}
use Rattle.outside_core.proofs.piece.next_piece.Goals as goal

pub returns : goal.returns
returns c =
    let e : c.min.result ≡ min 4096 (length c.args.left.now) = omega arith in
    ap (λ (k : ℕ). take k c.args.left.now) e ∙ take_min 4096 c.args.left.now
