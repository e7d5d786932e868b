use Rattle.std.proofs.Common.{Some, sym, ap, ◌∙◌, arith}
use Rattle.view_core.proofs.Endings.{standing_shard}
use Rattle.view_core.proofs.ends.shard_end.Goals as goal

pub returns-clause-value : goal.returns-clause-value
returns-clause-value c = λ l fits s.
    let holds = standing_shard c.args.bytes.now c.args.at l s in
    let mode = c.number8_at.ensures _ holds.few holds.mode in
    c.leaf_end.ensures.value l fits (sym mode) holds.leaf ∙ ap Some (omega arith)
