use Rattle.std.proofs.Common.{◌+◌, refl, sym}
use Rattle.std.specs.Int.{w8, to_be_bytes}
use Rattle.part_text.specs.PartText.{leaf_mode, leaf_text}
use Rattle.view_core.proofs.Texts.{stands_first, stands_then}
use Rattle.view_core.proofs.Leaves.{mode_fits}
use Rattle.view_core.proofs.leaf.shard_says.Goals as goal

pub returns-clause-value : goal.returns-clause-value
returns-clause-value g c l fits h =
    let mode = c.number8_at.ensures (leaf_mode l) (mode_fits l) (stands_first c.args.bytes.now c.args.at (to_be_bytes w8 (leaf_mode l)) (leaf_text l) h) in
    c.leaf_says.ensures.value l fits (sym mode) (stands_then c.args.bytes.now c.args.at (to_be_bytes w8 (leaf_mode l)) (leaf_text l) (c.args.at + 1) refl h)
