use Rattle.std.proofs.Common.{◌+◌, ◌-◌, sym, ◌∙◌, arith}
use Rattle.part_text.specs.PartText.{mode_of}
use Rattle.view_core.proofs.Shards.{stands_mode, stands_body, block_mode_fits, says_leaf, says_shards}
use Rattle.view_core.proofs.block.block_says.Goals as goal

pub returns-then-mode-eq3-clause-value : goal.returns-then-mode-eq3-clause-value
returns-then-mode-eq3-clause-value g c b fits h holds =
    let mode = c.number8_at-mode.ensures (mode_of b.body) (block_mode_fits b.body) (stands_mode c.args.bytes.now c.args.at (c.args.at + 33 - 1) b fits (omega arith) h) in
    says_shards c.args.bytes.now c.args.places.now c.args.at c.args.draws.now c.sharded_says.result c.sharded_says.ensures.value b.body holds.before holds.behind fits.body
    (sym mode ∙ c.if-mode-eq3.true) (stands_body c.args.bytes.now c.args.at b fits h) holds.ascend holds.are

pub returns-else-mode-eq3-clause-value : goal.returns-else-mode-eq3-clause-value
returns-else-mode-eq3-clause-value g c b fits h holds =
    let mode = c.number8_at-mode.ensures (mode_of b.body) (block_mode_fits b.body) (stands_mode c.args.bytes.now c.args.at (c.args.at + 33 - 1) b fits (omega arith) h) in
    says_leaf c.args.bytes.now c.args.places.now (c.args.at + 33) c.args.draws.now c.leaf_says.result c.number8_at-mode.result c.leaf_says.ensures.value b.body fits.body
    (sym mode) c.if-mode-eq3.false (stands_body c.args.bytes.now c.args.at b fits h)
