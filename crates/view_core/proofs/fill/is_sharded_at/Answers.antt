use Rattle.part_text.specs.PartText.{version_of}
use Rattle.view_core.proofs.Standing.{standing_part}
use Rattle.view_core.proofs.Filling.{few_versions, version_tells}
use Rattle.view_core.proofs.fill.is_sharded_at.Goals as goal

pub returns : goal.returns
returns c = λ s fits stands.
    let version = c.number8_at.ensures (version_of s.part.blocks) (few_versions s.part.blocks)
    (standing_part c.args.store.now c.args.at s fits stands).version in
    version_tells s.part.blocks c.number8_at.result version
