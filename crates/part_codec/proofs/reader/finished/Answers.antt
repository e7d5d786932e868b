use Rattle.std.proofs.Math.Logic.{∥∥₁_elim}
use Rattle.part_codec.proofs.Onces.{head-once, part-once, bytes-once}
use Rattle.part_codec.proofs.Readings.{of-pile, done-fits, done-part}
use Rattle.part_codec.proofs.reader.finished.Goals as goal

pub new-head-requires : goal.new-head-requires
new-head-requires c =
    rw (c.kind.ensures, c.lists-ranges.ensures.ranges) (∥∥₁_elim c.requires.read (head-once _) (λ h. (done-fits c.args.machine c.args.pile h c.requires.done).part.head.facts))

pub new-requires : goal.new-requires
new-requires c =
    rw (c.lists-ranges.ensures.blocks, c.new-head.ensures, c.kind.ensures, c.lists-ranges.ensures.ranges) (∥∥₁_elim c.requires.read (part-once _) (λ h.
    (done-fits c.args.machine c.args.pile h c.requires.done).part.facts))

pub new-requires-2 : goal.new-requires-2
new-requires-2 c =
    rw (c.new.ensures, c.lists-ranges.ensures.blocks, c.new-head.ensures, c.kind.ensures, c.lists-ranges.ensures.ranges) (∥∥₁_elim c.requires.read (bytes-once _ _) (λ h.
    (done-fits c.args.machine c.args.pile h c.requires.done).trailer))

pub returns : goal.returns
returns c = λ b x r.
    rw (c.new-2.ensures, c.new.ensures, c.lists-ranges.ensures.blocks, c.new-head.ensures, c.kind.ensures, c.lists-ranges.ensures.ranges) (done-part c.args.machine c.args.pile b x (of-pile _ _ _ r) c.requires.done)
