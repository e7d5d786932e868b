use Rattle.std.proofs.Common.{rules}
use Rattle.part_codec.proofs.Onces.{pile-can}
use Rattle.part_codec.proofs.pile.PileCollector.put.Goals as goal

pub collect-requires : goal.collect-requires
collect-requires c = pile-can c.args.self.now c.args.field c.args.kept.now c.args.piece.now (c.requires (search rules))
