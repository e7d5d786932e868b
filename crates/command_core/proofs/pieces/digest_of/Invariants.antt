use Rattle.std.proofs.Common.{take}
use Rattle.sha2.specs.Hashers.{Holds256}
use Rattle.command_core.specs.Digested.{concatenated}
use Rattle.command_core.proofs.pieces.digest_of.Given as goal

abbrev pub invariant-loop-piece : goal.invariant-loop-piece
invariant-loop-piece l = Holds256 l.hasher (concatenated (take l.piece-index l.pieces))
