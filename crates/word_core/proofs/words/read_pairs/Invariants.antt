use Rattle.std.proofs.Common.{◌≡◌, ◌*◌, ◌+◌, length, map}
use Rattle.std.specs.Prelude.{string_bytes}
use Rattle.word_core.specs.Words.{pairs_of}
use Rattle.word_core.proofs.OneByOne.{with_first}
use Rattle.word_core.proofs.words.read_pairs.Given as goal

abbrev pub invariant-loop-rest : goal.invariant-loop-rest
invariant-loop-rest l = record {
  read : with_first l.sightings.items (pairs_of (map string_bytes l.rest)) ≡ pairs_of (map string_bytes l.words);
  len : 2 * length l.sightings.items + length l.rest ≡ length l.words;
}

abbrev pub decreases-loop-rest : goal.decreases-loop-rest
decreases-loop-rest l = length l.rest
