use Rattle.std.proofs.Common.{◌≡◌, length, map, drop}
use Rattle.std.specs.Prelude.{string_bytes}
use Rattle.word_core.specs.Words.{keys_of}
use Rattle.word_core.proofs.OneByOne.{with_first}
use Rattle.word_core.proofs.words.read_keys.Given as goal

abbrev pub invariant-loop-word : goal.invariant-loop-word
invariant-loop-word l = record {
  read : with_first l.keys.items (keys_of (map string_bytes (drop l.word-index l.words))) ≡ keys_of (map string_bytes l.words);
  len : length l.keys.items ≡ l.word-index;
}
