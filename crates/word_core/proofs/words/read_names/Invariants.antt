use Rattle.std.proofs.Common.{◌≡◌, length, map, drop}
use Rattle.std.specs.Prelude.{string_bytes}
use Rattle.word_core.specs.Words.{names_of}
use Rattle.word_core.proofs.OneByOne.{with_first}
use Rattle.word_core.proofs.words.read_names.Given as goal

abbrev pub invariant-loop-word : goal.invariant-loop-word
invariant-loop-word l = record {
  read : with_first l.names.items (names_of (map string_bytes (drop l.word-index l.words))) ≡ names_of (map string_bytes l.words);
  len : length l.names.items ≡ l.word-index;
}
