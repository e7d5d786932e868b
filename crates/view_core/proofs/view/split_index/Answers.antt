use Rattle.view_core.proofs.IndexWords.{words_of_parts, words_of_shards}
use Rattle.view_core.proofs.view.split_index.Goals as goal

pub returns : goal.returns
returns c = λ parts shards behind is. rw is (words_of_parts parts shards behind, words_of_shards _ _ parts shards behind)
