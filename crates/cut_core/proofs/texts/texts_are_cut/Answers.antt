use Rattle.cut_core.proofs.Records.{meaning_cut, merged_cut, merged_on, pieces_epoch}
use Rattle.cut_core.proofs.texts.texts_are_cut.Goals as goal

pub returns : goal.returns
returns c = record { meaning = meaning_cut; merged = merged_cut; more = merged_on; epochs = pieces_epoch }
