use Rattle.cut_core.proofs.Reading.{raw_text, cut_read, merged_read}
use Rattle.cut_core.proofs.texts.texts_are_read.Goals as goal

pub returns : goal.returns
returns c = record {
  text = λ limits bytes j octets is. raw_text limits bytes octets j is;
  cut = cut_read;
  merged = merged_read;
}
