use Rattle.std.proofs.Common.{refl}
use Rattle.store_core.proofs.StoreReads.{none-came}
use Rattle.store_core.proofs.reader.Parts.new.Goals as goal

pub returns : goal.returns
returns c = λ b is. none-came _ b c.args.count is refl refl refl refl c.new.ensures.stands c.new.ensures.fresh
