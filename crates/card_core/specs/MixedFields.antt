-- What a mixed body holds.
use Rattle.std.specs.Prelude.{Option}
use Rattle.card_core.specs.declared.stage.Stage.{Stage}

pub record MixedFields : Type 0 where
  pub approx : Option Stage
  pub exact : Stage
