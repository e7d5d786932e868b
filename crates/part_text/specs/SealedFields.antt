-- A part with its trailer.
use Rattle.std.specs.Prelude.{ℕ, List}
use Rattle.card_core.specs.PartFields.{PartFields}

pub record SealedFields : Type 0 where
  pub part : PartFields
  pub trailer : List ℕ
