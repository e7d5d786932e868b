-- What is known of an identity's rows and shards.
use Rattle.std.specs.Prelude.{◌≡◌, ℕ, Option, IfSome}
use Rattle.ident_core.specs.declared.identity.Identity.{Identity}
use Rattle.equation_core.specs.declared.known.Drawn.{Drawn}
use Rattle.equation_core.specs.Rows.{row_of_key}
use Rattle.equation_core.specs.Shards.{shard}

-- the octet is the identity's shard among 256, and the row is that of its key
pub record IsKnown (id : Identity) (octet : Option ℕ) (drawn : Option Drawn) : Type 0 where
  pub shard : IfSome octet (λ o. o ≡ shard id 8)
  pub row : IfSome drawn (λ d. d.row ≡ row_of_key d.key id)
