-- What was drawn for an identity.
use Rattle.std.specs.Prelude.{◌≡◌, ℕ, Option, IfSome}
use Rattle.ident_core.specs.declared.identity.Identity.{Identity}
use Rattle.equation_core.specs.declared.sha256_rows.RowBits.{RowBits}
use Rattle.equation_core.specs.Rows.{sha256_bits}
use Rattle.equation_core.specs.Shards.{shard}

-- the octet is the identity's shard among 256, and the bits are those of its rows of stages 1 and 2, of seed 0
pub record AreDrawn (id : Identity) (octet : Option ℕ) (of_one of_two : Option RowBits) : Type 0 where
  pub shard : IfSome octet (λ o. o ≡ shard id 8)
  pub first : IfSome of_one (λ bits. bits ≡ sha256_bits 1 0 id)
  pub second : IfSome of_two (λ bits. bits ≡ sha256_bits 2 0 id)
