-- The shard of an identity.
use Rattle.std.specs.Prelude.{◌-◌, ◌/◌, ◌^◌, ℕ, List, [], ◌∷◌, ◌++◌, slice_index, length, codes}
use Rattle.sha2.specs.Sha256.{sha256}
use Rattle.ident_core.specs.declared.identity.Identity.{Identity}

-- the message of a shard
abbrev pub shard_text : Identity → List ℕ
shard_text id = codes "CCSHARD" ++ id.issuer ++ (length id.serial ∷ []) ++ id.serial

-- the number that the first bits of the digest spell, as many as the shift says, up to 8
abbrev pub shard : Identity → ℕ → ℕ
shard id shift = slice_index (sha256 (shard_text id)) 0 / 2 ^ (8 - shift)
