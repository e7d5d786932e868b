-- An identity has one of the shards.
use Rattle.std.specs.Prelude.{slice_index}
use Rattle.std.proofs.Common.{◌≡◌, ◌<◌, ◌≤◌, ◌-◌, ◌/◌, ◌^◌, ℕ, zero, suc, arith}
use Rattle.std.proofs.Math.Pow.{pow_mono}
use Rattle.sha2.specs.Sha256.{sha256}
use Rattle.ident_core.specs.declared.identity.Identity.{Identity}
use Rattle.equation_core.specs.Digits.{digest-small}
use Rattle.equation_core.specs.Shards.{shard_text, shard}

pub parted : (n shift : ℕ) → n < 2 ^ 8 → n / 2 ^ (8 - shift) < 2 ^ shift
parted n zero lt = omega (arith, lt)
parted n (suc zero) lt = omega (arith, lt)
parted n (suc (suc zero)) lt = omega (arith, lt)
parted n (suc (suc (suc zero))) lt = omega (arith, lt)
parted n (suc (suc (suc (suc zero)))) lt = omega (arith, lt)
parted n (suc (suc (suc (suc (suc zero))))) lt = omega (arith, lt)
parted n (suc (suc (suc (suc (suc (suc zero)))))) lt = omega (arith, lt)
parted n (suc (suc (suc (suc (suc (suc (suc zero))))))) lt = omega (arith, lt)
parted n (suc (suc (suc (suc (suc (suc (suc (suc s)))))))) lt =
    let more : 2 ^ 8 ≤ 2 ^ suc (suc (suc (suc (suc (suc (suc (suc s))))))) = pow_mono {i = 8} {j = suc (suc (suc (suc (suc (suc (suc (suc s)))))))} (omega arith) in omega (arith, lt, more)

pub shard_below : (id : Identity) (shift : ℕ) → shard id shift < 2 ^ shift
shard_below id shift = parted (slice_index (sha256 (shard_text id)) 0) shift (digest-small (shard_text id) 0)

-- with no bit there is one shard
pub shard_zero : (id : Identity) → shard id 0 ≡ 0
shard_zero id = omega (arith, digest-small (shard_text id) 0)
